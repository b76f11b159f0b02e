-- What a caller's proof cites of writing.
use Rattle.std.specs.Prelude.{◌≡◌, ℕ, ◌≤◌, List, [], ◌∷◌, ◌++◌, length, take, drop, refl}
use Rattle.std.proofs.Common.{append_assoc, append-nil, sym, ap, ◌∙◌, arith, length-append, take_all, drop-drop}
use Rattle.book.specs.declared.Book as lent
use Rattle.writing.specs.Pens.{Pen, pen_of, wrote, Writes}

-- two buffers are the same by their two parts
pub same_pen : {done also untouched left : List ℕ} → done ≡ also → untouched ≡ left → ◌≡◌ {A = Pen} (record { done = done; untouched = untouched }) (record { done = also; untouched = left })
same_pen d u = cc

-- as much of two texts as there is room for, and of the two as one
take_both : (a b room : List ℕ) → take (length room) a ++ take (length (drop (length a) room)) b ≡ take (length room) (a ++ b)
take_both [] b [] = refl
take_both [] b (r ∷ room) = refl
take_both (x ∷ a) b [] = refl
take_both (x ∷ a) b (r ∷ room) = ap {B = List ℕ} (λ l. x ∷ l) (take_both a b room)

take_none : (n : ℕ) → take {A = ℕ} n [] ≡ []
take_none n = take_all n [] (omega arith)

pub wrote_twice : (a b : List ℕ) (p : Pen) → wrote b (wrote a p) ≡ wrote (a ++ b) p
unfolding wrote
wrote_twice a b p =
    same_pen
    (append_assoc p.done (take (length p.untouched) a) (take (length (drop (length a) p.untouched)) b) ∙ ap (λ l. p.done ++ l) (take_both a b p.untouched))
    (drop-drop (length b) (length a) p.untouched ∙ ap (λ n. drop n p.untouched) (sym (length-append a b)))

pub wrote_fits : (text : List ℕ) (p : Pen) → length text ≤ length p.untouched → wrote text p ≡ record { done = p.done ++ text; untouched = drop (length text) p.untouched }
unfolding wrote
wrote_fits text p room = same_pen (ap (λ l. p.done ++ l) (take_all (length p.untouched) text room)) refl

pub wrote_nothing : (p : Pen) → wrote [] p ≡ p
unfolding wrote
wrote_nothing p = same_pen (ap (λ l. p.done ++ l) (take_none (length p.untouched)) ∙ append-nil p.done) refl

-- what two calls wrote, one after the other
pub wrote_then : {q r : Pen} (p : Pen) (a b : List ℕ) → q ≡ wrote a p → r ≡ wrote b q → r ≡ wrote (a ++ b) p
wrote_then p a b first next = next ∙ ap (wrote b) first ∙ wrote_twice a b p

-- THE SAME OF A BOOK

pub writes_then : {p q r : lent.Book ℕ} (a b : List ℕ) → Writes a p q → Writes b q r → Writes (a ++ b) p r
writes_then {p = p} a b first next = record {
  wrote = wrote_then (pen_of p) a b first.wrote next.wrote;
  room = next.room ∙ first.room;
  lender = next.lender ∙ first.lender;
}

-- what was written, said of another text that is the same
pub writes_as : {p q : lent.Book ℕ} {a b : List ℕ} → a ≡ b → Writes a p q → Writes b p q
writes_as {p = p} same w = record { wrote = w.wrote ∙ ap (λ t. wrote t (pen_of p)) same; room = w.room; lender = w.lender }
