-- How the bytes of a sheet are cut into lines.
use Rattle.std.proofs.Common.{◌≡◌, ℕ, suc, ◌<◌, ◌≤◌, Bool, cond, Some, None, eqb, ltb, ◌+◌, List, [], ◌∷◌, ◌++◌, length, take, drop, ⊎_elim, sym, refl, ap, ◌∙◌, subst, inl, inr, append-nil, arith, eq-eqb, ne_eqb}
use Rattle.std.proofs.lemmas.Bool.{cases_eq, cond-true, cond-false}
use Rattle.std.specs.List.{position, position_or_len}
use Rattle.std.proofs.lemmas.Bool.Decides.{nat_tests}
use Rattle.reading.specs.Lines.{onto, lines, line_length, joined, Feedless, Ended, Cut, LinesLaw}
use Rattle.reading.specs.Written.{line_feed}

-- THE BYTES

joined_onto : (x : ℕ) (ls : List (List ℕ)) → joined (onto x ls) ≡ x ∷ joined ls
joined_onto x [] = refl
joined_onto x (l ∷ ls) = refl

whole : (bytes : List ℕ) → joined (lines bytes) ≡ bytes
whole [] = refl
whole (x ∷ xs) = grind (arith, nat_tests, joined_onto, whole xs)

-- EACH IS A LINE

cut_feed : (x : ℕ) → x ≡ line_feed → (ls : List (List ℕ)) → Cut ls → Cut ((x ∷ []) ∷ ls)
cut_feed x e [] c = inl (record { front = []; feedless = tt; whole = ap (λ y. y ∷ []) e })
cut_feed x e (l ∷ ls) c = (record { front = []; feedless = tt; whole = ap (λ y. y ∷ []) e }, c)

longer : (x : ℕ) (l : List ℕ) → (x ≡ line_feed → ⊥) → Ended l → Ended (x ∷ l)
longer x l e h = record { front = x ∷ h.front; feedless = (e, h.feedless); whole = ap (λ m. x ∷ m) h.whole }

cut_onto : (x : ℕ) → (x ≡ line_feed → ⊥) → (ls : List (List ℕ)) → Cut ls → Cut (onto x ls)
cut_onto x e [] c = inr (record { some = omega arith; feedless = (e, tt) })
cut_onto x e (l ∷ []) (inl h) = inl (longer x l e h)
cut_onto x e (l ∷ []) (inr h) = inr (record { some = omega arith; feedless = (e, h.feedless) })
cut_onto x e (l ∷ m ∷ ls) c = (longer x l e c.0, c.1)

cut : (bytes : List ℕ) → Cut (lines bytes)
cut [] = tt
cut (x ∷ xs) =
    ⊎_elim
    (λ e. subst Cut (sym (cond-true (eqb x line_feed) _ _ (eq-eqb x line_feed e))) (cut_feed x e (lines xs) (cut xs)))
    (λ e. subst Cut (sym (cond-false (eqb x line_feed) _ _ (ne_eqb x line_feed e))) (cut_onto x e (lines xs) (cut xs)))
    (cases_eq x line_feed)

-- NO OTHER WAY

after_ended : (front rest : List ℕ) → Feedless front → lines ((front ++ line_feed ∷ []) ++ rest) ≡ (front ++ line_feed ∷ []) ∷ lines rest
after_ended [] rest f = refl
after_ended (x ∷ front) rest f = grind (arith, nat_tests, after_ended front rest f.1)

only_one : (l : List ℕ) → 0 < length l → Feedless l → lines l ≡ l ∷ []
only_one [] s f = absurd (omega arith)
only_one (x ∷ []) s f = grind (arith, nat_tests)
only_one (x ∷ y ∷ l) s f = grind (arith, nat_tests, only_one (y ∷ l) (omega arith) f.1)

ended_first : (l rest : List ℕ) → Ended l → lines (l ++ rest) ≡ l ∷ lines rest
ended_first l rest e = ap (λ m. lines (m ++ rest)) e.whole ∙ after_ended e.front rest e.feedless ∙ ap (λ m. m ∷ lines rest) (sym e.whole)

back : (ls : List (List ℕ)) → Cut ls → lines (joined ls) ≡ ls
back [] c = refl
back (l ∷ []) (inl e) = ended_first l [] e
back (l ∷ []) (inr u) = ap lines (append-nil l) ∙ only_one l u.some u.feedless
back (l ∷ m ∷ ls) c = ended_first l (joined (m ∷ ls)) c.0 ∙ ap (λ k. l ∷ k) (back (m ∷ ls) c.1)

pub lines_law : LinesLaw
lines_law = record { whole = whole; cut = cut; one_way = λ bytes ls e c. sym (back ls c) ∙ ap lines e }

-- THE FIRST LINE

-- what is in front, and what is left
pub split : (bytes : List ℕ) → 0 < length bytes → lines bytes ≡ take (line_length bytes) bytes ∷ lines (drop (line_length bytes) bytes)
split [] s = absurd (omega arith)
split (x ∷ []) s = grind (arith, nat_tests)
split (x ∷ y ∷ ys) s = grind (arith, nat_tests, split (y ∷ ys) (omega arith))

pub within : (bytes : List ℕ) → line_length bytes ≤ length bytes
within [] = omega arith
within (x ∷ xs) = grind (arith, nat_tests, within xs)

-- by the place of the first line feed, where there is one
abbrev pub feeds : ℕ → Bool
feeds x = eqb x line_feed

length_by_position : (bytes : List ℕ) → line_length bytes ≡ cond (ltb (position_or_len feeds bytes) (length bytes)) (position_or_len feeds bytes + 1) (length bytes)
length_by_position [] = refl
length_by_position (x ∷ xs) = grind (arith, nat_tests, length_by_position xs)

pub to_feed : (bytes : List ℕ) (i : ℕ) → position feeds bytes ≡ Some i → i + 1 ≡ line_length bytes
to_feed bytes i e = grind (arith, nat_tests, length_by_position bytes)

pub no_feed : (bytes : List ℕ) → position feeds bytes ≡ None → length bytes ≡ line_length bytes
no_feed bytes e = grind (arith, nat_tests, length_by_position bytes)

few_onto : (x : ℕ) (ls : List (List ℕ)) → length (onto x ls) ≤ suc (length ls)
few_onto x [] = omega arith
few_onto x (l ∷ ls) = omega arith

pub few_lines : (bytes : List ℕ) → length (lines bytes) ≤ length bytes
few_lines [] = omega arith
few_lines (x ∷ xs) = grind (arith, nat_tests, few_onto, few_lines xs)
