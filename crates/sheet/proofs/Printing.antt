-- What a program prints of a sheet.
use Rattle.std.proofs.Common.{◌≡◌, ℕ, zero, suc, List, [], ◌∷◌, ◌++◌, length, take, drop, Ok, Err, Result, refl, ap, ◌∙◌, arith}
use Rattle.answers.specs.Texts.{refusal_text}
use Rattle.answers.specs.declared.refusals.SheetRefusal.{SheetRefusal}
use Rattle.book.specs.declared.Book as lent
use Rattle.writing.specs.Pens.{pen_of, wrote, Writes}
use Rattle.sheet.specs.Sheets.{answer_length, answered_buffer, printed}

-- as many of the first as there are of them
take_taken : (n : ℕ) (xs : List ℕ) → take (length (take n xs)) xs ≡ take n xs
take_taken zero [] = refl
take_taken (suc n) [] = refl
take_taken zero (x ∷ xs) = refl
take_taken (suc n) (x ∷ xs) = ap {B = List ℕ} (λ l. x ∷ l) (take_taken n xs)

pub printed_err : (a : Result (List ℕ) SheetRefusal) (e : SheetRefusal) (buffer : List ℕ) (new done : lent.Book ℕ) → Err e ≡ answer_length a → new.len ≡ 0 → new.rows.now ≡ answered_buffer a buffer → Writes (refusal_text e) new done
    → take (length (pen_of done).done) done.rows.now ≡ take (length buffer) (printed a)
unfolding wrote
printed_err (Ok text) e buffer new done told empty lent-it written = absurd (let z : ◌≡◌ {A = ℕ} 0 1 = cc in omega arith)
printed_err (Err f) e buffer new done told empty lent-it written =
    let same : e ≡ f = cc in
    take_taken done.len done.rows.now ∙ ap (λ p. p.done) written.wrote
    ∙ (λ i. take (empty i) (lent-it i) ++ take (length (drop (empty i) (lent-it i))) (refusal_text (same i)))
