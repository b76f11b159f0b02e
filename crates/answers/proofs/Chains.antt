-- Fields that are written one after the other.
use Rattle.std.proofs.Common.{◌≡◌, ℕ, List, [], ◌∷◌, ◌++◌, decimal, sym, ap, ◌∙◌, append_assoc, append-nil}
use Rattle.reading.specs.Written.{space}
use Rattle.answers.specs.Texts.{fields_of}

abbrev pub field : ℕ → List ℕ
field n = space ∷ decimal n

-- one field more
pub fields_last : (ns : List ℕ) (n : ℕ) → fields_of ns ++ field n ≡ fields_of (ns ++ n ∷ [])
fields_last [] n = sym (append-nil (field n))
fields_last (m ∷ ns) n = append_assoc (field m) (fields_of ns) (field n) ∙ ap (λ l. field m ++ l) (fields_last ns n)
