-- One byte more in a book.
use Rattle.std.proofs.Common.{◌≡◌, ℕ, List, [], ◌∷◌, ◌++◌, length, take, arith}
use Rattle.std.proofs.lemmas.Grind.{common_steps}
use Rattle.book.specs.Entered.{entered, unused, add_rows}

-- a book takes the byte where a place is free
pub one_byte : (n : ℕ) (rows : List ℕ) (byte : ℕ) → add_rows n rows byte ≡ entered n rows ++ take (length (unused n rows)) (byte ∷ [])
one_byte n rows byte = grind (arith, common_steps)
