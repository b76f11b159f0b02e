-- The phases of a make that keeps a record for each section.
use Rattle.std.specs.Prelude.{ℕ, ◌≤◌, List, map, length, take}
use Rattle.std.proofs.Common.{arith, length-take}
use Rattle.block.specs.declared.order.Phase.{Phase}

-- the first n records, each by the phase that it shows
abbrev pub row : {R : Type 0} → (R → Phase) → ℕ → List R → List Phase
row shows n rs = take n (map shows rs)

pub row_few : {R : Type 0} (shows : R → Phase) (n : ℕ) (rs : List R) → n ≤ 16 → length (row shows n rs) ≤ 16
row_few shows n rs few = simp length-take (omega arith)
