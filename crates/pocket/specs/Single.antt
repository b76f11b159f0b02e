-- A list of one phase.
use Rattle.std.specs.Prelude.{◌≤◌, [], ◌∷◌, length}
use Rattle.std.proofs.Common.{arith}
use Rattle.block.specs.declared.order.Phase.{Phase}

pub single_few : (p : Phase) → length (p ∷ []) ≤ 16
single_few p = omega arith
