-- Two instruments joined into one: the first one's sections, then the second one's, sixteen at the most.
use Rattle.std.specs.Prelude.{◌≤◌, List, ◌++◌, length, take}
use Rattle.std.proofs.Common.{arith, length-take}
use Rattle.block.specs.declared.order.Phase.{Phase}

abbrev pub joined : List Phase → List Phase → List Phase
joined ps qs = take 16 (ps ++ qs)

pub joined_few : (ps qs : List Phase) → length (joined ps qs) ≤ 16
joined_few ps qs = simp length-take (omega arith)
