-- What holds of every action on every instrument.
use Rattle.std.proofs.Common.{◌≡◌, ℕ, true, List, arith}
use Rattle.std.proofs.lemmas.Bool.Decides.{nat_tests}
use Rattle.std.proofs.lemmas.Grind.{common_steps}
use Rattle.block.specs.Meaning.{answer, after}
use Rattle.block.specs.Order.{same_phase}
use Rattle.block.specs.Steps.{Step}
use Rattle.block.specs.declared.order.Action.{Action}
use Rattle.block.specs.declared.order.Direction.{Direction}
use Rattle.block.specs.declared.order.Phase.{Phase}

-- a phase's code tells it from the others
pub same_is : (p q : Phase) → same_phase p q ≡ true → p ≡ q
same_is p q t = grind (arith, nat_tests)

pub step : (ps : List Phase) (a : Action) (k : ℕ) (d : Direction) → Step ps a k d
unfolding answer after
step ps a k d = grind (arith, nat_tests, common_steps)
