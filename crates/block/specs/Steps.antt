-- What holds of every action on every instrument, whatever its make.
use Rattle.std.specs.Prelude.{◌≡◌, ℕ, ◌<◌, List, length, Ok, Err, ◌≢◌}
use Rattle.block.specs.Meaning.{phase_at, answer, after}
use Rattle.block.specs.Order.{leaves, brings}
use Rattle.block.specs.declared.order.Action.{Action}
use Rattle.block.specs.declared.order.Direction.{Direction}
use Rattle.block.specs.declared.order.Phase.{Phase}
use Rattle.block.specs.declared.refusals.InstrumentRefusal.{InstrumentRefusal}

pub record Step (ps : List Phase) (a : Action) (k : ℕ) (d : Direction) : Type 0 where
  -- the count never changes
  pub count : length (after ps a k d) ≡ length ps
  -- a refusal leaves every phase
  pub refused : (e : InstrumentRefusal) → answer ps a k d ≡ Err e → after ps a k d ≡ ps
  -- an action is accepted only at a section that there is, in the one phase that it leaves, and brings the next one
  pub there : answer ps a k d ≡ Ok tt → k < length ps
  pub found : answer ps a k d ≡ Ok tt → phase_at ps k ≡ leaves a d
  pub brought : answer ps a k d ≡ Ok tt → phase_at (after ps a k d) k ≡ brings a d
  -- and no action changes another section's phase
  pub others : (j : ℕ) → (j ≢ k) → phase_at (after ps a k d) j ≡ phase_at ps j
