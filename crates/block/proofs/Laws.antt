-- The laws of a block instrument's meaning, by which callers and makes use it.
use Rattle.std.proofs.Common.{◌≡◌, ℕ, ◌<◌, ◌≤◌, List, length, set, Some, None, Ok, Err, arith}
use Rattle.std.proofs.lemmas.Bool.Decides.{nat_tests}
use Rattle.std.proofs.lemmas.Grind.{common_steps}
use Rattle.block.specs.Order.{brings}
use Rattle.block.specs.Refusals.{told_of, retold, refusal}
use Rattle.block.specs.declared.order.Action.{Action}
use Rattle.block.specs.declared.order.Direction.{Direction}
use Rattle.block.specs.declared.order.Phase.{Phase}
use Rattle.block.specs.declared.refusals.InstrumentRefusal.TheVariants.{NoSection}
use Rattle.block.specs.Meaning.{worked, phase_after, phase_at, phase_answer, answer_of, answer, after}

-- a section that there is
module _ (ps : List Phase) (k : ℕ) (there : k < length ps) where
  pub phase_there : phase_answer ps k ≡ Ok (phase_at ps k)
  unfolding phase_answer
  phase_there = grind (arith, nat_tests)

  pub answer_there : (a : Action) (d : Direction) → answer ps a k d ≡ answer_of (worked a k d (phase_at ps k))
  unfolding answer
  answer_there a d = grind (arith, nat_tests)

  pub after_there : (a : Action) (d : Direction) → after ps a k d ≡ set ps k (phase_after a k d (phase_at ps k))
  unfolding after
  after_there a d = grind (arith, nat_tests, common_steps)

-- a section that there is not
module _ (ps : List Phase) (k : ℕ) (past : length ps ≤ k) where
  pub phase_past : phase_answer ps k ≡ Err (NoSection k None)
  unfolding phase_answer
  phase_past = grind (arith, nat_tests)

  pub answer_past : (a : Action) (d : Direction) → answer ps a k d ≡ Err (NoSection k (Some d))
  unfolding answer
  answer_past a d = grind (arith, nat_tests)

  pub after_past : (a : Action) (d : Direction) → after ps a k d ≡ ps
  unfolding after
  after_past a d = grind (arith, nat_tests)

-- an accepted action leads to the phase that it brings
pub worked_brings : (a : Action) (k : ℕ) (d : Direction) (found p : Phase) → worked a k d found ≡ Ok p → p ≡ brings a d
worked_brings a k d found p e = grind arith

-- which section a refusal is told of does not bear on the rest
module _ (j k : ℕ) (a : Action) (d : Direction) (found : Phase) where
  refusal_told : told_of k (refusal a j d found) ≡ refusal a k d found
  refusal_told = grind arith

  pub answer_told : answer_of (worked a k d found) ≡ retold k (answer_of (worked a j d found))
  answer_told = grind (arith, refusal_told)

  pub after_told : phase_after a k d found ≡ phase_after a j d found
  after_told = grind arith
