-- What a make that keeps a record for each section answers, from what the one record answers.
use Rattle.std.proofs.Common.{◌≡◌, ℕ, ◌<◌, ◌≤◌, List, length, get_or, set, arith}
use Rattle.std.proofs.Math.Seq.{map-set, take-set-lt}
use Rattle.std.proofs.lemmas.Bool.Decides.{nat_tests}
use Rattle.std.proofs.lemmas.Grind.{common_steps}
use Rattle.makes.specs.Rows.{row}
use Rattle.block.specs.Meaning.{phase_after, after}
use Rattle.block.specs.declared.order.Action.{Action}
use Rattle.block.specs.declared.order.Direction.{Direction}
use Rattle.block.specs.declared.order.Phase.{Phase}

module _ {R : Type 0} (shows : R → Phase) (n : ℕ) (rs : List R) (within : n ≤ length rs) (k : ℕ) (e : R) (here : k < n) where
  pub row_after : (a : Action) (d : Direction) (s : R) → shows s ≡ phase_after a k d (shows (get_or rs k e)) → row shows n (set rs k s) ≡ after (row shows n rs) a k d
  unfolding after
  row_after a d s shown = grind (arith, nat_tests, common_steps, map-set, take-set-lt)
