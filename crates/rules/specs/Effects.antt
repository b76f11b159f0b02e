-- What an accepted call does.
use Rattle.std.specs.Prelude.{ℕ, true, false, List, Some, None, Option, slice_set}
use Rattle.block.specs.Meaning.{after}
use Rattle.block.specs.declared.order.Action.{Action}
use Rattle.block.specs.declared.order.Direction.{Direction}
use Rattle.block.specs.declared.order.Phase.{Phase}
use Rattle.rules.specs.Calls.{section_of, direction_of, action_of}
use Rattle.rules.specs.State.{LineState, section_at, with_block, with_home, with_pedal}
use Rattle.trains.specs.Trains.{put_first, is_free, bears, free, taken, exit_post}
use Rattle.rules.specs.declared.calls.Call.{Call}
use Rattle.rules.specs.declared.calls.Call.TheVariants.{PlaceTrain, WithdrawTrain, GiveRelease, OpenSignal, CloseSignal, EnterSection, ReturnRelease, OpenHome, ShutHome, ReachPedal, LeaveSection, ClearSection, UnsealSection, RestoreSection}
use Rattle.rules.specs.declared.signals.BlockSignal.TheVariants.{Closed, Open, Fallen}
use Rattle.rules.specs.declared.signals.HomeSignal.TheVariants.{Shut, Open as HomeOpen}
use Rattle.rules.specs.declared.signals.SectionState.{SectionState}
use Rattle.trains.specs.declared.places.Place.TheVariants.{AtPost, Running, OnPedal}
use Rattle.trains.specs.declared.places.TrainRecord.{TrainRecord}

-- how each call changes one section
abbrev pub section_effect : Call → Option Direction → SectionState → SectionState
section_effect (PlaceTrain n p) o x = x
section_effect (WithdrawTrain n) o x = x
section_effect (GiveRelease k d) o x = x
section_effect (OpenSignal k d) o x = with_block d Open x
section_effect (CloseSignal k d) o x = with_block d Closed x
section_effect (EnterSection n k) None x = x
section_effect (EnterSection n k) (Some d) x = with_block d Fallen x
section_effect (ReturnRelease k d) o x = x
section_effect (OpenHome k d) o x = with_home d HomeOpen x
section_effect (ShutHome k d) o x = with_home d Shut x
section_effect (ReachPedal n k) o x = x
section_effect (LeaveSection n k) o x = with_pedal true x
section_effect (ClearSection k d) o x = x
section_effect (UnsealSection k d) o x = x
section_effect (RestoreSection k d) o x = with_pedal false x

-- how each call changes the table of trains: one record at the most
abbrev pub trains_effect : Call → Option Direction → List TrainRecord → List TrainRecord
trains_effect (PlaceTrain n p) o xs = put_first is_free (taken n (AtPost p)) xs
trains_effect (WithdrawTrain n) o xs = put_first (bears n) free xs
trains_effect (GiveRelease k d) o xs = xs
trains_effect (OpenSignal k d) o xs = xs
trains_effect (CloseSignal k d) o xs = xs
trains_effect (EnterSection n k) None xs = xs
trains_effect (EnterSection n k) (Some d) xs = put_first (bears n) (taken n (Running k d)) xs
trains_effect (ReturnRelease k d) o xs = xs
trains_effect (OpenHome k d) o xs = xs
trains_effect (ShutHome k d) o xs = xs
trains_effect (ReachPedal n k) None xs = xs
trains_effect (ReachPedal n k) (Some d) xs = put_first (bears n) (taken n (OnPedal k d)) xs
trains_effect (LeaveSection n k) None xs = xs
trains_effect (LeaveSection n k) (Some d) xs = put_first (bears n) (taken n (AtPost (exit_post k d))) xs
trains_effect (ClearSection k d) o xs = xs
trains_effect (UnsealSection k d) o xs = xs
trains_effect (RestoreSection k d) o xs = xs

-- the phases once the instrument has worked what was asked of it
abbrev pub phases_effect : Option Action → Option ℕ → Option Direction → List Phase → List Phase
phases_effect None o p ps = ps
phases_effect (Some a) None p ps = ps
phases_effect (Some a) (Some k) None ps = ps
phases_effect (Some a) (Some k) (Some d) ps = after ps a k d

-- the sections once the one that a call names has been changed
abbrev pub sections_effect : Option ℕ → (SectionState → SectionState) → List SectionState → List SectionState
sections_effect None change xs = xs
sections_effect (Some k) change xs = slice_set xs k (change (section_at xs k))

-- the line after an accepted call
unfoldable pub effect : LineState → Call → LineState
effect s c = record {
  condition = s.condition;
  phases = phases_effect (action_of c) (section_of c) (direction_of s c) s.phases;
  sections = sections_effect (section_of c) (section_effect c (direction_of s c)) s.sections;
  trains = trains_effect c (direction_of s c) s.trains;
}
