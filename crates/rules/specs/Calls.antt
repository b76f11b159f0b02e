-- What each call names, and what the line knows of it besides.
use Rattle.std.specs.Prelude.{ℕ, Some, None, Option}
use Rattle.block.specs.declared.order.Action.{Action}
use Rattle.block.specs.declared.order.Action.TheVariants.{Give, Open as OpenAction, Return, Clear, Restore}
use Rattle.block.specs.declared.order.Direction.{Direction}
use Rattle.rules.specs.State.{LineState}
use Rattle.trains.specs.Trains.{place_of, departs, runs, presses, stands_at}
use Rattle.rules.specs.declared.calls.Call.{Call}
use Rattle.rules.specs.declared.calls.Call.TheVariants.{PlaceTrain, WithdrawTrain, GiveRelease, OpenSignal, CloseSignal, EnterSection, ReturnRelease, OpenHome, ShutHome, ReachPedal, LeaveSection, ClearSection, UnsealSection, RestoreSection}

-- the train that a call names
abbrev pub train_of : Call → Option ℕ
train_of (PlaceTrain n p) = Some n
train_of (WithdrawTrain n) = Some n
train_of (GiveRelease k d) = None
train_of (OpenSignal k d) = None
train_of (CloseSignal k d) = None
train_of (EnterSection n k) = Some n
train_of (ReturnRelease k d) = None
train_of (OpenHome k d) = None
train_of (ShutHome k d) = None
train_of (ReachPedal n k) = Some n
train_of (LeaveSection n k) = Some n
train_of (ClearSection k d) = None
train_of (UnsealSection k d) = None
train_of (RestoreSection k d) = None

-- the section that a call names
abbrev pub section_of : Call → Option ℕ
section_of (PlaceTrain n p) = None
section_of (WithdrawTrain n) = None
section_of (GiveRelease k d) = Some k
section_of (OpenSignal k d) = Some k
section_of (CloseSignal k d) = Some k
section_of (EnterSection n k) = Some k
section_of (ReturnRelease k d) = Some k
section_of (OpenHome k d) = Some k
section_of (ShutHome k d) = Some k
section_of (ReachPedal n k) = Some k
section_of (LeaveSection n k) = Some k
section_of (ClearSection k d) = Some k
section_of (UnsealSection k d) = Some k
section_of (RestoreSection k d) = Some k

-- the direction of a call: its own, or that in which its train can do what the call says
abbrev pub direction_of : LineState → Call → Option Direction
direction_of s (PlaceTrain n p) = None
direction_of s (WithdrawTrain n) = None
direction_of s (GiveRelease k d) = Some d
direction_of s (OpenSignal k d) = Some d
direction_of s (CloseSignal k d) = Some d
direction_of s (EnterSection n k) = departs k (place_of n s.trains)
direction_of s (ReturnRelease k d) = Some d
direction_of s (OpenHome k d) = Some d
direction_of s (ShutHome k d) = Some d
direction_of s (ReachPedal n k) = runs k (place_of n s.trains)
direction_of s (LeaveSection n k) = presses k (place_of n s.trains)
direction_of s (ClearSection k d) = Some d
direction_of s (UnsealSection k d) = Some d
direction_of s (RestoreSection k d) = Some d

-- the post of a call: the one that it names, or the one at which its train stands
abbrev pub post_of : LineState → Call → Option ℕ
post_of s (PlaceTrain n p) = Some p
post_of s (WithdrawTrain n) = stands_at (place_of n s.trains)
post_of s (GiveRelease k d) = None
post_of s (OpenSignal k d) = None
post_of s (CloseSignal k d) = None
post_of s (EnterSection n k) = None
post_of s (ReturnRelease k d) = None
post_of s (OpenHome k d) = None
post_of s (ShutHome k d) = None
post_of s (ReachPedal n k) = None
post_of s (LeaveSection n k) = None
post_of s (ClearSection k d) = None
post_of s (UnsealSection k d) = None
post_of s (RestoreSection k d) = None

-- the action that a call asks of the instrument
abbrev pub action_of : Call → Option Action
action_of (PlaceTrain n p) = None
action_of (WithdrawTrain n) = None
action_of (GiveRelease k d) = Some Give
action_of (OpenSignal k d) = Some OpenAction
action_of (CloseSignal k d) = None
action_of (EnterSection n k) = None
action_of (ReturnRelease k d) = Some Return
action_of (OpenHome k d) = None
action_of (ShutHome k d) = None
action_of (ReachPedal n k) = None
action_of (LeaveSection n k) = None
action_of (ClearSection k d) = Some Clear
action_of (UnsealSection k d) = Some Clear
action_of (RestoreSection k d) = Some Restore
