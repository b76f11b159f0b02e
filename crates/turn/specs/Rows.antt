-- The rows of the two books: which row a call makes, its values as numbers, and the tally.
use Rattle.std.specs.Prelude.{ℕ, ◌+◌, Bool, false, cond, ◌&&◌, List, [], ◌∷◌, Some, None, Option, ◌==◌}
use Rattle.block.specs.Order.{direction_code}
use Rattle.block.specs.declared.order.Direction.{Direction}
use Rattle.rules.specs.Calls.{train_of, section_of, direction_of, post_of}
use Rattle.rules.specs.State.{LineState}
use Rattle.rules.specs.declared.calls.Call.{Call}
use Rattle.rules.specs.declared.calls.Call.TheVariants.{PlaceTrain, WithdrawTrain, GiveRelease, OpenSignal, CloseSignal, EnterSection, ReturnRelease, OpenHome, ShutHome, ReachPedal, LeaveSection, ClearSection, UnsealSection, RestoreSection}
use Rattle.turn.specs.declared.rows.Kind.{Kind}
use Rattle.turn.specs.declared.rows.Kind.TheVariants.{Placing, Withdrawal, Giving, Opening, Closing, Entry, Returning, HomeOpening, HomeShutting, PedalReached, Leaving, Clearing, Unsealing, Restoring}
use Rattle.turn.specs.declared.rows.RegisterRow.{RegisterRow}
use Rattle.rules.specs.declared.slips.SealRow.{SealRow}

-- the number of a call, 1 to 14
abbrev pub kind_code : Kind → ℕ
kind_code Placing = 1
kind_code Withdrawal = 2
kind_code Giving = 3
kind_code Opening = 4
kind_code Closing = 5
kind_code Entry = 6
kind_code Returning = 7
kind_code HomeOpening = 8
kind_code HomeShutting = 9
kind_code PedalReached = 10
kind_code Leaving = 11
kind_code Clearing = 12
kind_code Unsealing = 13
kind_code Restoring = 14

abbrev pub kind_of : Call → Kind
kind_of (PlaceTrain n p) = Placing
kind_of (WithdrawTrain n) = Withdrawal
kind_of (GiveRelease k d) = Giving
kind_of (OpenSignal k d) = Opening
kind_of (CloseSignal k d) = Closing
kind_of (EnterSection n k) = Entry
kind_of (ReturnRelease k d) = Returning
kind_of (OpenHome k d) = HomeOpening
kind_of (ShutHome k d) = HomeShutting
kind_of (ReachPedal n k) = PedalReached
kind_of (LeaveSection n k) = Leaving
kind_of (ClearSection k d) = Clearing
kind_of (UnsealSection k d) = Unsealing
kind_of (RestoreSection k d) = Restoring

-- the row of an accepted call, on the line as it stood before the call
abbrev pub row_of : LineState → Call → RegisterRow
row_of s c = record {
  kind = kind_of c;
  train = train_of c;
  section = section_of c;
  direction = direction_of s c;
  post = post_of s c;
}

-- a row's values as numbers: call, train or 0, section or 255, direction (2 where there is none), post or 255
abbrev pub number_or : ℕ → Option ℕ → ℕ
number_or n None = n
number_or n (Some m) = m

abbrev pub direction_number : Option Direction → ℕ
direction_number None = 2
direction_number (Some d) = direction_code d

abbrev pub row_values : RegisterRow → List ℕ
row_values r =
    kind_code r.kind ∷ number_or 0 r.train ∷ number_or 255 r.section ∷ direction_number r.direction
    ∷ number_or 255 r.post ∷ []

-- whether a row tells of this kind of call in section k
abbrev pub names : ℕ → Option ℕ → Bool
names k None = false
names k (Some j) = j == k

abbrev pub tells : Kind → ℕ → RegisterRow → Bool
tells kind k r = kind_code r.kind == kind_code kind && names k r.section

-- how many rows do
abbrev pub tally : Kind → ℕ → List RegisterRow → ℕ
tally kind k [] = 0
tally kind k (r ∷ rs) = cond (tells kind k r) 1 0 + tally kind k rs

-- the section and direction of an unsealing
abbrev pub unsealing : Call → Option (ℕ × Direction)
unsealing (PlaceTrain n p) = None
unsealing (WithdrawTrain n) = None
unsealing (GiveRelease k d) = None
unsealing (OpenSignal k d) = None
unsealing (CloseSignal k d) = None
unsealing (EnterSection n k) = None
unsealing (ReturnRelease k d) = None
unsealing (OpenHome k d) = None
unsealing (ShutHome k d) = None
unsealing (ReachPedal n k) = None
unsealing (LeaveSection n k) = None
unsealing (ClearSection k d) = None
unsealing (UnsealSection k d) = Some (k, d)
unsealing (RestoreSection k d) = None

-- the rows that a call adds to the seal book, where its own row of the register is row n
abbrev pub seals_of : Option (ℕ × Direction) → ℕ → List SealRow
seals_of None n = []
seals_of (Some u) n = record { section = u.0; direction = u.1; row = n } ∷ []
