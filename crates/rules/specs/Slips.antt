-- The slip of an unsealing.
use Rattle.std.specs.Prelude.{ℕ, true, cond, List, Some, None, Ok, Err, Option, Result}
use Rattle.book.specs.Entered.{full}
use Rattle.rules.specs.declared.calls.Call.{Call}
use Rattle.rules.specs.declared.calls.Call.TheVariants.{PlaceTrain, WithdrawTrain, GiveRelease, OpenSignal, CloseSignal, EnterSection, ReturnRelease, OpenHome, ShutHome, ReachPedal, LeaveSection, ClearSection, UnsealSection, RestoreSection}
use Rattle.rules.specs.declared.slips.SealRow.{SealRow}
use Rattle.rules.specs.declared.slips.Slip.{Slip}

-- the slip that an accepted call hands out
abbrev pub slip_of : Call → Option Slip
slip_of (PlaceTrain n p) = None
slip_of (WithdrawTrain n) = None
slip_of (GiveRelease k d) = None
slip_of (OpenSignal k d) = None
slip_of (CloseSignal k d) = None
slip_of (EnterSection n k) = None
slip_of (ReturnRelease k d) = None
slip_of (OpenHome k d) = None
slip_of (ShutHome k d) = None
slip_of (ReachPedal n k) = None
slip_of (LeaveSection n k) = None
slip_of (ClearSection k d) = None
slip_of (UnsealSection k d) = Some (record { section = k; direction = d; owed = true })
slip_of (RestoreSection k d) = None

-- its row in the seal book
abbrev pub seal_row_of : Slip → ℕ → SealRow
seal_row_of s row = record { section = s.section; direction = s.direction; row = row }

-- a full book gives the slip back
abbrev pub enter_answer : ℕ → List SealRow → Slip → Result (Unit {0}) Slip
enter_answer n rows s = cond (full n rows) (Err s) (Ok tt)
