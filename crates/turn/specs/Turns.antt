-- A book, as a turn sees it; and when a turn begins new.
use Rattle.std.specs.Prelude.{◌≡◌, ℕ, ◌≤◌, cond, List, [], ◌∷◌, length, Some, None, Option}
use Rattle.book.specs.Entered.{entered}
use Rattle.book.specs.declared.Book as lent
use Rattle.block.specs.declared.order.Phase.{Phase}
use Rattle.line.specs.Lines.{made}
use Rattle.rules.specs.Slips.{seal_row_of}
use Rattle.rules.specs.State.{LineState}
use Rattle.rules.specs.declared.calls.Call.{Call}
use Rattle.rules.specs.declared.slips.SealRow.{SealRow}
use Rattle.rules.specs.declared.slips.Slip.{Slip}
use Rattle.turn.specs.Rows.{unsealing}
use Rattle.turn.specs.Turn.{Book, full, TurnState, new_turn, no_seal_row}
use Rattle.turn.specs.declared.refusals.TurnRefusal.{TurnRefusal}
use Rattle.turn.specs.declared.refusals.TurnRefusal.TheVariants.{RegisterFull, SealBookFull}
use Rattle.turn.specs.declared.rows.RegisterRow.{RegisterRow}

-- a book's rows and room
abbrev pub book_of : {Row : Type 0} → lent.Book Row → Book Row
book_of b = record { rows = entered b.len b.rows.now; room = length b.rows.now }

-- a turn, of a line and two books
abbrev pub turn_of : LineState → lent.Book RegisterRow → lent.Book SealRow → TurnState
turn_of line register seals = record { line = line; register = book_of register; seals = book_of seals }

-- a turn that begins, over an instrument of these phases and slices of so many places
abbrev pub begun : List Phase → ℕ → ℕ → TurnState
begun ps rows seals = record {
  line = made ps;
  register = record { rows = []; room = rows };
  seals = record { rows = []; room = seals };
}

-- whether the books have room for a call
abbrev pub admission : Book RegisterRow → Book SealRow → Call → Option TurnRefusal
admission register seals c = cond (full register) (Some RegisterFull) (cond (no_seal_row (unsealing c) seals) (Some SealBookFull) None)

-- the rows that a slip makes in the seal book
abbrev pub slip_rows : Option Slip → ℕ → List SealRow
slip_rows None place = []
slip_rows (Some s) place = seal_row_of s place ∷ []

-- a turn that begins new
pub record New (t : TurnState) : Type 0 where
  pub sections : ℕ
  pub some : 1 ≤ sections
  pub few : sections ≤ 16
  pub is : t ≡ new_turn sections t.register.room t.seals.room
