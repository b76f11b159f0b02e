-- A turn: one line and two books; one call of it; and a run of calls.
use Rattle.std.specs.Prelude.{ℕ, Bool, false, cond, List, [], ◌∷◌, ◌++◌, length, Some, None, Option, Result, nat_le}
use Rattle.block.specs.declared.order.Direction.{Direction}
use Rattle.std.specs.Option.{option_map}
use Rattle.rules.specs.Checks.{told, refusal}
use Rattle.rules.specs.Effects.{effect}
use Rattle.rules.specs.State.{LineState, new_line}
use Rattle.rules.specs.declared.calls.Call.{Call}
use Rattle.turn.specs.Rows.{row_of, unsealing, seals_of}
use Rattle.turn.specs.declared.refusals.TurnRefusal.{TurnRefusal}
use Rattle.turn.specs.declared.refusals.TurnRefusal.TheVariants.{RegisterFull, SealBookFull, Line}
use Rattle.turn.specs.declared.rows.RegisterRow.{RegisterRow}
use Rattle.rules.specs.declared.slips.SealRow.{SealRow}

-- a book: its rows so far, and for how many it has room
pub record Book (Row : Type 0) : Type 0 where
  pub rows : List Row
  pub room : ℕ

abbrev pub full : {Row : Type 0} → Book Row → Bool
full b = nat_le b.room (length b.rows)

abbrev pub added : {Row : Type 0} → List Row → Book Row → Book Row
added rs b = record { rows = b.rows ++ rs; room = b.room }

pub record TurnState : Type 0 where
  pub line : LineState
  pub register : Book RegisterRow
  pub seals : Book SealRow

-- a turn begins new: n sections at rest, both books empty
abbrev pub new_turn : ℕ → ℕ → ℕ → TurnState
new_turn n rows seals = record {
  line = new_line n;
  register = record { rows = []; room = rows };
  seals = record { rows = []; room = seals };
}

abbrev pub no_seal_row : Option (ℕ × Direction) → Book SealRow → Bool
no_seal_row None b = false
no_seal_row (Some u) b = full b

-- the refusal of a call: the register first, then for an unsealing the seal book, then the line
unfoldable pub turn_refusal : TurnState → Call → Option TurnRefusal
turn_refusal t c =
    cond (full t.register) (Some RegisterFull)
    (cond (no_seal_row (unsealing c) t.seals) (Some SealBookFull) (option_map Line (refusal t.line c)))

-- the turn after an accepted call: one row more in the register, and for an unsealing one in the seal book
abbrev pub worked : TurnState → Call → TurnState
worked t c = record {
  line = effect t.line c;
  register = added (row_of t.line c ∷ []) t.register;
  seals = added (seals_of (unsealing c) (length t.register.rows)) t.seals;
}

abbrev pub unless : Option TurnRefusal → TurnState → TurnState → TurnState
unless None before after = after
unless (Some e) before after = before

-- the turn after a call, accepted or refused
unfoldable pub step : TurnState → Call → TurnState
step t c = unless (turn_refusal t c) t (worked t c)

abbrev pub answer_of : Option TurnRefusal → Result (Unit {0}) TurnRefusal
answer_of o = told o

-- the answer to a call
abbrev pub turn_answer : TurnState → Call → Result (Unit {0}) TurnRefusal
turn_answer t c = answer_of (turn_refusal t c)

-- the turn after a list of calls
abbrev pub run : TurnState → List Call → TurnState
run t [] = t
run t (c ∷ cs) = run (step t c) cs

-- the answers to a list of calls
abbrev pub answers : TurnState → List Call → List (Result (Unit {0}) TurnRefusal)
answers t [] = []
answers t (c ∷ cs) = turn_answer t c ∷ answers (step t c) cs
