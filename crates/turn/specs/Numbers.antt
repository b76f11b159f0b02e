-- The number and the values of each of a turn's refusals.
use Rattle.std.specs.Prelude.{ℕ, List, []}
use Rattle.rules.specs.Numbers.{line_number, line_values}
use Rattle.turn.specs.declared.refusals.TurnRefusal.{TurnRefusal}
use Rattle.turn.specs.declared.refusals.TurnRefusal.TheVariants.{RegisterFull, SealBookFull, Line}

abbrev pub turn_number : TurnRefusal → ℕ
turn_number RegisterFull = 104
turn_number SealBookFull = 105
turn_number (Line e) = line_number e

abbrev pub turn_values : TurnRefusal → List ℕ
turn_values RegisterFull = []
turn_values SealBookFull = []
turn_values (Line e) = line_values e
