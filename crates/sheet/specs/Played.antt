-- The lines of a sheet, played on a turn.
use Rattle.std.specs.Prelude.{ℕ, suc, List, [], ◌∷◌, ◌++◌, Ok, Err, Result}
use Rattle.reading.specs.Grammar.{reading}
use Rattle.rules.specs.declared.calls.Call.{Call}
use Rattle.answers.specs.Texts.{told_text}
use Rattle.answers.specs.declared.refusals.SheetLineRefusal.{SheetLineRefusal}
use Rattle.answers.specs.declared.refusals.SheetLineRefusal.TheVariants.{Unreadable, Turn}
use Rattle.answers.specs.declared.refusals.SheetRefusal.{SheetRefusal}
use Rattle.answers.specs.declared.refusals.SheetRefusal.TheVariants.{Line}
use Rattle.turn.specs.Turn.{TurnState, turn_answer, step}
use Rattle.turn.specs.declared.refusals.TurnRefusal.{TurnRefusal}

-- the calls of the readable lines, in order
abbrev pub before : Result Call ℕ → List Call → List Call
before (Ok c) cs = c ∷ cs
before (Err place) cs = cs

abbrev pub readable : List (List ℕ) → List Call
readable [] = []
readable (l ∷ ls) = before (reading l) (readable ls)

-- what a line is told, by how it is read
abbrev pub from_turn : Result (Unit {0}) TurnRefusal → Result (Unit {0}) SheetLineRefusal
from_turn (Ok u) = Ok u
from_turn (Err e) = Err (Turn e)

abbrev pub told : TurnState → Result Call ℕ → Result (Unit {0}) SheetLineRefusal
told t (Ok c) = from_turn (turn_answer t c)
told t (Err place) = Err (Unreadable place)

-- the turn after it: a line that is not read changes nothing
abbrev pub after : TurnState → Result Call ℕ → TurnState
after t (Ok c) = step t c
after t (Err place) = t

-- with the number of the line
abbrev pub numbered : ℕ → Result (Unit {0}) SheetLineRefusal → Result (Unit {0}) SheetRefusal
numbered n (Ok u) = Ok u
numbered n (Err e) = Err (Line (record { line = n; refusal = e }))

-- the answers to the lines, the first of which has this number
abbrev pub line_answers : ℕ → TurnState → List (List ℕ) → List ℕ
line_answers n t [] = []
line_answers n t (l ∷ ls) = told_text n (numbered n (told t (reading l))) ++ line_answers (suc n) (after t (reading l)) ls
