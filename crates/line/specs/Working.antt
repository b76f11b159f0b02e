-- The parts of working a call: what the instrument is asked, and what is done besides.
use Rattle.std.specs.Prelude.{ℕ, ◌<◌, List, Some, None, Ok, Err, Option, Result}
use Rattle.block.specs.declared.order.Phase.{Phase}
use Rattle.rules.specs.Calls.{section_of, action_of}
use Rattle.block.specs.declared.order.Direction.{Direction}
use Rattle.rules.specs.Checks.{told, first_refusal, own_checks, asked}
use Rattle.rules.specs.Effects.{phases_effect}
use Rattle.rules.specs.State.{LineState}
use Rattle.rules.specs.declared.calls.Call.{Call}
use Rattle.rules.specs.declared.refusals.LineRefusal.{LineRefusal}
use Rattle.rules.specs.declared.refusals.LineRefusal.TheVariants.{TrainElsewhere}

-- what the line's own checks answer
abbrev pub own_answer : LineState → Call → Result (Unit {0}) LineRefusal
own_answer s c = told (first_refusal (own_checks s c))

-- the direction in which a train goes, where no check before refuses it
abbrev pub way_told : Option LineRefusal → Option Direction → Result Direction LineRefusal
way_told (Some e) way = Err e
way_told None None = Err TrainElsewhere
way_told None (Some d) = Ok d

-- the same line with other phases
abbrev pub with_phases : List Phase → LineState → LineState
with_phases ps s = record { condition = s.condition; phases = ps; sections = s.sections; trains = s.trains }

-- what the instrument answers to what a call asks of it, going this way, and the line then
abbrev pub ask_answer : Call → Option Direction → LineState → Result (Unit {0}) LineRefusal
ask_answer c way s = told (first_refusal (asked s (action_of c) (section_of c) way))

abbrev pub ask_after : Call → Option Direction → LineState → LineState
ask_after c way s = with_phases (phases_effect (action_of c) (section_of c) way s.phases) s

-- a call's section is one that there can be
abbrev pub Within : Option ℕ → Type 0
Within None = Unit {0}
Within (Some k) = k < 16
