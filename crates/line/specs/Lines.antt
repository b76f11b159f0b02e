-- What a line keeps, read off it by the meaning of its instrument; what it answers to a call, and what it then keeps.
use Rattle.std.specs.Prelude.{Bool, true, false, cond, ◌&&◌, List, [], ◌∷◌, length, replicate, Some, None, Ok, Err, Option, Result, ◌==◌}
use Rattle.block.specs.Order.{same_phase}
use Rattle.block.specs.declared.order.Phase.{Phase}
use Rattle.block.specs.declared.order.Phase.TheVariants.{Rest}
use Rattle.block.specs.declared.refusals.InstrumentRefusal.{InstrumentRefusal}
use Rattle.trains.specs.Trains.{free}
use Rattle.rules.specs.Checks.{refusal}
use Rattle.rules.specs.Effects.{effect}
use Rattle.rules.specs.Slips.{slip_of}
use Rattle.rules.specs.State.{LineState, idle}
use Rattle.rules.specs.declared.calls.Call.{Call}
use Rattle.rules.specs.declared.refusals.LineRefusal.{LineRefusal}
use Rattle.rules.specs.declared.signals.Condition.{Condition}
use Rattle.rules.specs.declared.signals.Condition.TheVariants.{Sound, Sectionless, Unsettled}
use Rattle.rules.specs.declared.slips.Slip.{Slip}

abbrev pub at_rest : List Phase → Bool
at_rest [] = true
at_rest (p ∷ ps) = same_phase p Rest && at_rest ps

-- whether an answer to the question for a phase is rest
abbrev pub told_rest : Result Phase InstrumentRefusal → Bool
told_rest (Ok p) = same_phase p Rest
told_rest (Err e) = false

abbrev pub condition_of : List Phase → Condition
condition_of ps = cond (length ps == 0) Sectionless (cond (at_rest ps) Sound Unsettled)

-- a line just made over an instrument of these phases
abbrev pub made : List Phase → LineState
made ps = record {
  condition = condition_of ps;
  phases = ps;
  sections = replicate 16 idle;
  trains = replicate 64 free;
}

-- the answer to a call
abbrev pub answered : Option LineRefusal → Option Slip → Result (Option Slip) LineRefusal
answered None slip = Ok slip
answered (Some e) slip = Err e

abbrev pub line_answer : LineState → Call → Result (Option Slip) LineRefusal
line_answer s c = answered (refusal s c) (slip_of c)

-- the line after a call, accepted or refused
abbrev pub unless : Option LineRefusal → LineState → LineState → LineState
unless None before after = after
unless (Some e) before after = before

unfoldable pub line_after : LineState → Call → LineState
line_after s c = unless (refusal s c) s (effect s c)
