-- A block instrument's refusals: the number and the values of each, and when each is given.
use Rattle.std.specs.Prelude.{ℕ, cond, Some, None, Ok, Err, Option, Result, nat_lt}
use Rattle.block.specs.declared.order.Action.{Action}
use Rattle.block.specs.declared.order.Action.TheVariants.{Give, Open, Return, Clear, Restore}
use Rattle.block.specs.declared.order.Direction.{Direction}
use Rattle.block.specs.declared.order.Phase.{Phase}
use Rattle.block.specs.declared.refusals.InstrumentRefusal.{InstrumentRefusal}
use Rattle.block.specs.declared.refusals.InstrumentRefusal.TheVariants.{NoSection, NotAtRest, OtherDirection, WrongPhase}
use Rattle.block.specs.Order.{direction_code, phase_code, towards}

abbrev pub number : InstrumentRefusal → ℕ
number (NoSection k asked) = 301
number (NotAtRest k d found) = 302
number (OtherDirection k d found) = 303
number (WrongPhase k d found) = 304

-- the section that was asked for
abbrev pub section_value : InstrumentRefusal → ℕ
section_value (NoSection k asked) = k
section_value (NotAtRest k d found) = k
section_value (OtherDirection k d found) = k
section_value (WrongPhase k d found) = k

-- the question for the phase has no direction: 2
abbrev pub asked_code : Option Direction → ℕ
asked_code None = 2
asked_code (Some d) = direction_code d

abbrev pub direction_value : InstrumentRefusal → ℕ
direction_value (NoSection k asked) = asked_code asked
direction_value (NotAtRest k d found) = direction_code d
direction_value (OtherDirection k d found) = direction_code d
direction_value (WrongPhase k d found) = direction_code d

-- the phase found, or 255 where there is no section to find one in
abbrev pub phase_value : InstrumentRefusal → ℕ
phase_value (NoSection k asked) = 255
phase_value (NotAtRest k d found) = phase_code found
phase_value (OtherDirection k d found) = phase_code found
phase_value (WrongPhase k d found) = phase_code found

-- the same refusal, told of another section number
abbrev pub told_of : ℕ → InstrumentRefusal → InstrumentRefusal
told_of k (NoSection j asked) = NoSection k asked
told_of k (NotAtRest j d found) = NotAtRest k d found
told_of k (OtherDirection j d found) = OtherDirection k d found
told_of k (WrongPhase j d found) = WrongPhase k d found

-- the same answer, its refusal told of another section number
abbrev pub retold : {X : Type 0} → ℕ → Result X InstrumentRefusal → Result X InstrumentRefusal
retold k (Ok x) = Ok x
retold k (Err e) = Err (told_of k e)

-- whether there is a section k among n of them, or its refusal
abbrev pub section_check : ℕ → ℕ → Option Direction → Result (Unit {0}) InstrumentRefusal
section_check k n asked = cond (nat_lt k n) (Ok tt) (Err (NoSection k asked))

-- the refusal of an action that needs a phase of its own direction, where it found another phase
abbrev pub out_of_order : ℕ → Direction → Phase → InstrumentRefusal
out_of_order k d found = cond (towards d found) (WrongPhase k d found) (OtherDirection k d found)

-- the refusal of an action that is not accepted in the phase found
abbrev pub refusal : Action → ℕ → Direction → Phase → InstrumentRefusal
refusal Give k d found = NotAtRest k d found
refusal Open k d found = out_of_order k d found
refusal Return k d found = out_of_order k d found
refusal Clear k d found = out_of_order k d found
refusal Restore k d found = out_of_order k d found
