-- The meaning of a block instrument: what it answers, and which phases it then has, from the list of its sections' phases.
use Rattle.std.specs.Prelude.{ℕ, cond, List, length, Some, None, Ok, Err, Result, nat_lt, slice_index_or, slice_set}
use Rattle.block.specs.declared.order.Action.{Action}
use Rattle.block.specs.declared.order.Direction.{Direction}
use Rattle.block.specs.declared.order.Phase.{Phase}
use Rattle.block.specs.declared.order.Phase.TheVariants.{Rest}
use Rattle.block.specs.declared.refusals.InstrumentRefusal.{InstrumentRefusal}
use Rattle.block.specs.declared.refusals.InstrumentRefusal.TheVariants.{NoSection}
use Rattle.block.specs.Order.{same_phase, leaves, brings}
use Rattle.block.specs.Refusals.{refusal}

-- one section, found in a phase: the phase that the action leads to, or its refusal
abbrev pub worked : Action → ℕ → Direction → Phase → Result Phase InstrumentRefusal
worked a k d found = cond (same_phase found (leaves a d)) (Ok (brings a d)) (Err (refusal a k d found))

-- the phase that the section then has: the old one where the action is refused
abbrev pub phase_of : Phase → Result Phase InstrumentRefusal → Phase
phase_of found (Ok p) = p
phase_of found (Err e) = found

abbrev pub phase_after : Action → ℕ → Direction → Phase → Phase
phase_after a k d found = phase_of found (worked a k d found)

abbrev pub phase_at : List Phase → ℕ → Phase
phase_at ps k = slice_index_or ps k Rest

-- the answer to the question for the phase of section k
unfoldable pub phase_answer : List Phase → ℕ → Result Phase InstrumentRefusal
phase_answer ps k = cond (nat_lt k (length ps)) (Ok (phase_at ps k)) (Err (NoSection k None))

-- what an action comes to at section k: the section's phase after it, or the refusal
abbrev pub outcome : List Phase → Action → ℕ → Direction → Result Phase InstrumentRefusal
outcome ps a k d = cond (nat_lt k (length ps)) (worked a k d (phase_at ps k)) (Err (NoSection k (Some d)))

abbrev pub answer_of : Result Phase InstrumentRefusal → Result (Unit {0}) InstrumentRefusal
answer_of (Ok p) = Ok tt
answer_of (Err e) = Err e

abbrev pub put : List Phase → ℕ → Result Phase InstrumentRefusal → List Phase
put ps k (Ok p) = slice_set ps k p
put ps k (Err e) = ps

-- the answer to an action
unfoldable pub answer : List Phase → Action → ℕ → Direction → Result (Unit {0}) InstrumentRefusal
answer ps a k d = answer_of (outcome ps a k d)

-- the phases after an action: one is changed where it is accepted, none where it is refused
unfoldable pub after : List Phase → Action → ℕ → Direction → List Phase
after ps a k d = put ps k (outcome ps a k d)
