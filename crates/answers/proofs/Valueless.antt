-- Only an instrument's refusal has values, where it found a phase.
use Rattle.std.proofs.Common.{◌≡◌, ℕ, [], ◌∷◌, Option, refl}
use Rattle.block.specs.Refusals.{section_value, phase_value}
use Rattle.block.specs.declared.order.Direction.{Direction}
use Rattle.block.specs.declared.refusals.InstrumentRefusal.{InstrumentRefusal}
use Rattle.block.specs.declared.refusals.InstrumentRefusal.TheVariants.{NoSection, NotAtRest, OtherDirection, WrongPhase}
use Rattle.rules.specs.declared.refusals.LineRefusal.{LineRefusal}
use Rattle.rules.specs.declared.refusals.LineRefusal.TheVariants.{NoSectionAtAll, MadeUnsettled, SectionUnknown, PostUnknown, TrainUnknown, TrainPresent, TableFull, TrainAbsent, TrainElsewhere, BlockSignalWrong, HomeSignalWrong, PedalWrong, SectionOccupied, Instrument}
use Rattle.turn.specs.declared.refusals.TurnRefusal.{TurnRefusal}
use Rattle.turn.specs.declared.refusals.TurnRefusal.TheVariants.{RegisterFull, SealBookFull, Line}
use Rattle.answers.specs.Numbers.{found_values, line_values, turn_values}

pub line_valueless : (e : LineRefusal) → ((i : InstrumentRefusal) → e ≡ Instrument i → ⊥) → line_values e ≡ []
line_valueless NoSectionAtAll h = refl
line_valueless MadeUnsettled h = refl
line_valueless SectionUnknown h = refl
line_valueless PostUnknown h = refl
line_valueless TrainUnknown h = refl
line_valueless TrainPresent h = refl
line_valueless TableFull h = refl
line_valueless TrainAbsent h = refl
line_valueless TrainElsewhere h = refl
line_valueless BlockSignalWrong h = refl
line_valueless HomeSignalWrong h = refl
line_valueless PedalWrong h = refl
line_valueless SectionOccupied h = refl
line_valueless (Instrument i) h = absurd (h i refl)

pub turn_valueless : (e : TurnRefusal) → ((l : LineRefusal) → e ≡ Line l → ⊥) → turn_values e ≡ []
turn_valueless RegisterFull h = refl
turn_valueless SealBookFull h = refl
turn_valueless (Line l) h = absurd (h l refl)

pub found_both : (e : InstrumentRefusal) → ((k : ℕ) (asked : Option Direction) → e ≡ NoSection k asked → ⊥) → found_values e ≡ section_value e ∷ phase_value e ∷ []
found_both (NoSection k asked) h = absurd (h k asked refl)
found_both (NotAtRest k d found) h = refl
found_both (OtherDirection k d found) h = refl
found_both (WrongPhase k d found) h = refl
