-- The number and the values of each of a sheet's refusals.
use Rattle.std.specs.Prelude.{ℕ, List, [], ◌∷◌}
use Rattle.block.specs.Order.{phase_code}
use Rattle.block.specs.declared.refusals.InstrumentRefusal.{InstrumentRefusal}
use Rattle.block.specs.declared.refusals.InstrumentRefusal.TheVariants.{NoSection, NotAtRest, OtherDirection, WrongPhase}
use Rattle.rules.specs.declared.refusals.LineRefusal.{LineRefusal}
use Rattle.rules.specs.declared.refusals.LineRefusal.TheVariants.{NoSectionAtAll, MadeUnsettled, SectionUnknown, PostUnknown, TrainUnknown, TrainPresent, TableFull, TrainAbsent, TrainElsewhere, BlockSignalWrong, HomeSignalWrong, PedalWrong, SectionOccupied, Instrument}
use Rattle.turn.specs.Numbers.{turn_number}
use Rattle.turn.specs.declared.refusals.TurnRefusal.{TurnRefusal}
use Rattle.turn.specs.declared.refusals.TurnRefusal.TheVariants.{RegisterFull, SealBookFull, Line}
use Rattle.answers.specs.declared.refusals.SheetLineRefusal.{SheetLineRefusal}
use Rattle.answers.specs.declared.refusals.SheetLineRefusal.TheVariants.{Unreadable, Turn}
use Rattle.answers.specs.declared.refusals.SheetRefusal.{SheetRefusal}
use Rattle.answers.specs.declared.refusals.SheetRefusal.TheVariants.{TooLong, BadHeading, ShortBuffer, Line as AtLine}

abbrev pub line_refusal_number : SheetLineRefusal → ℕ
line_refusal_number (Unreadable place) = 103
line_refusal_number (Turn e) = turn_number e

abbrev pub sheet_number : SheetRefusal → ℕ
sheet_number TooLong = 101
sheet_number BadHeading = 102
sheet_number ShortBuffer = 106
sheet_number (AtLine r) = line_refusal_number r.refusal

-- what the answer tells beside the number: section and phase found for 302 to 304
abbrev pub found_values : InstrumentRefusal → List ℕ
found_values (NoSection k asked) = []
found_values (NotAtRest k d found) = k ∷ phase_code found ∷ []
found_values (OtherDirection k d found) = k ∷ phase_code found ∷ []
found_values (WrongPhase k d found) = k ∷ phase_code found ∷ []

abbrev pub line_values : LineRefusal → List ℕ
line_values NoSectionAtAll = []
line_values MadeUnsettled = []
line_values SectionUnknown = []
line_values PostUnknown = []
line_values TrainUnknown = []
line_values TrainPresent = []
line_values TableFull = []
line_values TrainAbsent = []
line_values TrainElsewhere = []
line_values BlockSignalWrong = []
line_values HomeSignalWrong = []
line_values PedalWrong = []
line_values SectionOccupied = []
line_values (Instrument e) = found_values e

abbrev pub turn_values : TurnRefusal → List ℕ
turn_values RegisterFull = []
turn_values SealBookFull = []
turn_values (Line e) = line_values e

-- the place for 103
abbrev pub refusal_values : SheetLineRefusal → List ℕ
refusal_values (Unreadable place) = place ∷ []
refusal_values (Turn e) = turn_values e
