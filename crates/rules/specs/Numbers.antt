-- The number and the values of each of the line's refusals.
use Rattle.std.specs.Prelude.{ℕ, List, [], ◌∷◌}
use Rattle.block.specs.Refusals.{number, section_value, direction_value, phase_value}
use Rattle.rules.specs.declared.refusals.LineRefusal.{LineRefusal}
use Rattle.rules.specs.declared.refusals.LineRefusal.TheVariants.{NoSectionAtAll, MadeUnsettled, SectionUnknown, PostUnknown, TrainUnknown, TrainPresent, TableFull, TrainAbsent, TrainElsewhere, BlockSignalWrong, HomeSignalWrong, PedalWrong, SectionOccupied, Instrument}

abbrev pub line_number : LineRefusal → ℕ
line_number NoSectionAtAll = 201
line_number MadeUnsettled = 202
line_number SectionUnknown = 203
line_number PostUnknown = 204
line_number TrainUnknown = 205
line_number TrainPresent = 206
line_number TableFull = 207
line_number TrainAbsent = 208
line_number TrainElsewhere = 209
line_number BlockSignalWrong = 210
line_number HomeSignalWrong = 211
line_number PedalWrong = 212
line_number SectionOccupied = 213
line_number (Instrument e) = number e

-- only an instrument's refusal has values: section, direction and phase found
abbrev pub line_values : LineRefusal → List ℕ
line_values NoSectionAtAll = []
line_values MadeUnsettled = []
line_values SectionUnknown = []
line_values PostUnknown = []
line_values TrainUnknown = []
line_values TrainPresent = []
line_values TableFull = []
line_values TrainAbsent = []
line_values TrainElsewhere = []
line_values BlockSignalWrong = []
line_values HomeSignalWrong = []
line_values PedalWrong = []
line_values SectionOccupied = []
line_values (Instrument e) = section_value e ∷ direction_value e ∷ phase_value e ∷ []
