use Rattle.writing.specs.Facts.{wrote_twice, wrote_fits, wrote_nothing}
use Rattle.writing.proofs.laws.every_text.Goals as goal

pub returns : goal.returns
returns c = record { twice = wrote_twice; fits = wrote_fits; nothing = wrote_nothing }
