use Rattle.reading.proofs.Cutting.{lines_law}
use Rattle.reading.proofs.HeadingLaw.{heading_law}
use Rattle.reading.proofs.ReadingLaw.{reading_law}
use Rattle.reading.proofs.laws.every_line.Goals as goal

pub returns : goal.returns
returns c = record { calls = reading_law; headings = heading_law; lines = lines_law }
