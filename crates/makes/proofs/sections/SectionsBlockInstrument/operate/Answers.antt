use Rattle.std.proofs.Common.{arith}
use Rattle.makes.proofs.Rows.{row_after}
use Rattle.makes.proofs.sections.SectionsBlockInstrument.operate.Goals as goal

pub returns-clause-followed : goal.returns-clause-followed
returns-clause-followed g c = grind (arith, row_after)
