use Rattle.std.proofs.Common.{arith}
use Rattle.std.proofs.lemmas.Grind.{common_steps}
use Rattle.reading.proofs.reader.Reader.take.Goals as goal

pub returns : goal.returns
returns c = record { value = grind (arith, common_steps); place = grind (arith, common_steps) }
