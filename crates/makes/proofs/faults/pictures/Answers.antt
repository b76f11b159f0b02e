use Rattle.std.proofs.Common.{rules}
use lib.Count.{ones, ones_in}
use Rattle.makes.specs.Faults.{nearest}
use Rattle.block.specs.Meaning.{phase_answer, answer, after}
use Rattle.makes.proofs.faults.pictures.Goals as goal

pub returns : goal.returns
unfolding nearest ones ones_in phase_answer answer after
returns c = search rules
