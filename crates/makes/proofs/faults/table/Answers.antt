use Rattle.std.proofs.Common.{refl}
use lib.Count.{ones, ones_in}
use Rattle.makes.specs.Faults.{nearest, nearest_table}
use Rattle.makes.proofs.faults.table.Goals as goal

pub returns : goal.returns
unfolding nearest nearest_table ones ones_in
returns c = refl
