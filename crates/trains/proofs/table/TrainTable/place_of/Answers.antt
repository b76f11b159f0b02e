use Rattle.std.proofs.Common.{rules, arith}
use Rattle.std.proofs.lemmas.Grind.{common_steps}
use Rattle.std.proofs.lemmas.Iterator.{YieldsList-from_slice}
use Rattle.std.proofs.lemmas.Iterator.Search.{find_from_yields_List}
use borrow.Author.Tests.{tests}
use Rattle.trains.specs.Trains.{bears}
use Rattle.trains.proofs.Searches.{place_found}
use Rattle.trains.proofs.table.TrainTable.place_of.Goals as goal

pub returns-clause-value : goal.returns-clause-value
returns-clause-value c =
    let found = find_from_yields_List (bears c.args.number) _ _ c.find.result c.find.ensures.ran (YieldsList-from_slice c.self.inside.records cc) (λ x b q k. search (rules, tests)) in
    grind (arith, common_steps, place_found)
