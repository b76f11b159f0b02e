use Rattle.std.proofs.Common.{rules, arith}
use Rattle.std.proofs.lemmas.Grind.{common_steps}
use Rattle.std.proofs.lemmas.Iterator.{YieldsList-from_slice}
use Rattle.std.proofs.lemmas.Iterator.Search.{find_from_yields_List}
use borrow.Author.Tests.{tests}
use Rattle.trains.specs.Trains.{is_inside, place_in}
use Rattle.trains.proofs.Searches.{number_found}
use Rattle.trains.proofs.table.TrainTable.train_inside.Goals as goal

pub returns-clause-value : goal.returns-clause-value
returns-clause-value c =
    let found = find_from_yields_List (λ r. is_inside c.args.section (place_in r.train)) _ _ c.find.result c.find.ensures.ran (YieldsList-from_slice c.self.inside.records cc) (λ x b q k. search (rules, tests)) in
    grind (arith, common_steps, number_found)
