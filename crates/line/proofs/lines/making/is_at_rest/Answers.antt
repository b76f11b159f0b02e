use Rattle.std.proofs.Common.{rules, ◌∙◌, arith, length}
use Rattle.std.proofs.lemmas.Iterator.{YieldsList-from_range}
use Rattle.std.proofs.lemmas.Iterator.Search.{all_from_yields_List}
use Rattle.block.specs.Meaning.{phase_answer}
use Rattle.line.specs.Lines.{told_rest}
use Rattle.line.proofs.Resting.{rests_throughout}
use Rattle.line.proofs.lines.making.is_at_rest.Goals as goal

pub returns : goal.returns
returns g c =
    let ps = g.I.BlockInstrument.phases c.args.instrument.now in
    all_from_yields_List (λ k. told_rest (phase_answer ps k)) _ _ c.all.result c.all.ensures.ran (YieldsList-from_range 0 c.count.result (length ps) (search rules) (omega arith)) (λ x b q k. search rules) ∙ rests_throughout ps
