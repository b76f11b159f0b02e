use Rattle.std.proofs.Common.{take, replicate, ap, ◌∙◌, arith}
use Rattle.std.proofs.lemmas.List.{take-replicate}
use Rattle.block.specs.declared.order.Phase.TheVariants.{Rest}
use Rattle.makes.proofs.sections.Sections.new.Goals as goal

pub returns : goal.returns
returns g c =
    ap (λ p. take c.min.result (replicate 16 p)) c.at_rest.ensures ∙ take-replicate c.min.result 16 Rest (omega arith) ∙ ap (λ n. replicate n Rest) c.min.ensures
