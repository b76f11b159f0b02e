use Rattle.std.proofs.Common.{get_or, ap, ◌∙◌, arith, rules}
use Rattle.std.proofs.lemmas.List.FromFn.{get_or-map-range_with_len}
use Rattle.makes.specs.Faults.{nearest, nearest_table}
use Rattle.makes.proofs.faults.nearest_picture.Goals as goal

pub returns : goal.returns
unfolding nearest_table
returns c =
    ap (λ xs. get_or xs c.args.panes 0) c.table.ensures
    ∙ get_or-map-range_with_len nearest 0 256 c.args.panes c.args.panes 0 (search rules) (omega arith)
