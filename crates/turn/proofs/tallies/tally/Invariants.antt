use Rattle.std.proofs.Common.{◌≡◌, ℕ, ◌+◌, ◌≤◌, List, drop}
use Rattle.turn.specs.Rows.{tally}
use Rattle.turn.specs.declared.rows.Kind.{Kind}
use Rattle.turn.specs.declared.rows.Kind.TheVariants.{Giving, Leaving, Unsealing}
use Rattle.turn.specs.declared.rows.RegisterRow.{RegisterRow}
use Rattle.turn.proofs.tallies.tally.Given as goal

-- counted so far, at most one for each row
abbrev pub Counted : Kind → ℕ → List RegisterRow → ℕ → ℕ → Type 0
Counted kind k rows i n = (n ≤ i) × (n + tally kind k (drop i rows) ≡ tally kind k rows)

abbrev pub invariant-loop-row : goal.invariant-loop-row
invariant-loop-row l =
    Counted Giving l.section l.row-items l.row-index l.givings × Counted Leaving l.section l.row-items l.row-index l.leavings
    × Counted Unsealing l.section l.row-items l.row-index l.unsealings
