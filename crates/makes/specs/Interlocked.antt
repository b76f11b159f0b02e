-- The phase that an interlocked section's record stands for.
use Rattle.std.specs.Prelude.{◌≡◌}
use Rattle.std.specs.Option.{unwrap_or}
use Rattle.makes.specs.declared.interlocked.record.PaneRecord.{PaneRecord}
use Rattle.block.specs.declared.order.Phase.{Phase}
use Rattle.block.specs.declared.order.Phase.TheVariants.{Rest}
use Rattle.makes.specs.Panes.{panes, locked, shown}

abbrev pub pictured : PaneRecord → Phase
pictured r = unwrap_or (shown r.panes r.lock) Rest

-- the record has the panes and the lock of the phase, and stands for it
pub record Stands (r : PaneRecord) (p : Phase) : Type 0 where
  pub panes : r.panes ≡ panes p
  pub lock : r.lock ≡ locked p
  pub phase : pictured r ≡ p
