use Rattle.std.proofs.Common.{ap, ◌∙◌}
use Rattle.reading.specs.Places.{onward}
use Rattle.reading.proofs.Strides.{one_on}
use Rattle.reading.proofs.reader.Reader.read_byte.Goals as goal

pub returns : goal.returns
returns g c = rw (← c.in_ok-byte.ensures) (c.in_ok-value.ensures, one_on _ _ ∙ ap (onward 1) c.self.view_is)
