-- The phase that a telephone section's record stands for.
use Rattle.std.specs.Option.{unwrap_or}
use Rattle.block.specs.declared.order.Phase.{Phase}
use Rattle.block.specs.declared.order.Phase.TheVariants.{Rest}
use Rattle.makes.specs.declared.telephone.record.LetterRecord.{LetterRecord}
use Rattle.makes.specs.Letters.{heard}

abbrev pub understood : LetterRecord → Phase
understood r = unwrap_or (heard r.letter r.direction r.opened) Rest
