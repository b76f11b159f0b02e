use Rattle.std.proofs.Common.{take}
use Rattle.answers.specs.Texts.{fields_of}
use Rattle.writing.specs.Pens.{Writes}
use Rattle.answers.proofs.texts.put_fields.Given as goal

abbrev pub invariant-loop-n : goal.invariant-loop-n
invariant-loop-n l = Writes (fields_of (take l.n-index l.numbers)) l.initial.answer l.answer
