use Rattle.std.proofs.Common.{take}
use Rattle.writing.specs.Pens.{Writes}
use Rattle.writing.proofs.put_text.Given as goal

abbrev pub invariant-loop-byte : goal.invariant-loop-byte
invariant-loop-byte l = Writes (take l.byte-index l.text) l.initial.answer l.answer
