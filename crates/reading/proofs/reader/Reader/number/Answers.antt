use Rattle.std.proofs.Common.{rules}
use Rattle.reading.proofs.MoreDigits.{bars, lacks, grows}
use Rattle.reading.proofs.reader.Reader.number.Goals as goal

pub returns-then-not-contains : goal.returns-then-not-contains
returns-then-not-contains c = c.loop-number.invariant _ _ (search (rules, bars))

pub returns-in_err-number-2 : goal.returns-in_err-number-2
returns-in_err-number-2 c = c.loop-number.invariant _ _ (search (rules, lacks))

pub loop-number-preserved : goal.loop-number-preserved
loop-number-preserved c = λ r p h. c.loop-number.invariant r p (search (rules, grows))
