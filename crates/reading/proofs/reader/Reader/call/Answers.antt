use Rattle.std.proofs.Common.{rules, refl}
use Rattle.reading.proofs.CallLetters.{by_letter}
use Rattle.reading.proofs.reader.Reader.call.Goals as goal

pub returns-in-O : goal.returns-in-O
returns-in-O c = by_letter 79 refl _ (search rules) c.sided-in-O.ensures (search rules)

pub returns-in-F : goal.returns-in-F
returns-in-F c = by_letter 70 refl _ (search rules) c.sided-in-F.ensures (search rules)

pub returns-in-E : goal.returns-in-E
returns-in-E c = by_letter 69 refl _ (search rules) c.two-in-E.ensures (search rules)

pub returns-in-R : goal.returns-in-R
returns-in-R c = by_letter 82 refl _ (search rules) c.sided-in-R.ensures (search rules)

pub returns-in-H : goal.returns-in-H
returns-in-H c = by_letter 72 refl _ (search rules) c.sided-in-H.ensures (search rules)

pub returns-in-S : goal.returns-in-S
returns-in-S c = by_letter 83 refl _ (search rules) c.sided-in-S.ensures (search rules)

pub returns-in-T : goal.returns-in-T
returns-in-T c = by_letter 84 refl _ (search rules) c.two-in-T.ensures (search rules)

pub returns-in-L : goal.returns-in-L
returns-in-L c = by_letter 76 refl _ (search rules) c.two-in-L.ensures (search rules)

pub returns-in-D : goal.returns-in-D
returns-in-D c = by_letter 68 refl _ (search rules) c.sided-in-D.ensures (search rules)

pub returns-in-U : goal.returns-in-U
returns-in-U c = by_letter 85 refl _ (search rules) c.sided-in-U.ensures (search rules)

pub returns-in-Z : goal.returns-in-Z
returns-in-Z c = by_letter 90 refl _ (search rules) c.sided-in-Z.ensures (search rules)
