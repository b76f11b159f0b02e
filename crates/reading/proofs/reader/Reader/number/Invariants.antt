use Rattle.std.proofs.Common.{ℕ, length, Option}
use Rattle.reading.specs.Grammar.{number, more_digits}
use Rattle.reading.specs.Places.{Place, Reads}
use Rattle.reading.proofs.reader.Reader.number.Given as goal

-- whatever is read from here is what is read from the start
abbrev pub invariant-loop-number : goal.invariant-loop-number
invariant-loop-number l = (r : Option ℕ) (p : Place) → Reads (more_digits l.end l.number) l.self r p → Reads (number l.end) l.fn.self r p

abbrev pub decreases-loop-number : goal.decreases-loop-number
decreases-loop-number l = length l.self.ahead
