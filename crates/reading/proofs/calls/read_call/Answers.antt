use Rattle.std.proofs.Common.{◌≡◌, Ok, arith}
use Rattle.std.proofs.lemmas.Bool.Decides.{nat_tests}
use Rattle.reading.specs.Grammar.{reading}
use Rattle.reading.proofs.WholeLines.{reading_ends, as_read}
use Rattle.reading.proofs.calls.read_call.Goals as goal

pub returns-in-Some : goal.returns-in-Some
returns-in-Some c =
    let all = reading_ends c.args.line.now c.new-reader.ensures c.call.ensures in
    let value : Ok c.in-Some.call ≡ reading c.args.line.now = grind (arith, nat_tests) in
    record { value = value; lawful = as_read _ _ value }

pub returns-in_default-clause-value : goal.returns-in_default-clause-value
returns-in_default-clause-value c =
    let all = reading_ends c.args.line.now c.new-reader.ensures c.call.ensures in
    grind (arith, nat_tests)

pub returns-in_default-clause-lawful : goal.returns-in_default-clause-lawful
returns-in_default-clause-lawful c = as_read _ _ (returns-in_default-clause-value c)
