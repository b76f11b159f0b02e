use Rattle.std.proofs.Common.{◌<◌, ◌≤◌, ◌++◌, length, take, sym, ap, ◌∙◌, arith}
use Rattle.turn.specs.Turn.{run, answers}
use Rattle.turn.specs.Turns.{turn_of}
use Rattle.turn.proofs.Playing.{run_on, answers_on, rest_on, played_out, joined, lawful}
use Rattle.turn.proofs.plays.play.Goals as goal

pub loop-i-preserved : goal.loop-i-preserved
loop-i-preserved g c =
    let calls = c.args.calls.now in
    let n = c.min-n.result in
    let i = c.loop-i.i in
    let within : n ≤ length calls = omega arith in
    let fits : i < length c.loop-i.told = omega (arith, c.loop-i.auto.told) in
    let here = turn_of c.loop-i.line c.loop-i.register c.loop-i.seals in
    let next = turn_of c.work.new.line c.work.new.register c.work.new.seals in (
      run_on calls n i _ c.loop-i-test.true within here next c.work.ensures.followed ∙ c.loop-i.invariant.0,
      answers_on calls n i _ c.loop-i-test.true within here next c.work.ensures.followed c.loop-i.told _ fits c.work.ensures.answered ∙ c.loop-i.invariant.1,
      rest_on c.loop-i.told c.args.told.now i _ c.loop-i.invariant.2,
    )

pub returns : goal.returns
returns g c =
    let calls = c.args.calls.now in
    let n = c.min-n.result in
    let i = c.loop-i.i in
    let start = turn_of c.args.line.now c.args.register.now c.args.seals.now in
    let here = turn_of c.loop-i.line c.loop-i.register c.loop-i.seals in
    let out = played_out calls n i c.loop-i-test.false in
    record {
      count = c.min-n.ensures;
      played = sym (ap (run here) out) ∙ c.loop-i.invariant.0;
      answered = joined c.loop-i.told c.args.told.now (answers start (take n calls)) n i (omega arith) (sym (ap (λ cs. take i c.loop-i.told ++ answers here cs) out) ∙ c.loop-i.invariant.1) c.loop-i.invariant.2;
      lawful = λ new. lawful start new (take n calls);
    }
