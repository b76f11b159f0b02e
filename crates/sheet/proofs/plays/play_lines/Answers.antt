use Rattle.std.proofs.Common.{◌≡◌, [], length, sym, ap, ◌∙◌, ⊎_elim, arith}
use Rattle.reading.proofs.Cutting.{few_lines}
use Rattle.reading.specs.Lines.{lines}
use Rattle.turn.proofs.Playing.{lawful}
use Rattle.turn.specs.Turn.{run}
use Rattle.turn.specs.Turns.{turn_of}
use Rattle.writing.specs.Pens.{pen_of, wrote}
use Rattle.sheet.specs.Played.{readable, line_answers}
use Rattle.sheet.proofs.Playing.{run_on, answers_on, wrote_all}
use Rattle.sheet.proofs.plays.play_lines.Goals as goal

pub loop-text-preserved : goal.loop-text-preserved
loop-text-preserved g c =
    let t = turn_of c.loop-text.line c.loop-text.register c.loop-text.seals in
    let u = turn_of c.play_line-told.new.line c.play_line-told.new.register c.play_line-told.new.seals in
    let ls = lines c.loop-text.text-iterator.a.rest.now in
    let ms = lines c.next.new.self.a.rest.now in
    let l = c.in-Some.text.now in
    let cut = c.in-Some.ensures.steps.0 in
    let here = c.in-Some.ensures.steps.1.0 in
    let next = c.in-Some.ensures.steps.1.1 in
    let i = c.loop-text.invariant in
    let p = pen_of c.loop-text.answer in
    record {
      can = i.can;
      finite = i.finite;
      played = run_on ls ms l cut t u c.play_line-told.ensures.followed ∙ i.played;
      answered = answers_on ls ms l cut t u c.play_line-told.ensures.followed c.in-Some.number c.next.new.self.b.start p (pen_of c.put_told.new.answer) c.play_line-told.result next c.play_line-told.ensures.answered c.put_told.ensures.wrote
          ∙ ap (λ n. wrote (line_answers n t ls) p) here
          ∙ i.answered;
      room = c.put_told.ensures.room ∙ i.room;
      lender = c.put_told.ensures.lender ∙ i.lender;
      counted = omega (arith, i.counted, ap length cut);
    }

pub returns : goal.returns
returns g c =
    let t = turn_of c.args.line.now c.args.register.now c.args.seals.now in
    let here = turn_of c.loop-text.line c.loop-text.register c.loop-text.seals in
    let ls = lines c.loop-text.text-iterator.a.rest.now in
    let i = c.loop-text.invariant in
    let none : ls ≡ [] = ⊎_elim (λ a. a.1.0) (λ b. absurd (omega (arith, i.counted, few_lines c.args.sheet.now, b.1.0))) c.in-None.ensures.steps in
    record {
      played = sym (ap (λ k. run here (readable k)) none) ∙ i.played;
      answered = record {
        wrote = sym (wrote_all c.loop-text.text-iterator.b.start here ls (pen_of c.loop-text.answer) none) ∙ i.answered;
        room = i.room;
        lender = i.lender;
      };
      lawful = λ new. lawful t new (readable (lines c.args.sheet.now));
    }
