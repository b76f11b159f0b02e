use Rattle.std.proofs.Common.{◌≡◌, ◌++◌, length, refl, ap, ◌∙◌, arith}
use Rattle.answers.specs.Texts.{heading_text}
use Rattle.reading.specs.Lines.{lines}
use Rattle.turn.proofs.Playing.{lawful}
use Rattle.turn.specs.Turn.{run}
use Rattle.turn.specs.Turns.{turn_of}
use Rattle.writing.specs.Facts.{writes_then, writes_as}
use Rattle.sheet.specs.Played.{readable, line_answers}
use Rattle.sheet.specs.Sheets.{first_turn, end_text}
use Rattle.sheet.proofs.Beginning.{made_new, begins_new, empty_book, few_rows}
use Rattle.sheet.proofs.Lengths.{run_room, played_short, whole_text}
use Rattle.sheet.proofs.turns.play_over.Goals as goal

pub returns : goal.returns
returns g c =
    let phases = g.I.BlockInstrument.phases in
    let h = c.args.heading in
    let good = c.requires.good in
    let ls = lines c.args.sheet.now in
    let t = turn_of c.new-line.result c.new-register.result c.new-seals.result in
    let line = c.new-line.ensures ∙ made_new (phases c.args.instrument) h.sections c.requires.at_rest good.some in
    let register = empty_book c.new-register.result _ 1000 c.new-register.ensures.empty c.new-register.ensures.lent refl in
    let seals = empty_book c.new-seals.result _ 50 c.new-seals.ensures.empty c.new-seals.ensures.lent refl in
    let start : t ≡ first_turn h = λ i. record { line = line i; register = register i; seals = seals i } in
    let end = turn_of c.play_lines.new.line c.play_lines.new.register c.play_lines.new.seals in
    let ran : end ≡ run (first_turn h) (readable ls) = c.play_lines.ensures.played ∙ ap (λ u. run u (readable ls)) start in
    let answers = writes_as (ap (λ u. line_answers 2 u ls) start) c.play_lines.ensures.answered in
    let all = writes_then _ (end_text end) (writes_then (heading_text h) (line_answers 2 (first_turn h) ls) c.put_heading.ensures answers) c.put_sections.ensures.written in
    let room = few_rows c.play_lines.new.register 1000 (ap (λ u. u.register.room) ran ∙ run_room (first_turn h) (readable ls)) in
    record {
      answered = writes_as (ap (λ u. (heading_text h ++ line_answers 2 (first_turn h) ls) ++ end_text u) ran ∙ whole_text h ls) all;
      short = λ few. played_short h good ls few (omega (arith, c.put_sections.ensures.short (omega (arith, room)), ap (λ u. length (end_text u)) ran));
      lawful = lawful (first_turn h) (begins_new h good) (readable ls);
    }
