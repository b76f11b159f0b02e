use Rattle.std.proofs.Common.{◌≡◌, Some, ◌<◌, ◌≤◌, length, Ok, sym, ap, ◌∙◌, subst, arith, rules}
use Rattle.reading.specs.Lines.{lines}
use Rattle.writing.specs.Pens.{pen_of, wrote}
use Rattle.sheet.specs.Sheets.{played_text, least_room, answer_length, answered_buffer}
use Rattle.sheet.proofs.Answering.{left_to_heading, good_heading, sheet_law, written_count, written_bytes}
use Rattle.sheet.proofs.sheets.play_sheet.Goals as goal

pub returns-then-sheet-gt-MOST_BYTES-clause-lawful : goal.returns-then-sheet-gt-MOST_BYTES-clause-lawful
returns-then-sheet-gt-MOST_BYTES-clause-lawful c = sheet_law c.args.sheet.now

pub returns-then-lines-gt-MOST_LINES-clause-lawful : goal.returns-then-lines-gt-MOST_LINES-clause-lawful
returns-then-lines-gt-MOST_LINES-clause-lawful c = sheet_law c.args.sheet.now

pub returns-then-answer-lines-clause-lawful : goal.returns-then-answer-lines-clause-lawful
returns-then-answer-lines-clause-lawful c = sheet_law c.args.sheet.now

pub returns : goal.returns
returns c =
    let buffer = c.args.answer.now in
    let sheet = c.args.sheet.now in
    let h = c.in_ok-heading.heading in
    let n = c.count_lines-lines.ensures in
    let rest = c.rest.ensures in
    let ms = lines c.next.new.self.rest.now in
    let l = c.in_ok-first.first.now in
    let some : c.next.result ≡ Some c.in_ok-first.first = grind arith in
    let cut = sym (ap lines c.new-lines.ensures) ∙ (rw some at c.next.ensures.steps) in
    let headed : c.read_heading.result ≡ Some h = grind arith in
    let text = played_text h ms in
    let same = ap lines rest in
    let e = left_to_heading (length buffer) sheet c.if-sheet-gt-MOST_BYTES.false (let k = c.if-lines-gt-MOST_LINES.false in omega (arith, n)) (let k = c.if-answer-lines.false in omega (arith, n))
    ∙ good_heading (lines sheet) ms l h cut (sym c.read_heading.ensures.value ∙ headed) in
    let wrote_it = c.play_turn.ensures.answered.wrote ∙ ap (λ ls. wrote (played_text h ls) (pen_of c.new-written.result)) same in
    let small : length ms < 9000 = let k = c.if-lines-gt-MOST_LINES.false in omega (arith, n, ap length cut) in
    let fits : length text ≤ least_room (length ms) = subst (λ ls. length (played_text h ls) ≤ least_room (length ls)) same (c.play_turn.ensures.short (subst (λ ls. length ls < 9000) (sym same) small)) in
    let room : length text ≤ length buffer = let k = c.if-answer-lines.false in omega (arith, n, fits, ap length cut) in
    let long = c.len.ensures ∙ written_count c.new-written.result c.play_turn.new.answer buffer text c.new-written.ensures.empty c.new-written.ensures.lent wrote_it room in
    let bytes = written_bytes c.new-written.result c.play_turn.new.answer buffer text c.new-written.ensures.empty c.new-written.ensures.lent wrote_it room in
    record {
      answered = ap Ok long ∙ sym (ap answer_length e);
      written = ◌∙◌ {b = c.play_turn.new.answer.rows.now} (search rules) (bytes ∙ sym (ap (λ a. answered_buffer a buffer) e));
      short = (omega (arith, long, fits, ap length cut), let k = c.if-lines-gt-MOST_LINES.false in omega (arith, n));
      lawful = sheet_law sheet;
    }
