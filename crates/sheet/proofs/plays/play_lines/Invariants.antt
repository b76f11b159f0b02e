use Rattle.std.proofs.Common.{◌≡◌, ◌+◌, length}
use Rattle.reading.specs.Lines.{lines}
use Rattle.turn.specs.Turn.{run}
use Rattle.turn.specs.Turns.{turn_of}
use Rattle.writing.specs.Pens.{pen_of, wrote}
use Rattle.sheet.specs.Played.{readable, line_answers}
use Rattle.sheet.proofs.plays.play_lines.Given as goal

-- what is still to be played and written comes to the same
abbrev pub invariant-loop-text : goal.invariant-loop-text
invariant-loop-text g l =
    let all = lines l.sheet in
    let left = lines l.text-iterator.a.rest.now in
    let number = l.text-iterator.b.start in
    let start = turn_of l.initial.line l.initial.register l.initial.seals in
    let here = turn_of l.line l.register l.seals in
    record {
      can : (goal.iterator-loop-text g).can_next l.text-iterator;
      finite : (goal.iterator-loop-text g).is_finite l.text-iterator;
      played : run here (readable left) ≡ run start (readable all);
      answered : wrote (line_answers number here left) (pen_of l.answer) ≡ wrote (line_answers 2 start all) (pen_of l.initial.answer);
      room : length l.answer.rows.now ≡ length l.initial.answer.rows.now;
      lender : l.answer.rows.ghost_name ≡ l.initial.answer.rows.ghost_name;
      counted : number + length left ≡ 2 + length all;
    }
