use Rattle.std.proofs.Common.{◌*◌, ◌<◌, ◌≤◌, length}
use Rattle.answers.specs.Texts.{section_texts}
use Rattle.turn.specs.Turns.{book_of}
use Rattle.writing.specs.Pens.{Writes}
use Rattle.answers.proofs.sections.put_sections.Given as goal

abbrev pub invariant-loop-section : goal.invariant-loop-section
invariant-loop-section g l = record {
  written : Writes (section_texts l.line (book_of l.register).rows l.section) l.initial.answer l.answer;
  short : l.section-end ≤ 16 → length (book_of l.register).rows < 10000 → length (section_texts l.line (book_of l.register).rows l.section) ≤ 33 * l.section;
}
