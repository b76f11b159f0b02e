use Rattle.std.proofs.Common.{length, ap, arith, length-append}
use Rattle.answers.proofs.TextParts.{next_section}
use Rattle.answers.specs.Texts.{section_text, section_texts}
use Rattle.turn.specs.Turns.{book_of}
use Rattle.writing.specs.Facts.{writes_then, writes_as}
use Rattle.answers.proofs.sections.put_sections.Goals as goal

pub loop-section-preserved : goal.loop-section-preserved
loop-section-preserved g c =
    let s = c.args.line.now in
    let rows = (book_of c.args.register.now).rows in
    let k = c.loop-section.section in
    let here = c.loop-section-test.true in
    record {
      written = writes_as (next_section s rows k) (writes_then _ _ c.loop-section.invariant.written c.put_section.ensures.written);
      short = λ few some. omega (
        arith,
        c.loop-section.invariant.short few some,
        c.put_section.ensures.short (omega arith) some,
        length-append (section_texts s rows k) (section_text s rows k),
        ap length (next_section s rows k),
      );
    }
