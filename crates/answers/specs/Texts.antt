-- The bytes of each line of an answer.
use Rattle.std.specs.Prelude.{ℕ, zero, suc, List, [], ◌∷◌, ◌++◌, Ok, Err, decimal, Result}
use Rattle.block.specs.Meaning.{phase_at}
use Rattle.block.specs.Order.{phase_code}
use Rattle.reading.specs.Written.{space, line_feed}
use Rattle.reading.specs.declared.headings.Heading.{Heading}
use Rattle.rules.specs.State.{LineState}
use Rattle.std.specs.Option.{unwrap_or}
use Rattle.trains.specs.Trains.{number_inside}
use Rattle.turn.specs.Rows.{tally}
use Rattle.turn.specs.declared.rows.RegisterRow.{RegisterRow}
use Rattle.turn.specs.declared.rows.Kind.TheVariants.{Giving, Leaving, Unsealing}
use Rattle.answers.specs.Numbers.{line_refusal_number, refusal_values, sheet_number}
use Rattle.answers.specs.declared.refusals.SheetRefusal.{SheetRefusal}
use Rattle.answers.specs.declared.refusals.SheetRefusal.TheVariants.{TooLong, BadHeading, ShortBuffer, Line}

-- each number after one space
abbrev pub fields_of : List ℕ → List ℕ
fields_of [] = []
fields_of (n ∷ ns) = (space ∷ decimal n) ++ fields_of ns

-- "turn", the number of sections, and how many are interlocked
abbrev pub heading_text : Heading → List ℕ
heading_text h = (116 ∷ 117 ∷ 114 ∷ 110 ∷ []) ++ fields_of (h.sections ∷ h.interlocked ∷ []) ++ (line_feed ∷ [])

-- "no", and then the numbers
abbrev pub refused : List ℕ → List ℕ
refused numbers = (110 ∷ 111 ∷ []) ++ fields_of numbers ++ (line_feed ∷ [])

-- of a line its number comes first; of a whole sheet there is none
unfoldable pub refusal_text : SheetRefusal → List ℕ
refusal_text TooLong = refused (sheet_number TooLong ∷ [])
refusal_text BadHeading = refused (sheet_number BadHeading ∷ [])
refusal_text ShortBuffer = refused (sheet_number ShortBuffer ∷ [])
refusal_text (Line r) = decimal r.line ++ (space ∷ []) ++ refused (line_refusal_number r.refusal ∷ refusal_values r.refusal)

-- the answer to a line: its number and "ok", or its refusal
unfoldable pub told_text : ℕ → Result (Unit {0}) SheetRefusal → List ℕ
told_text n (Ok u) = decimal n ++ (space ∷ 111 ∷ 107 ∷ line_feed ∷ [])
told_text n (Err e) = refusal_text e

-- a section at the end: "s", its number, its phase, the train inside or 0, and the tally
unfoldable pub section_text : LineState → List RegisterRow → ℕ → List ℕ
section_text s rows k =
    (115 ∷ [])
    ++ fields_of (
    k ∷ phase_code (phase_at s.phases k) ∷ unwrap_or (number_inside k s.trains) 0
    ∷ tally Giving k rows ∷ tally Leaving k rows ∷ tally Unsealing k rows ∷ []
    )
    ++ (line_feed ∷ [])

-- the first n sections, one after the other
abbrev pub section_texts : LineState → List RegisterRow → ℕ → List ℕ
section_texts s rows zero = []
section_texts s rows (suc n) = section_texts s rows n ++ section_text s rows n
