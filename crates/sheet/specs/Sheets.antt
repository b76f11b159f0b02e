-- A whole sheet: what it is answered, and what holds of the turn that it plays.
use Rattle.std.specs.Prelude.{◌≡◌, ℕ, ◌+◌, ◌*◌, ◌≤◌, cond, ◌||◌, List, [], ◌∷◌, ◌++◌, length, drop, Some, None, Ok, Err, Option, Result, nat_lt}
use Rattle.answers.specs.Texts.{heading_text, section_texts, refusal_text}
use Rattle.answers.specs.declared.refusals.SheetRefusal.{SheetRefusal}
use Rattle.answers.specs.declared.refusals.SheetRefusal.TheVariants.{TooLong, BadHeading, ShortBuffer}
use Rattle.reading.specs.Headings.{heading}
use Rattle.reading.specs.Lines.{lines}
use Rattle.reading.specs.declared.headings.Heading.{Heading}
use Rattle.rules.specs.State.{count}
use Rattle.turn.specs.Law.{TurnLaw}
use Rattle.turn.specs.Turn.{TurnState, new_turn, run}
use Rattle.sheet.specs.Played.{readable, line_answers}

-- the turn begins new, with a register of 1,000 rows and a seal book of 50
abbrev pub first_turn : Heading → TurnState
first_turn h = new_turn h.sections 1000 50

-- how the sections stand
abbrev pub end_text : TurnState → List ℕ
end_text t = section_texts t.line t.register.rows (count t.line)

-- the heading, the answers to the lines after it, and the sections at the end
unfoldable pub played_text : Heading → List (List ℕ) → List ℕ
played_text h ls = heading_text h ++ line_answers 2 (first_turn h) ls ++ end_text (run (first_turn h) (readable ls))

abbrev pub headed : Option Heading → List (List ℕ) → Result (List ℕ) SheetRefusal
headed None ls = Err BadHeading
headed (Some h) ls = Ok (played_text h ls)

abbrev pub by_first_line : List (List ℕ) → Result (List ℕ) SheetRefusal
by_first_line [] = Err BadHeading
by_first_line (l ∷ ls) = headed (heading l) ls

-- the least buffer for so many lines
abbrev pub least_room : ℕ → ℕ
least_room n = 20 * n + 600

-- the answer to a sheet, with so much room for it: its size first, then the room, then the heading
unfoldable pub sheet_answer : ℕ → List ℕ → Result (List ℕ) SheetRefusal
sheet_answer room sheet =
    cond (nat_lt 16000 (length sheet) || nat_lt 1500 (length (lines sheet))) (Err TooLong)
    (cond (nat_lt room (least_room (length (lines sheet)))) (Err ShortBuffer) (by_first_line (lines sheet)))

-- how many bytes are written
abbrev pub answer_length : Result (List ℕ) SheetRefusal → Result ℕ SheetRefusal
answer_length (Ok text) = Ok (length text)
answer_length (Err e) = Err e

-- the buffer after it: the answer, and every byte past it as it was; a sheet that is refused whole changes none
abbrev pub answered_buffer : Result (List ℕ) SheetRefusal → List ℕ → List ℕ
answered_buffer (Ok text) buffer = text ++ drop (length text) buffer
answered_buffer (Err e) buffer = buffer

-- what a program prints: the answer, or the refusal
abbrev pub printed : Result (List ℕ) SheetRefusal → List ℕ
printed (Ok text) = text
printed (Err e) = refusal_text e

-- The turn that a sheet plays is the run of its readable calls, so that the law of every turn holds at its end.
abbrev pub SheetLaw : List ℕ → Type 0
SheetLaw sheet = (first : List ℕ) (ls : List (List ℕ)) (h : Heading) → lines sheet ≡ first ∷ ls → heading first ≡ Some h → TurnLaw (first_turn h) (readable ls)

-- an answer takes at most 20 bytes for each line of the sheet, and 600 more; and there are at most 1,500 lines
abbrev pub Fits : Result ℕ SheetRefusal → List ℕ → Type 0
Fits (Ok n) sheet = (n ≤ least_room (length (lines sheet))) × (length (lines sheet) ≤ 1500)
Fits (Err e) sheet = Unit {0}
