-- The answer to a whole sheet, test by test.
use Rattle.std.proofs.Common.{◌≡◌, ℕ, ◌<◌, ◌≤◌, false, cond, ◌||◌, ltb, List, [], ◌∷◌, ◌++◌, length, take, drop, Some, None, Ok, Err, sym, ap, ◌∙◌, subst, take-append-drop, le-ltb, lt-ltb}
use Rattle.std.proofs.lemmas.Bool.{or_left, or_right, or_from}
use Rattle.answers.specs.declared.refusals.SheetRefusal.TheVariants.{TooLong, BadHeading, ShortBuffer}
use Rattle.book.specs.declared.Book as lent
use Rattle.reading.specs.Headings.{heading, GoodHeading, HeadingAs}
use Rattle.reading.proofs.HeadingLaw.{heading_law}
use Rattle.reading.specs.Lines.{lines}
use Rattle.reading.specs.declared.headings.Heading.{Heading}
use Rattle.turn.proofs.Playing.{lawful}
use Rattle.writing.specs.Facts.{wrote_fits}
use Rattle.writing.specs.Pens.{pen_of, wrote}
use Rattle.sheet.specs.Played.{readable}
use Rattle.sheet.specs.Sheets.{first_turn, played_text, headed, by_first_line, least_room, sheet_answer, SheetLaw}
use Rattle.sheet.proofs.Beginning.{begins_new}

-- THE TESTS

pub too_many_bytes : (room : ℕ) (sheet : List ℕ) → 16000 < length sheet → sheet_answer room sheet ≡ Err TooLong
unfolding sheet_answer
too_many_bytes room sheet h =
    ap (λ b. cond b (Err TooLong) (cond (ltb room (least_room (length (lines sheet)))) (Err ShortBuffer) (by_first_line (lines sheet))))
    (or_left (ltb 16000 (length sheet)) (ltb 1500 (length (lines sheet))) (lt-ltb 16000 (length sheet) h))

pub too_many_lines : (room : ℕ) (sheet : List ℕ) → 1500 < length (lines sheet) → sheet_answer room sheet ≡ Err TooLong
unfolding sheet_answer
too_many_lines room sheet h =
    ap (λ b. cond b (Err TooLong) (cond (ltb room (least_room (length (lines sheet)))) (Err ShortBuffer) (by_first_line (lines sheet))))
    (or_right (ltb 16000 (length sheet)) (ltb 1500 (length (lines sheet))) (lt-ltb 1500 (length (lines sheet)) h))

module _ (room : ℕ) (sheet : List ℕ) (bytes : length sheet ≤ 16000) (few : length (lines sheet) ≤ 1500) where
  size_good : (ltb 16000 (length sheet) || ltb 1500 (length (lines sheet))) ≡ false
  size_good = or_from (ltb 16000 (length sheet)) (ltb 1500 (length (lines sheet))) (le-ltb 16000 (length sheet) bytes) (le-ltb 1500 (length (lines sheet)) few)

  pub too_little_room : room < least_room (length (lines sheet)) → sheet_answer room sheet ≡ Err ShortBuffer
  unfolding sheet_answer
  too_little_room h =
      ap (λ b. cond b (Err TooLong) (cond (ltb room (least_room (length (lines sheet)))) (Err ShortBuffer) (by_first_line (lines sheet)))) size_good
      ∙ ap (λ b. cond b (Err ShortBuffer) (by_first_line (lines sheet))) (lt-ltb room (least_room (length (lines sheet))) h)

  pub left_to_heading : least_room (length (lines sheet)) ≤ room → sheet_answer room sheet ≡ by_first_line (lines sheet)
  unfolding sheet_answer
  left_to_heading h =
      ap (λ b. cond b (Err TooLong) (cond (ltb room (least_room (length (lines sheet)))) (Err ShortBuffer) (by_first_line (lines sheet)))) size_good
      ∙ ap (λ b. cond b (Err ShortBuffer) (by_first_line (lines sheet))) (le-ltb room (least_room (length (lines sheet))) h)

-- THE HEADING

pub no_line : (ls : List (List ℕ)) → ls ≡ [] → by_first_line ls ≡ Err BadHeading
no_line ls e = ap by_first_line e

pub no_heading : (ls ms : List (List ℕ)) (l : List ℕ) → ls ≡ l ∷ ms → heading l ≡ None → by_first_line ls ≡ Err BadHeading
no_heading ls ms l cut e = ap by_first_line cut ∙ ap (λ o. headed o ms) e

pub good_heading : (ls ms : List (List ℕ)) (l : List ℕ) (h : Heading) → ls ≡ l ∷ ms → heading l ≡ Some h → by_first_line ls ≡ Ok (played_text h ms)
good_heading ls ms l h cut e = ap by_first_line cut ∙ ap (λ o. headed o ms) e

-- THE LAW

good_where : (l : List ℕ) (h : Heading) → heading l ≡ Some h → GoodHeading h
good_where l h e = (subst (HeadingAs l) e (heading_law.lawful l)).0

pub sheet_law : (sheet : List ℕ) → SheetLaw sheet
sheet_law sheet first ls h cut e = lawful (first_turn h) (begins_new h (good_where first h e)) (readable ls)

-- THE BUFFER

-- what a new book of bytes holds after some text for which there is room
module _ (new done : lent.Book ℕ) (buffer text : List ℕ) (empty : new.len ≡ 0) (lent-it : new.rows.now ≡ buffer) (wrote_it : pen_of done ≡ wrote text (pen_of new)) (room : length text ≤ length buffer) where
  start : pen_of new ≡ record { done = []; untouched = buffer }
  start = λ i. record { done = take (empty i) (lent-it i); untouched = drop (empty i) (lent-it i) }

  whole : pen_of done ≡ record { done = text; untouched = drop (length text) buffer }
  whole = wrote_it ∙ ap (wrote text) start ∙ wrote_fits text (record { done = []; untouched = buffer }) room

  pub written_count : length (pen_of done).done ≡ length text
  written_count = ap (λ p. length p.done) whole

  pub written_bytes : done.rows.now ≡ text ++ drop (length text) buffer
  written_bytes = sym (take-append-drop done.len done.rows.now) ∙ ap (λ p. p.done ++ p.untouched) whole
