-- A line that is read from its start, and has to end where its call does.
use Rattle.std.proofs.Common.{◌≡◌, ℕ, cond, eqb, List, length, Some, None, Ok, Err, Option, Result, sym, ap, ◌∙◌, subst, arith}
use Rattle.std.proofs.lemmas.Bool.Decides.{nat_tests}
use Rattle.rules.specs.declared.calls.Call.{Call}
use Rattle.reading.specs.Grammar.{call_line, finished, reading}
use Rattle.reading.specs.Headings.{heading, HeadingAs}
use Rattle.reading.specs.Law.{ReadAs}
use Rattle.reading.specs.Outcomes.{Outcome, Got, Stuck, value_got, moved}
use Rattle.reading.specs.Places.{Place, onward, Reads}
use Rattle.reading.specs.declared.headings.Heading.{Heading}
use Rattle.reading.proofs.HeadingLaw.{heading_law}
use Rattle.reading.proofs.ReadingLaw.{reading_law}

-- what was read, where all of the line was
abbrev pub ended : Option Call → ℕ → ℕ → Result Call ℕ
ended None at n = Err at
ended (Some call) at n = cond (eqb at n) (Ok call) (Err at)

pub reading_ends : (line : List ℕ) {start new : Place} {r : Option Call} → start ≡ record { at = 0; ahead = line } → Reads call_line start r new → reading line ≡ ended r new.at (length line)
unfolding reading
reading_ends line {new = new} {r = r} from h = go (call_line line) (h.value ∙ ap (λ p. value_got (call_line p.ahead)) from) (h.place ∙ ap (λ p. onward (moved (call_line p.ahead)) p) from)
  where
    go : (o : Outcome Call) → r ≡ value_got o → new ≡ onward (moved o) (record { at = 0; ahead = line }) → finished o (length line) ≡ ended r new.at (length line)
    go (Got call n) value place = grind (arith, nat_tests)
    go (Stuck n) value place = grind (arith, nat_tests)

pub as_read : (line : List ℕ) (r : Result Call ℕ) → r ≡ reading line → ReadAs line r
as_read line r e = subst (ReadAs line) (sym e) (reading_law.lawful line)

pub as_heading : (line : List ℕ) (r : Option Heading) → r ≡ heading line → HeadingAs line r
as_heading line r e = subst (HeadingAs line) (sym e) (heading_law.lawful line)
