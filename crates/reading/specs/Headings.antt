-- The heading of a turn sheet: the letter I, the number of sections, and how many of them are interlocked.
use Rattle.std.specs.Prelude.{◌≡◌, ℕ, ◌≤◌, Bool, cond, ◌&&◌, List, ◌∷◌, length, Some, None, Option, ◌==◌, ◌≢◌, nat_le}
use Rattle.reading.specs.Grammar.{exactly}
use Rattle.reading.specs.Outcomes.{Outcome, Got, Stuck, mapped, both}
use Rattle.reading.specs.Readers.{two_numbers}
use Rattle.reading.specs.Written.{space, fields_text, Two}
use Rattle.reading.specs.declared.headings.Heading.{Heading}

abbrev pub heading_letter : ℕ
heading_letter = 73

-- one to sixteen sections, and no more interlocked ones than there are
pub record GoodHeading (h : Heading) : Type 0 where
  pub some : 1 ≤ h.sections
  pub few : h.sections ≤ 16
  pub within : h.interlocked ≤ h.sections

unfoldable pub written_heading : Heading → List ℕ
written_heading h = heading_letter ∷ space ∷ fields_text (Two h.sections h.interlocked)

abbrev pub is_good : Heading → Bool
is_good h = nat_le 1 h.sections && (nat_le h.sections 16 && nat_le h.interlocked h.sections)

abbrev pub checked : Heading → Option Heading
checked h = cond (is_good h) (Some h) None

abbrev pub heading_numbers : List ℕ → Outcome (ℕ × ℕ)
heading_numbers bytes = mapped (λ v. v.1.1) (both (exactly heading_letter) (both (exactly space) two_numbers) bytes)

-- nothing may follow the heading
abbrev pub whole_heading : Outcome (ℕ × ℕ) → ℕ → Option Heading
whole_heading (Got v n) length = cond (n == length) (checked (record { sections = v.0; interlocked = v.1 })) None
whole_heading (Stuck p) length = None

unfoldable pub heading : List ℕ → Option Heading
heading line = whole_heading (heading_numbers line) (length line)

-- A line is read as a heading exactly where it is what is written of a good heading.
abbrev pub HeadingAs : List ℕ → Option Heading → Type 0
HeadingAs line (Some h) = GoodHeading h × (line ≡ written_heading h)
HeadingAs line None = (h : Heading) → GoodHeading h → line ≢ written_heading h

pub record HeadingLaw : Type 0 where
  pub lawful : (line : List ℕ) → HeadingAs line (heading line)
  pub read_back : (h : Heading) → GoodHeading h → heading (written_heading h) ≡ Some h
