-- What a reader goes over.
use Rattle.std.specs.Prelude.{◌≡◌, ℕ, cond, List, [], ◌∷◌, is_some, Some, None, Option, MatchOption}
use Rattle.block.specs.declared.order.Direction.{Direction}
use Rattle.reading.specs.Grammar.{exactly, number, direction}
use Rattle.reading.specs.Places.{Place, onward}
use Rattle.reading.specs.Outcomes.{Outcome, Got, Stuck, mapped, both}
use Rattle.reading.specs.Written.{space, line_feed}

-- the first byte
abbrev pub front : List ℕ → Option ℕ
front [] = None
front (x ∷ xs) = Some x

-- what is made of the first byte ahead is given, and the reader goes over that byte where something is
abbrev pub ReadsByte : {A : Type 0} → (ℕ → Option A → Type 0) → Place → Option A → Place → Type 0
ReadsByte makes old result new = MatchOption (front old.ahead) ((result ≡ None) × (new ≡ old)) (λ x. makes x result × (new ≡ onward (cond (is_some result) 1 0) old))

-- one byte, whichever it is
abbrev pub any_byte : List ℕ → Outcome ℕ
any_byte [] = Stuck 0
any_byte (x ∷ xs) = Got x 1

-- a letter and a space
abbrev pub heads : List ℕ → Outcome (Unit {0})
heads bytes = mapped (λ v. v.1) (both any_byte (exactly space) bytes)

-- and then some fields
abbrev pub lettered : {A : Type 0} → (List ℕ → Outcome A) → List ℕ → Outcome A
lettered fields bytes = mapped (λ v. v.1) (both heads fields bytes)

abbrev pub one_number : List ℕ → Outcome ℕ
one_number bytes = number line_feed bytes

abbrev pub two_numbers : List ℕ → Outcome (ℕ × ℕ)
two_numbers bytes = both (number space) (number line_feed) bytes

abbrev pub number_and_direction : List ℕ → Outcome (ℕ × Direction)
number_and_direction bytes = mapped (λ v. (v.0, v.1.0)) (both (number space) (both direction (exactly line_feed)) bytes)
