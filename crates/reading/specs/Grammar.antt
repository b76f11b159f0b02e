-- How a line is read from its front.
use Rattle.std.specs.Prelude.{ℕ, ◌+◌, ◌-◌, ◌*◌, Bool, cond, ◌&&◌, List, [], ◌∷◌, length, Some, None, Ok, Err, Option, Result, ◌==◌, nat_le, nat_lt}
use Rattle.block.specs.declared.order.Direction.{Direction}
use Rattle.block.specs.declared.order.Direction.TheVariants.{Up, Down}
use Rattle.rules.specs.declared.calls.Call.{Call}
use Rattle.rules.specs.declared.calls.Call.TheVariants.{PlaceTrain, WithdrawTrain, GiveRelease, OpenSignal, CloseSignal, EnterSection, ReturnRelease, OpenHome, ShutHome, ReachPedal, LeaveSection, ClearSection, UnsealSection, RestoreSection}
use Rattle.reading.specs.Outcomes.{Outcome, Got, Stuck, past, mapped, both}
use Rattle.reading.specs.Written.{space, line_feed, direction_letter}

-- one byte, and no other
abbrev pub exactly : ℕ → List ℕ → Outcome (Unit {0})
exactly b [] = Stuck 0
exactly b (x ∷ xs) = cond (x == b) (Got tt 1) (Stuck 0)

abbrev pub is_digit : ℕ → Bool
is_digit x = nat_le 48 x && nat_le x 57

abbrev pub digit : List ℕ → Outcome ℕ
digit [] = Stuck 0
digit (x ∷ xs) = cond (is_digit x) (Got (x - 48) 1) (Stuck 0)

-- a digit may follow a number that is not 0 and has at most four
abbrev pub may_grow : ℕ → Bool
may_grow n = nat_lt 0 n && nat_lt n 10000

-- the further digits of a number, and the byte that ends it
abbrev pub more_digits : ℕ → ℕ → List ℕ → Outcome ℕ
more_digits end n [] = Stuck 0
more_digits end n (x ∷ xs) = cond (x == end) (Got n 1) (cond (may_grow n && is_digit x) (past 1 (more_digits end (n * 10 + (x - 48)) xs)) (Stuck 0))

abbrev pub number : ℕ → List ℕ → Outcome ℕ
number end [] = Stuck 0
number end (x ∷ xs) = cond (is_digit x) (past 1 (more_digits end (x - 48) xs)) (Stuck 0)

abbrev pub direction : List ℕ → Outcome Direction
direction [] = Stuck 0
direction (x ∷ xs) = cond (x == direction_letter Up) (Got Up 1) (cond (x == direction_letter Down) (Got Down 1) (Stuck 0))

-- What follows the letter of a call, and the call that it makes.
pub data Form : Type 0 where
  OfOne : (ℕ → Call) → Form
  OfTwo : (ℕ → ℕ → Call) → Form
  OfSided : (ℕ → Direction → Call) → Form

abbrev pub forms : List (ℕ × Form)
forms =
    (78, OfTwo PlaceTrain)
    ∷ (87, OfOne WithdrawTrain)
    ∷ (71, OfSided GiveRelease)
    ∷ (79, OfSided OpenSignal)
    ∷ (70, OfSided CloseSignal)
    ∷ (69, OfTwo EnterSection)
    ∷ (82, OfSided ReturnRelease)
    ∷ (72, OfSided OpenHome)
    ∷ (83, OfSided ShutHome)
    ∷ (84, OfTwo ReachPedal)
    ∷ (76, OfTwo LeaveSection)
    ∷ (68, OfSided ClearSection)
    ∷ (85, OfSided UnsealSection)
    ∷ (90, OfSided RestoreSection)
    ∷ []

-- the form of a letter
abbrev pub form_in : List (ℕ × Form) → ℕ → Option Form
form_in [] x = None
form_in (e ∷ es) x = cond (x == e.0) (Some e.1) (form_in es x)

abbrev pub form_fields : Form → List ℕ → Outcome Call
form_fields (OfOne f) bytes = mapped f (number line_feed bytes)
form_fields (OfTwo f) bytes = mapped (λ v. f v.0 v.1) (both (number space) (number line_feed) bytes)
form_fields (OfSided f) bytes = mapped (λ v. f v.0 v.1.0) (both (number space) (both direction (exactly line_feed)) bytes)

-- what follows the letter: a space, and then the fields
abbrev pub form_line : Option Form → List ℕ → Outcome Call
form_line None bytes = Stuck 0
form_line (Some f) bytes = past 1 (mapped (λ v. v.1) (both (exactly space) (form_fields f) bytes))

abbrev pub call_line : List ℕ → Outcome Call
call_line [] = Stuck 0
call_line (x ∷ xs) = form_line (form_in forms x) xs

-- nothing may follow the line
abbrev pub finished : {A : Type 0} → Outcome A → ℕ → Result A ℕ
finished (Got a n) length = cond (n == length) (Ok a) (Err n)
finished (Stuck p) length = Err p

unfoldable pub reading : List ℕ → Result Call ℕ
reading line = finished (call_line line) (length line)
