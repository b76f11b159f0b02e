-- What reading from the front of some bytes comes to.
use Rattle.std.specs.Prelude.{ℕ, ◌+◌, List, drop, Some, None, Option}

-- A value and how many bytes it took; or how many bytes were good before one that was not.
pub data Outcome (A : Type 0) : Type 0 where
  Got : A → ℕ → Outcome A
  Stuck : ℕ → Outcome A

abbrev pub value_got : {A : Type 0} → Outcome A → Option A
value_got (Got a n) = Some a
value_got (Stuck p) = None

abbrev pub moved : {A : Type 0} → Outcome A → ℕ
moved (Got a n) = n
moved (Stuck p) = p

-- the same, read after n bytes more
abbrev pub past : {A : Type 0} → ℕ → Outcome A → Outcome A
past n (Got a m) = Got a (n + m)
past n (Stuck p) = Stuck (n + p)

abbrev pub mapped : {A B : Type 0} → (A → B) → Outcome A → Outcome B
mapped f (Got a n) = Got (f a) n
mapped f (Stuck p) = Stuck p

-- one reading after another
abbrev pub continued : {A B : Type 0} → Outcome A → (List ℕ → Outcome B) → List ℕ → Outcome (A × B)
continued (Got a n) next bytes = past n (mapped (λ b. (a, b)) (next (drop n bytes)))
continued (Stuck p) next bytes = Stuck p

abbrev pub both : {A B : Type 0} → (List ℕ → Outcome A) → (List ℕ → Outcome B) → List ℕ → Outcome (A × B)
both first next bytes = continued (first bytes) next bytes
