-- Where a reader stands, and what reading makes of that.
use Rattle.std.specs.Prelude.{◌≡◌, ℕ, ◌+◌, List, drop, Option}
use Rattle.reading.specs.Outcomes.{Outcome, value_got, moved}

-- how many bytes a reader has gone over, and those that it has still to read
pub record Place : Type 0 where
  pub at : ℕ
  pub ahead : List ℕ

-- n bytes further on
abbrev pub onward : ℕ → Place → Place
onward n p = record { at = p.at + n; ahead = drop n p.ahead }

-- reading from the old place gives what is read of the bytes ahead, and goes on by as many as were good
pub record Reads {A : Type 0} (read : List ℕ → Outcome A) (old : Place) (result : Option A) (new : Place) : Type 0 where
  pub value : result ≡ value_got (read old.ahead)
  pub place : new ≡ onward (moved (read old.ahead)) old
