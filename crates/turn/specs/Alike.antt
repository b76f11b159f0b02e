-- Two turns that differ at the most in which records hold their trains.
use Rattle.std.specs.Prelude.{◌≡◌, ℕ, ◌+◌, ◌≤◌, cond, List, [], ◌∷◌}
use Rattle.trains.specs.Trains.{bears, is_free, place_of}
use Rattle.trains.specs.declared.places.TrainRecord.{TrainRecord}
use Rattle.turn.specs.Turn.{TurnState}

-- how many records hold train n
abbrev pub copies : ℕ → List TrainRecord → ℕ
copies n [] = 0
copies n (r ∷ rs) = cond (bears n r) 1 0 + copies n rs

-- how many records are free
abbrev pub vacancies : List TrainRecord → ℕ
vacancies [] = 0
vacancies (r ∷ rs) = cond (is_free r) 1 0 + vacancies rs

-- no train is held twice
abbrev pub Once : List TrainRecord → Type 0
Once xs = (n : ℕ) → copies n xs ≤ 1

-- the same trains, each at the same place on the line, in whatever records
pub record SameTrains (xs ys : List TrainRecord) : Type 0 where
  pub once : Once xs
  pub once_too : Once ys
  pub places : (n : ℕ) → place_of n xs ≡ place_of n ys
  pub as_many_free : vacancies xs ≡ vacancies ys

pub record Alike (t u : TurnState) : Type 0 where
  pub condition : t.line.condition ≡ u.line.condition
  pub phases : t.line.phases ≡ u.line.phases
  pub sections : t.line.sections ≡ u.line.sections
  pub trains : SameTrains t.line.trains u.line.trains
  pub register : t.register ≡ u.register
  pub seals : t.seals ≡ u.seals
