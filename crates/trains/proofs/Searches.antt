-- What the search for the first record that passes tells.
use Rattle.std.proofs.Common.{◌≡◌, ℕ, ◌+◌, ◌≤◌, Bool, true, false, cond, not, List, [], ◌∷◌, length, find, Option, Some, None, option_and_then, slice_set, refl, ◌∙◌, arith}
use Rattle.std.specs.List.{position_or_len}
use Rattle.std.proofs.lemmas.Grind.{common_steps}
use Rattle.trains.specs.Trains.{place_of, number_inside, bears, is_inside, place_in, number_in, put_first}
use Rattle.trains.specs.declared.places.TrainRecord.{TrainRecord}

-- what the first record that passes is replaced by
module _ (test : TrainRecord → Bool) (v : TrainRecord) where
  pub put_at : (xs : List TrainRecord) → put_first test v xs ≡ slice_set xs (position_or_len test xs) v
  put_at [] = refl
  put_at (r ∷ rs) = by (put_at rs) (test r)
    where
      by : put_first test v rs ≡ slice_set rs (position_or_len test rs) v → (b : Bool) → cond b (v ∷ rs) (r ∷ put_first test v rs) ≡ slice_set (r ∷ rs) (cond (not b) (1 + position_or_len test rs) 0) v
      by ih true = refl
      by ih false = grind (arith, common_steps)

  pub put_none : (xs : List TrainRecord) → length xs ≤ position_or_len test xs → put_first test v xs ≡ xs
  put_none xs past = put_at xs ∙ grind (arith, common_steps)

pub ruleset puts = (put_at, put_none)

module _ {X : Type 0} (test : TrainRecord → Bool) (read : TrainRecord → Option X) where
  -- what is read off the first record that passes
  abbrev pub looked : List TrainRecord → Option X
  looked [] = None
  looked (r ∷ rs) = cond (test r) (read r) (looked rs)

  pub looked_at : (xs : List TrainRecord) → looked xs ≡ option_and_then read (find test xs)
  looked_at [] = refl
  looked_at (r ∷ rs) = by (looked_at rs) (test r)
    where
      by : looked rs ≡ option_and_then read (find test rs) → (b : Bool) → cond b (read r) (looked rs) ≡ option_and_then read (cond b (Some r) (find test rs))
      by ih true = refl
      by ih false = ih

pub place_found : (n : ℕ) (xs : List TrainRecord) → place_of n xs ≡ option_and_then (λ r. place_in r.train) (find (bears n) xs)
place_found n xs = looked_at (bears n) (λ r. place_in r.train) xs

pub number_found : (k : ℕ) (xs : List TrainRecord) → number_inside k xs ≡ option_and_then (λ r. number_in r.train) (find (λ r. is_inside k (place_in r.train)) xs)
number_found k xs = looked_at (λ r. is_inside k (place_in r.train)) (λ r. number_in r.train) xs
