-- The table of trains: where a train is, who is inside a section, and how one record is changed.
use Rattle.std.specs.Prelude.{ℕ, ◌+◌, Bool, true, false, cond, ◌&&◌, List, [], ◌∷◌, Some, None, Option, ◌==◌}
use Rattle.std.specs.List.{list_any}
use Rattle.block.specs.Order.{same_direction}
use Rattle.block.specs.declared.order.Direction.{Direction}
use Rattle.block.specs.declared.order.Direction.TheVariants.{Up, Down}
use Rattle.trains.specs.declared.places.Place.{Place}
use Rattle.trains.specs.declared.places.Place.TheVariants.{AtPost, Running, OnPedal}
use Rattle.trains.specs.declared.places.Train.{Train}
use Rattle.trains.specs.declared.places.TrainRecord.{TrainRecord}

abbrev pub free : TrainRecord
free = record { train = None }

abbrev pub taken : ℕ → Place → TrainRecord
taken n p = record { train = Some (record { number = n; place = p }) }

abbrev pub holds_none : Option Train → Bool
holds_none None = true
holds_none (Some t) = false

abbrev pub holds_number : ℕ → Option Train → Bool
holds_number n None = false
holds_number n (Some t) = t.number == n

abbrev pub is_free : TrainRecord → Bool
is_free r = holds_none r.train

-- whether the record holds train n
abbrev pub bears : ℕ → TrainRecord → Bool
bears n r = holds_number n r.train

abbrev pub place_in : Option Train → Option Place
place_in None = None
place_in (Some t) = Some t.place

-- where train n is; nowhere if no record holds it
abbrev pub place_of : ℕ → List TrainRecord → Option Place
place_of n [] = None
place_of n (r ∷ rs) = cond (bears n r) (place_in r.train) (place_of n rs)

-- whether some record passes
abbrev pub any : (TrainRecord → Bool) → List TrainRecord → Bool
any test rs = list_any test rs

-- the first record that passes is replaced
abbrev pub put_first : (TrainRecord → Bool) → TrainRecord → List TrainRecord → List TrainRecord
put_first test v [] = []
put_first test v (r ∷ rs) = cond (test r) (v ∷ rs) (r ∷ put_first test v rs)

-- the direction in which a train there enters section k: up from the lower post, down from the upper one
abbrev pub departs : ℕ → Option Place → Option Direction
departs k None = None
departs k (Some (AtPost p)) = cond (p == k) (Some Up) (cond (p == k + 1) (Some Down) None)
departs k (Some (Running j d)) = None
departs k (Some (OnPedal j d)) = None

-- the direction in which a train there runs in section k, short of its pedal
abbrev pub runs : ℕ → Option Place → Option Direction
runs k None = None
runs k (Some (AtPost p)) = None
runs k (Some (Running j d)) = cond (j == k) (Some d) None
runs k (Some (OnPedal j d)) = None

-- the direction of a train there that is on the pedal of section k
abbrev pub presses : ℕ → Option Place → Option Direction
presses k None = None
presses k (Some (AtPost p)) = None
presses k (Some (Running j d)) = None
presses k (Some (OnPedal j d)) = cond (j == k) (Some d) None

-- the post at which a train there stands
abbrev pub stands_at : Option Place → Option ℕ
stands_at None = None
stands_at (Some (AtPost p)) = Some p
stands_at (Some (Running j d)) = None
stands_at (Some (OnPedal j d)) = None

-- whether a train there is inside section k
abbrev pub is_inside : ℕ → Option Place → Bool
is_inside k None = false
is_inside k (Some (AtPost p)) = false
is_inside k (Some (Running j d)) = j == k
is_inside k (Some (OnPedal j d)) = j == k

-- whether a train there is on the pedal of section k, in direction d
abbrev pub is_pressing : ℕ → Direction → Option Place → Bool
is_pressing k d None = false
is_pressing k d (Some (AtPost p)) = false
is_pressing k d (Some (Running j e)) = false
is_pressing k d (Some (OnPedal j e)) = j == k && same_direction e d

abbrev pub occupied : ℕ → List TrainRecord → Bool
occupied k rs = any (λ r. is_inside k (place_in r.train)) rs

abbrev pub pedal_pressed : ℕ → Direction → List TrainRecord → Bool
pedal_pressed k d rs = any (λ r. is_pressing k d (place_in r.train)) rs

abbrev pub number_in : Option Train → Option ℕ
number_in None = None
number_in (Some t) = Some t.number

-- the number of a train inside section k, in the order of the records
abbrev pub number_inside : ℕ → List TrainRecord → Option ℕ
number_inside k [] = None
number_inside k (r ∷ rs) = cond (is_inside k (place_in r.train)) (number_in r.train) (number_inside k rs)

-- the post that a train leaves section k for
abbrev pub exit_post : ℕ → Direction → ℕ
exit_post k Up = k + 1
exit_post k Down = k
