-- The table of trains after one record of it is changed.
use Rattle.std.proofs.Common.{◌≡◌, ℕ, suc, ◌+◌, ◌≤◌, Bool, true, false, cond, ◌||◌, eqb, List, [], ◌∷◌, Some, None, Option, sym, refl, ap, ◌∙◌, arith, eq-eqb, ne_eqb, eqb-true}
use Rattle.trains.specs.Trains.{free, taken, holds_number, is_free, bears, place_in, place_of, any, put_first}
use Rattle.trains.specs.declared.places.Place.{Place}
use Rattle.trains.specs.declared.places.Train.{Train}
use Rattle.trains.specs.declared.places.TrainRecord.{TrainRecord}
use Rattle.turn.specs.Alike.{copies, Once}
use Rattle.turn.proofs.Tests.{none_some, true_false}

-- a record holds one train at the most
pub bears_one : (m n : ℕ) → (m ≡ n → ⊥) → (r : TrainRecord) → bears n r ≡ true → bears m r ≡ false
bears_one m n apart r = by r.train
  where
    by : (o : Option Train) → holds_number n o ≡ true → holds_number m o ≡ false
    by None e = refl
    by (Some t) e = ne_eqb t.number m (λ same. apart (sym same ∙ eqb-true t.number n e))

-- a free record holds none
pub free_bears : (m : ℕ) (r : TrainRecord) → is_free r ≡ true → bears m r ≡ false
free_bears m r = by r.train
  where
    by : (o : Option Train) → is_free (record { train = o }) ≡ true → holds_number m o ≡ false
    by None e = refl
    by (Some t) e = absurd (true_false (sym e))

pub taken_bears : (m n : ℕ) (p : Place) → (m ≡ n → ⊥) → bears m (taken n p) ≡ false
taken_bears m n p apart = ne_eqb n m (λ e. apart (sym e))

-- a train that neither the old record nor the new one holds
module _ (m : ℕ) (test : TrainRecord → Bool) (v : TrainRecord) (new : bears m v ≡ false) (old : (r : TrainRecord) → test r ≡ true → bears m r ≡ false) where
  pub place_other : (xs : List TrainRecord) → place_of m (put_first test v xs) ≡ place_of m xs
  place_other [] = refl
  place_other (r ∷ rs) = by (place_other rs) (test r) refl
    where
      by : place_of m (put_first test v rs) ≡ place_of m rs → (b : Bool) → test r ≡ b → place_of m (cond b (v ∷ rs) (r ∷ put_first test v rs)) ≡ place_of m (r ∷ rs)
      by ih true e = ap (λ b. cond b (place_in v.train) (place_of m rs)) new ∙ sym (ap (λ b. cond b (place_in r.train) (place_of m rs)) (old r e))
      by ih false e = ap (λ q. cond (bears m r) (place_in r.train) q) ih

  pub copies_other : (xs : List TrainRecord) → copies m (put_first test v xs) ≡ copies m xs
  copies_other [] = refl
  copies_other (r ∷ rs) = by (copies_other rs) (test r) refl
    where
      by : copies m (put_first test v rs) ≡ copies m rs → (b : Bool) → test r ≡ b → copies m (cond b (v ∷ rs) (r ∷ put_first test v rs)) ≡ copies m (r ∷ rs)
      by ih true e = ap (λ b. cond b 1 0 + copies m rs) new ∙ sym (ap (λ b. cond b 1 0 + copies m rs) (old r e))
      by ih false e = ap (λ q. cond (bears m r) 1 0 + q) ih

-- a train that is moved
module _ (n : ℕ) (p : Place) where
  own : bears n (taken n p) ≡ true
  own = eq-eqb n n refl

  pub place_moved : (xs : List TrainRecord) (q : Place) → place_of n xs ≡ Some q → place_of n (put_first (bears n) (taken n p) xs) ≡ Some p
  place_moved [] q h = absurd (none_some h)
  place_moved (r ∷ rs) q h = by (place_moved rs q) (bears n r) refl h
    where
      by : (place_of n rs ≡ Some q → place_of n (put_first (bears n) (taken n p) rs) ≡ Some p) → (b : Bool) → bears n r ≡ b
          → cond b (place_in r.train) (place_of n rs) ≡ Some q
          → place_of n (cond b (taken n p ∷ rs) (r ∷ put_first (bears n) (taken n p) rs)) ≡ Some p
      by ih true e h = ap (λ b. cond b (Some p) (place_of n rs)) own
      by ih false e h = ap (λ b. cond b (place_in r.train) (place_of n (put_first (bears n) (taken n p) rs))) e ∙ ih h

  pub copies_moved : (xs : List TrainRecord) → copies n (put_first (bears n) (taken n p) xs) ≡ copies n xs
  copies_moved [] = refl
  copies_moved (r ∷ rs) = by (copies_moved rs) (bears n r) refl
    where
      by : copies n (put_first (bears n) (taken n p) rs) ≡ copies n rs → (b : Bool) → bears n r ≡ b
          → copies n (cond b (taken n p ∷ rs) (r ∷ put_first (bears n) (taken n p) rs)) ≡ cond b 1 0 + copies n rs
      by ih true e = ap (λ b. cond b 1 0 + copies n rs) own
      by ih false e = ap (λ b. cond b 1 0 + copies n (put_first (bears n) (taken n p) rs)) e ∙ ap (λ q. 0 + q) ih

-- a train that is taken off
module _ (n : ℕ) where
  pub copies_off : (xs : List TrainRecord) (q : Place) → place_of n xs ≡ Some q → suc (copies n (put_first (bears n) free xs)) ≡ copies n xs
  copies_off [] q h = absurd (none_some h)
  copies_off (r ∷ rs) q h = by (copies_off rs q) (bears n r) refl h
    where
      by : (place_of n rs ≡ Some q → suc (copies n (put_first (bears n) free rs)) ≡ copies n rs) → (b : Bool) → bears n r ≡ b
          → cond b (place_in r.train) (place_of n rs) ≡ Some q
          → suc (copies n (cond b (free ∷ rs) (r ∷ put_first (bears n) free rs))) ≡ cond b 1 0 + copies n rs
      by ih true e h = omega arith
      by ih false e h = omega (arith, ih h, ap (λ b. cond b 1 0 + copies n (put_first (bears n) free rs)) e)

  pub place_none : (xs : List TrainRecord) → copies n xs ≡ 0 → place_of n xs ≡ None
  place_none [] h = refl
  place_none (r ∷ rs) h = by (place_none rs) (bears n r) h
    where
      by : (copies n rs ≡ 0 → place_of n rs ≡ None) → (b : Bool) → cond b 1 0 + copies n rs ≡ 0 → cond b (place_in r.train) (place_of n rs) ≡ None
      by ih true h = absurd (omega arith)
      by ih false h = ih (omega arith)

  pub copies_none : (xs : List TrainRecord) → place_of n xs ≡ None → copies n xs ≡ 0
  copies_none [] h = refl
  copies_none (r ∷ rs) h = by (copies_none rs) r.train h
    where
      by : (place_of n rs ≡ None → copies n rs ≡ 0) → (o : Option Train) → cond (holds_number n o) (place_in o) (place_of n rs) ≡ None
          → cond (holds_number n o) 1 0 + copies n rs ≡ 0
      by ih None h = omega (arith, ih h)
      by ih (Some t) h = case (eqb t.number n) h
        where
          case : (b : Bool) → cond b (Some t.place) (place_of n rs) ≡ None → cond b 1 0 + copies n rs ≡ 0
          case true h = absurd (none_some (sym h))
          case false h = omega (arith, ih h)

-- a train that is put on
module _ (n : ℕ) (p : Place) where
  pub place_new : (xs : List TrainRecord) → place_of n xs ≡ None → any is_free xs ≡ true → place_of n (put_first is_free (taken n p) xs) ≡ Some p
  place_new [] h a = absurd (true_false (sym a))
  place_new (r ∷ rs) h a = by (place_new rs) (bears n r) refl h (is_free r) refl a
    where
      by : (place_of n rs ≡ None → any is_free rs ≡ true → place_of n (put_first is_free (taken n p) rs) ≡ Some p)
          → (b : Bool) → bears n r ≡ b → cond b (place_in r.train) (place_of n rs) ≡ None
          → (f : Bool) → is_free r ≡ f → (f || any is_free rs) ≡ true
          → place_of n (cond f (taken n p ∷ rs) (r ∷ put_first is_free (taken n p) rs)) ≡ Some p
      by ih b e h true i a = ap (λ b. cond b (Some p) (place_of n rs)) (eq-eqb n n refl)
      by ih false e h false i a = ap (λ b. cond b (place_in r.train) (place_of n (put_first is_free (taken n p) rs))) e ∙ ih h a
      by ih true e h false i a = absurd (held r.train e i h)
        where
          held : (o : Option Train) → holds_number n o ≡ true → is_free (record { train = o }) ≡ false → place_in o ≡ None → ⊥
          held None e i h = true_false i
          held (Some t) e i h = none_some (sym h)

  pub copies_new : (xs : List TrainRecord) → copies n (put_first is_free (taken n p) xs) ≤ suc (copies n xs)
  copies_new [] = omega arith
  copies_new (r ∷ rs) = by (copies_new rs) (is_free r) refl
    where
      by : copies n (put_first is_free (taken n p) rs) ≤ suc (copies n rs) → (f : Bool) → is_free r ≡ f
          → copies n (cond f (taken n p ∷ rs) (r ∷ put_first is_free (taken n p) rs)) ≤ suc (copies n (r ∷ rs))
      by ih true e = one (bears n (taken n p)) (cond (bears n r) 1 0)
        where
          one : (b : Bool) (x : ℕ) → cond b 1 0 + copies n rs ≤ suc (x + copies n rs)
          one true x = omega arith
          one false x = omega arith
      by ih false e = omega (arith, ih)

-- some record passes a test of its place just if some train does
module _ (f : Option Place → Bool) (nowhere : f None ≡ false) where
  abbrev pub passes : TrainRecord → Bool
  passes r = f (place_in r.train)

  pub any_from : (n : ℕ) (xs : List TrainRecord) → f (place_of n xs) ≡ true → any passes xs ≡ true
  any_from n [] h = absurd (true_false (sym h ∙ nowhere))
  any_from n (r ∷ rs) h = by (any_from n rs) (bears n r) h
    where
      by : (f (place_of n rs) ≡ true → any passes rs ≡ true) → (b : Bool) → f (cond b (place_in r.train) (place_of n rs)) ≡ true → (passes r || any passes rs) ≡ true
      by ih true h = ap (λ b. b || any passes rs) h
      by ih false h = last (passes r) (ih h)
        where
          last : (b : Bool) {c : Bool} → c ≡ true → (b || c) ≡ true
          last true e = refl
          last false e = e

  pub any_some : (xs : List TrainRecord) → Once xs → any passes xs ≡ true → (n : ℕ) × (f (place_of n xs) ≡ true)
  any_some [] once h = absurd (true_false (sym h))
  any_some (r ∷ rs) once h = by (any_some rs (λ n. omega (arith, once n))) r.train refl (f (place_in r.train)) refl h
    where
      by : (any passes rs ≡ true → (n : ℕ) × (f (place_of n rs) ≡ true))
          → (o : Option Train) → r.train ≡ o → (b : Bool) → f (place_in r.train) ≡ b → (b || any passes rs) ≡ true
          → (n : ℕ) × (f (place_of n (r ∷ rs)) ≡ true)
      by ih None is true e h = absurd (true_false (sym e ∙ ap (λ o. f (place_in o)) is ∙ nowhere))
      by ih (Some t) is true e h = (t.number, ap (λ o. f (cond (holds_number t.number o) (place_in o) (place_of t.number rs))) is ∙ ap (λ b. f (cond b (Some t.place) (place_of t.number rs))) (eq-eqb t.number t.number refl) ∙ ap (λ o. f (place_in o)) (sym is) ∙ e)
      by ih o is false e h = found (ih h)
        where
          found : (n : ℕ) × (f (place_of n rs) ≡ true) → (n : ℕ) × (f (place_of n (r ∷ rs)) ≡ true)
          found w = (w.0, case (bears w.0 r) refl)
            where
              case : (b : Bool) → bears w.0 r ≡ b → f (cond b (place_in r.train) (place_of w.0 rs)) ≡ true
              case true e = absurd (true_false (sym w.1 ∙ ap f (place_none w.0 rs (omega (arith, once w.0, ap (λ b. cond b 1 0 + copies w.0 rs) e))) ∙ nowhere))
              case false e = w.1
