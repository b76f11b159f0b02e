-- No answer and no effect depends on which record holds a train.
use Rattle.std.proofs.Common.{◌≡◌, ℕ, suc, ◌+◌, ◌≤◌, Bool, true, false, cond, not, ◌||◌, eqb, List, [], ◌∷◌, Some, None, Option, sym, refl, ap, ◌∙◌, subst, ⊎_elim, arith, ne_eqb}
use Rattle.std.proofs.lemmas.Bool.{cases_eq}
use Rattle.block.specs.declared.order.Direction.{Direction}
use Rattle.trains.specs.Trains.{free, taken, is_free, bears, place_in, place_of, any, put_first, is_inside, is_pressing, occupied, pedal_pressed}
use Rattle.trains.specs.declared.places.Place.{Place}
use Rattle.trains.specs.declared.places.Train.{Train}
use Rattle.trains.specs.declared.places.TrainRecord.{TrainRecord}
use Rattle.turn.specs.Alike.{copies, vacancies, Once, SameTrains}
use Rattle.turn.proofs.Tables.{bears_one, free_bears, taken_bears, place_other, copies_other, place_moved, copies_moved, copies_off, place_none, copies_none, place_new, copies_new, any_from, any_some}
use Rattle.turn.proofs.Tests.{none_some, true_false}

same_test : (a b : Bool) → (a ≡ true → b ≡ true) → (b ≡ true → a ≡ true) → a ≡ b
same_test true b f h = sym (f refl)
same_test false true f h = h refl
same_test false false f h = refl

-- a record that holds a train is not free
bears_free : (n : ℕ) (r : TrainRecord) → bears n r ≡ true → is_free r ≡ false
bears_free n r = by r.train
  where
    by : (o : Option Train) → bears n (record { train = o }) ≡ true → is_free (record { train = o }) ≡ false
    by None e = absurd (true_false (sym e))
    by (Some t) e = refl

vacancies_moved : (n : ℕ) (p : Place) (xs : List TrainRecord) → vacancies (put_first (bears n) (taken n p) xs) ≡ vacancies xs
vacancies_moved n p [] = refl
vacancies_moved n p (r ∷ rs) = by (vacancies_moved n p rs) (bears n r) refl
  where
    by : vacancies (put_first (bears n) (taken n p) rs) ≡ vacancies rs → (b : Bool) → bears n r ≡ b → vacancies (cond b (taken n p ∷ rs) (r ∷ put_first (bears n) (taken n p) rs)) ≡ vacancies (r ∷ rs)
    by ih true e = sym (ap (λ f. cond f 1 0 + vacancies rs) (bears_free n r e))
    by ih false e = ap (λ v. cond (is_free r) 1 0 + v) ih

vacancies_off : (n : ℕ) (q : Place) (xs : List TrainRecord) → place_of n xs ≡ Some q → vacancies (put_first (bears n) free xs) ≡ suc (vacancies xs)
vacancies_off n q [] h = absurd (none_some h)
vacancies_off n q (r ∷ rs) h = by (vacancies_off n q rs) (bears n r) refl h
  where
    by : (place_of n rs ≡ Some q → vacancies (put_first (bears n) free rs) ≡ suc (vacancies rs)) → (b : Bool) → bears n r ≡ b
        → cond b (place_in r.train) (place_of n rs) ≡ Some q → vacancies (cond b (free ∷ rs) (r ∷ put_first (bears n) free rs)) ≡ suc (vacancies (r ∷ rs))
    by ih true e h = omega (arith, ap (λ f. cond f 1 0 + vacancies rs) (bears_free n r e))
    by ih false e h = omega (arith, ih h)

vacancies_new : (n : ℕ) (p : Place) (xs : List TrainRecord) → any is_free xs ≡ true → suc (vacancies (put_first is_free (taken n p) xs)) ≡ vacancies xs
vacancies_new n p [] h = absurd (true_false (sym h))
vacancies_new n p (r ∷ rs) h = by (vacancies_new n p rs) (is_free r) refl h
  where
    by : (any is_free rs ≡ true → suc (vacancies (put_first is_free (taken n p) rs)) ≡ vacancies rs) → (b : Bool) → is_free r ≡ b
        → (b || any is_free rs) ≡ true → suc (vacancies (cond b (taken n p ∷ rs) (r ∷ put_first is_free (taken n p) rs))) ≡ cond b 1 0 + vacancies rs
    by ih true e h = omega arith
    by ih false e h = omega (arith, ih h, ap (λ f. cond f 1 0 + vacancies (put_first is_free (taken n p) rs)) e)

-- some record is free just if not all are taken
free_some : (xs : List TrainRecord) → any is_free xs ≡ not (eqb (vacancies xs) 0)
free_some [] = refl
free_some (r ∷ rs) = by (free_some rs) (is_free r)
  where
    by : any is_free rs ≡ not (eqb (vacancies rs) 0) → (b : Bool) → (b || any is_free rs) ≡ not (eqb (cond b 1 0 + vacancies rs) 0)
    by ih true = sym (ap not (ne_eqb (1 + vacancies rs) 0 (λ e. omega arith)))
    by ih false = ih ∙ ap (λ v. not (eqb v 0)) zero_more
      where
        zero_more : vacancies rs ≡ 0 + vacancies rs
        zero_more = omega arith

module _ (xs ys : List TrainRecord) (s : SameTrains xs ys) where
  pub same_free : any is_free xs ≡ any is_free ys
  same_free = free_some xs ∙ ap (λ v. not (eqb v 0)) s.as_many_free ∙ sym (free_some ys)

  same_any : (f : Option Place → Bool) → f None ≡ false → any (λ r. f (place_in r.train)) xs ≡ any (λ r. f (place_in r.train)) ys
  same_any f nowhere =
      same_test _ _
      (λ e. let w = any_some f nowhere xs s.once e in any_from f nowhere w.0 ys (sym (ap f (s.places w.0)) ∙ w.1))
      (λ e. let w = any_some f nowhere ys s.once_too e in any_from f nowhere w.0 xs (ap f (s.places w.0) ∙ w.1))

  pub same_occupied : (k : ℕ) → occupied k xs ≡ occupied k ys
  same_occupied k = same_any (is_inside k) refl

  pub same_pressed : (k : ℕ) (d : Direction) → pedal_pressed k d xs ≡ pedal_pressed k d ys
  same_pressed k d = same_any (is_pressing k d) refl

  pub same_moved : (n : ℕ) (q p : Place) → place_of n xs ≡ Some q → SameTrains (put_first (bears n) (taken n p) xs) (put_first (bears n) (taken n p) ys)
  same_moved n q p here = record {
    once = moved_once xs s.once;
    once_too = moved_once ys s.once_too;
    places = λ m.
        ⊎_elim
        (λ e. subst (λ x. place_of x (put_first (bears n) (taken n p) xs) ≡ place_of x (put_first (bears n) (taken n p) ys)) (sym e)
        (place_moved n p xs q here ∙ sym (place_moved n p ys q (sym (s.places n) ∙ here))))
        (λ apart. other m apart xs ∙ s.places m ∙ sym (other m apart ys))
        (cases_eq m n);
    as_many_free = vacancies_moved n p xs ∙ s.as_many_free ∙ sym (vacancies_moved n p ys);
  }
    where
      other : (m : ℕ) → (m ≡ n → ⊥) → (zs : List TrainRecord) → place_of m (put_first (bears n) (taken n p) zs) ≡ place_of m zs
      other m apart = place_other m (bears n) (taken n p) (taken_bears m n p apart) (bears_one m n apart)

      moved_once : (zs : List TrainRecord) → Once zs → Once (put_first (bears n) (taken n p) zs)
      moved_once zs once m =
          ⊎_elim
          (λ e. subst (λ x. copies x (put_first (bears n) (taken n p) zs) ≤ 1) (sym e) (omega (arith, copies_moved n p zs, once n)))
          (λ apart. omega (arith, copies_other m (bears n) (taken n p) (taken_bears m n p apart) (bears_one m n apart) zs, once m))
          (cases_eq m n)

  pub same_off : (n : ℕ) (q : Place) → place_of n xs ≡ Some q → SameTrains (put_first (bears n) free xs) (put_first (bears n) free ys)
  same_off n q here = record {
    once = off_once xs s.once here;
    once_too = off_once ys s.once_too there;
    places = λ m.
        ⊎_elim
        (λ e. subst (λ x. place_of x (put_first (bears n) free xs) ≡ place_of x (put_first (bears n) free ys)) (sym e)
        (place_none n _ (gone xs s.once here) ∙ sym (place_none n _ (gone ys s.once_too there))))
        (λ apart. other m apart xs ∙ s.places m ∙ sym (other m apart ys))
        (cases_eq m n);
    as_many_free = vacancies_off n q xs here ∙ ap suc s.as_many_free ∙ sym (vacancies_off n q ys there);
  }
    where
      there : place_of n ys ≡ Some q
      there = sym (s.places n) ∙ here

      gone : (zs : List TrainRecord) → Once zs → place_of n zs ≡ Some q → copies n (put_first (bears n) free zs) ≡ 0
      gone zs once h = omega (arith, copies_off n zs q h, once n)

      other : (m : ℕ) → (m ≡ n → ⊥) → (zs : List TrainRecord) → place_of m (put_first (bears n) free zs) ≡ place_of m zs
      other m apart = place_other m (bears n) free refl (bears_one m n apart)

      off_once : (zs : List TrainRecord) → Once zs → place_of n zs ≡ Some q → Once (put_first (bears n) free zs)
      off_once zs once h m =
          ⊎_elim
          (λ e. subst (λ x. copies x (put_first (bears n) free zs) ≤ 1) (sym e) (omega (arith, gone zs once h)))
          (λ apart. omega (arith, copies_other m (bears n) free refl (bears_one m n apart) zs, once m))
          (cases_eq m n)

  pub same_new : (n : ℕ) (p : Place) → place_of n xs ≡ None → any is_free xs ≡ true → SameTrains (put_first is_free (taken n p) xs) (put_first is_free (taken n p) ys)
  same_new n p absent room = record {
    once = new_once xs s.once absent;
    once_too = new_once ys s.once_too absent_too;
    places = λ m.
        ⊎_elim
        (λ e. subst (λ x. place_of x (put_first is_free (taken n p) xs) ≡ place_of x (put_first is_free (taken n p) ys)) (sym e)
        (place_new n p xs absent room ∙ sym (place_new n p ys absent_too (sym same_free ∙ room))))
        (λ apart. other m apart xs ∙ s.places m ∙ sym (other m apart ys))
        (cases_eq m n);
    as_many_free = omega (arith, vacancies_new n p xs room, vacancies_new n p ys (sym same_free ∙ room), s.as_many_free);
  }
    where
      absent_too : place_of n ys ≡ None
      absent_too = sym (s.places n) ∙ absent

      other : (m : ℕ) → (m ≡ n → ⊥) → (zs : List TrainRecord) → place_of m (put_first is_free (taken n p) zs) ≡ place_of m zs
      other m apart = place_other m is_free (taken n p) (taken_bears m n p apart) (free_bears m)

      new_once : (zs : List TrainRecord) → Once zs → place_of n zs ≡ None → Once (put_first is_free (taken n p) zs)
      new_once zs once h m =
          ⊎_elim
          (λ e. subst (λ x. copies x (put_first is_free (taken n p) zs) ≤ 1) (sym e) (omega (arith, copies_new n p zs, copies_none n zs h)))
          (λ apart. omega (arith, copies_other m is_free (taken n p) (taken_bears m n p apart) (free_bears m) zs, once m))
          (cases_eq m n)
