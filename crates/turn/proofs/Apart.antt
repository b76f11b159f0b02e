-- From a turn in good order: trains are kept apart, each under its release.
use Rattle.std.proofs.Common.{◌≡◌, ℕ, ◌<◌, Bool, true, false, cond, eqb, ◌⊎◌, List, [], ◌∷◌, length, Some, None, Option, sym, refl, ap, ◌∙◌, subst, inl, inr, ⊎_elim, arith, eq-eqb, eqb-true}
use Rattle.std.proofs.lemmas.Bool.{cases_lt}
use Rattle.block.specs.Meaning.{phase_at}
use Rattle.block.specs.declared.order.Direction.{Direction}
use Rattle.block.specs.declared.order.Phase.{Phase}
use Rattle.block.specs.declared.order.Phase.TheVariants.{Opened, Returned}
use Rattle.std.specs.List.{slice_get}
use Rattle.trains.specs.Trains.{place_of, is_inside}
use Rattle.trains.specs.declared.places.Place.{Place}
use Rattle.trains.specs.declared.places.Place.TheVariants.{AtPost, Running, OnPedal}
use Rattle.turn.specs.Law.{Inside, Released, Apart}
use Rattle.turn.specs.Telling.{inside_at}
use Rattle.turn.specs.Turn.{TurnState}
use Rattle.turn.specs.declared.rows.Kind.TheVariants.{Giving, Opening, Clearing, Unsealing}
use Rattle.turn.specs.declared.rows.RegisterRow.{RegisterRow}
use Rattle.turn.proofs.Good.{Good}
use Rattle.turn.proofs.Inversions.{is_running, is_pressing_there}
use Rattle.turn.proofs.Keeps.{standing}
use Rattle.turn.proofs.Moves.{running_at, pressing_at}
use Rattle.turn.proofs.Places.{same}
use Rattle.turn.proofs.Tests.{none_some, some_same, true_false}
use Rattle.turn.proofs.Trails.{Mark, Among, Falling, Trail, not_first, the_first, later, none_later}
use Rattle.turn.proofs.Trips.{entry_row, Left, Came, Within, Trip}
use Rattle.turn.proofs.Ways.{unused, running, pressing, gone, Lever, pulled, put_back, returned, Way, rest, given, held, cleared, held_phase, inside_of, giving_row, opening_row, opened_marks}

module _ (rows : List RegisterRow) (n k : ℕ) where
  came : (x : Inside rows n k) → Came rows n x.entry
  came x = record { row = x.entered.row; stands = x.entered.stands; kind_is = x.entered.kind_is; train_is = x.entered.train_is }

  not_gone : (x : Inside rows n k) → Left rows n x.entry → ⊥
  not_gone x l = x.not_left l.place l.row.section l.later (record { row = l.row; stands = l.stands; kind_is = l.kind_is; train_is = l.train_is; section_is = refl })

  -- the one entry not followed by a leaving is into the section where the train is
  same_section : (j : ℕ) (d : Direction) → Within rows n j d → Inside rows n k → j ≡ k
  same_section j d w x =
      ⊎_elim
      (λ e.
      let row : entry_row n j d ≡ x.entered.row = same rows w.entry _ _ w.entered (subst (λ i. slice_get rows i ≡ Some x.entered.row) e x.entered.stands) in
      some_same (ap (λ r. r.section) row ∙ x.entered.section_is))
      (λ l. absurd (not_gone x l))
      (w.sole x.entry (came x))

  in_table : (p : Option Place) → Trip rows n p → Inside rows n k → is_inside k p ≡ true
  in_table None t x = absurd (not_gone x (t x.entry (came x)))
  in_table (Some (AtPost q)) t x = absurd (not_gone x (t x.entry (came x)))
  in_table (Some (Running j d)) t x = eq-eqb j k (same_section j d t x)
  in_table (Some (OnPedal j d)) t x = eq-eqb j k (same_section j d t x)

  within_inside : (d : Direction) → Within rows n k d → Inside rows n k
  within_inside d w = record {
    entry = w.entry;
    entered = record { row = entry_row n k d; stands = w.entered; kind_is = refl; train_is = refl; section_is = refl };
    not_left = λ i s after told. w.not_left (record { place = i; later = after; row = told.row; stands = told.stands; kind_is = told.kind_is; train_is = told.train_is });
  }

  in_register : (p : Option Place) → Trip rows n p → is_inside k p ≡ true → Inside rows n k
  in_register None t e = absurd (true_false (sym e))
  in_register (Some (AtPost q)) t e = absurd (true_false (sym e))
  in_register (Some (Running j d)) t e = within_inside d (subst (λ i. Within rows n i d) (eqb-true j k e) t)
  in_register (Some (OnPedal j d)) t e = within_inside d (subst (λ i. Within rows n i d) (eqb-true j k e) t)

-- an opened release with a train inside, by its trail
module _ (rows : List RegisterRow) (phases : List Phase) (n k a o x : ℕ) (d : Direction) (l : Lever) (trail : Trail rows k ((a, entry_row n k d) ∷ opened_marks k d x o)) (falls : Falling (length rows) ((a, entry_row n k d) ∷ opened_marks k d x o)) (phase : phase_at phases k ≡ held_phase d l) (trip : Within rows n k d) where
  release : Released rows phases n k d
  release = record {
    giving = x;
    given = record { row = giving_row k d; stands = trail.stands x (giving_row k d) (inr (inr (inl refl))); kind_is = refl; section_is = refl; direction_is = refl };
    newest_giving = λ i after told. sole_giving i after (later trail Giving i refl told (omega (arith, after)));
    opening = o;
    opened = record { row = opening_row k d; stands = trail.stands o (opening_row k d) (inr (inl refl)); kind_is = refl; section_is = refl };
    opened_after = falls.1.1.0;
    opened_once = λ i after told. sole_opening i (later trail Opening i refl told (omega (arith, after)));
    not_cleared = λ i after. none_later trail Clearing refl refl i (omega (arith, after));
    not_unsealed = λ i after. none_later trail Unsealing refl refl i (omega (arith, after));
    entry = trip.entry;
    entered = record { row = entry_row n k d; stands = trip.entered; kind_is = refl; train_is = refl; section_is = refl };
    entered_for = record { row = entry_row n k d; stands = trip.entered; kind_is = refl; section_is = refl; direction_is = refl };
    newest_entry = λ i s after told. newest i after (trip.sole i (record { row = told.row; stands = told.stands; kind_is = told.kind_is; train_is = told.train_is }));
    in_order = ordered (trip.sole a (record { row = entry_row n k d; stands = trail.stands a (entry_row n k d) (inl refl); kind_is = refl; train_is = refl }));
    phase = by_lever l phase;
  }
    where
      sole_giving : (i : ℕ) → x < i → (m : Mark) × (Among m ((a, entry_row n k d) ∷ opened_marks k d x o) × ((m.0 ≡ i) × (m.1.kind ≡ Giving))) → ⊥
      sole_giving i after f =
          let m = f.0 in
          let is = f.1.1.1 in
          let left = not_first Giving (o, opening_row k d) ((x, giving_row k d) ∷ []) m is refl (not_first Giving (a, entry_row n k d) (opened_marks k d x o) m is refl f.1.0) in
          omega (arith, after, f.1.1.0, the_first Giving (x, giving_row k d) [] m is refl left)

      sole_opening : (i : ℕ) → (m : Mark) × (Among m ((a, entry_row n k d) ∷ opened_marks k d x o) × ((m.0 ≡ i) × (m.1.kind ≡ Opening))) → i ≡ o
      sole_opening i f =
          let m = f.0 in
          let is = f.1.1.1 in
          sym f.1.1.0 ∙ the_first Opening (o, opening_row k d) ((x, giving_row k d) ∷ []) m is refl (not_first Opening (a, entry_row n k d) (opened_marks k d x o) m is refl f.1.0)

      newest : (i : ℕ) → trip.entry < i → (i ≡ trip.entry) ⊎ Left rows n i → ⊥
      newest i after (inl e) = omega arith
      newest i after (inr f) = trip.not_left (record { place = f.place; later = omega (arith, after, f.later); row = f.row; stands = f.stands; kind_is = f.kind_is; train_is = f.train_is })

      ordered : (a ≡ trip.entry) ⊎ Left rows n a → o < trip.entry
      ordered (inl e) = omega (arith, falls.1.0)
      ordered (inr f) =
          ⊎_elim
          (λ before. absurd (trip.not_left (record { place = f.place; later = before; row = f.row; stands = f.stands; kind_is = f.kind_is; train_is = f.train_is })))
          (λ after. omega (arith, falls.1.0, f.later, after))
          (cases_lt trip.entry f.place)

      by_lever : (l : Lever) → phase_at phases k ≡ held_phase d l → (phase_at phases k ≡ Opened d) ⊎ (phase_at phases k ≡ Returned d)
      by_lever pulled e = inl e
      by_lever put_back e = inl e
      by_lever returned e = inr e

numbered : (r m : ℕ) (y p : Place) → cond (eqb r m) (Some y) None ≡ Some p → r ≡ m
numbered r m y p = by (eqb r m) refl
  where
    by : (b : Bool) → eqb r m ≡ b → cond b (Some y) None ≡ Some p → r ≡ m
    by true e h = eqb-true r m e
    by false e h = absurd (none_some h)

-- the trains inside a section are one
alone : (k m n : ℕ) (w : Way) (p q : Place) → inside_of k w m ≡ Some p → inside_of k w n ≡ Some q → m ≡ n
alone k m n (rest past) p q e f = absurd (none_some e)
alone k m n (given d x) p q e f = absurd (none_some e)
alone k m n (held d l unused x o) p q e f = absurd (none_some e)
alone k m n (held d l (running r a) x o) p q e f = sym (numbered r m _ p e) ∙ numbered r n _ q f
alone k m n (held d l (pressing r a) x o) p q e f = sym (numbered r m _ p e) ∙ numbered r n _ q f
alone k m n (held d l (gone r a b) x o) p q e f = absurd (none_some e)
alone k m n (cleared d past) p q e f = absurd (none_some e)

module _ (t : TurnState) (g : Good t) where
  abbrev now : ℕ → Option Place
  now n = place_of n t.line.trains

  recorded : (n k : ℕ) → Inside t.register.rows n k → is_inside k (now n) ≡ true
  recorded n k x = in_table t.register.rows n k (now n) (g.trip n) x

  -- the place of a train that is inside
  placed : (n k : ℕ) → is_inside k (now n) ≡ true → (p : Place) × (inside_of k (g.way k) n ≡ Some p)
  placed n k e = by (now n) refl e
    where
      by : (o : Option Place) → now n ≡ o → is_inside k o ≡ true → (p : Place) × (inside_of k (g.way k) n ≡ Some p)
      by None is e = absurd (true_false (sym e))
      by (Some p) is e = (p, sym ((g.stands k).inside_is n) ∙ ap (inside_at k) is ∙ ap (λ b. cond b (Some p) None) e)

  released : (n k : ℕ) → Inside t.register.rows n k → (own : Direction) × Released t.register.rows t.line.phases n k own
  released n k x = by (now n) refl (recorded n k x)
    where
      by : (o : Option Place) → now n ≡ o → is_inside k o ≡ true → (own : Direction) × Released t.register.rows t.line.phases n k own
      by None is e = absurd (true_false (sym e))
      by (Some (AtPost q)) is e = absurd (true_false (sym e))
      by (Some (Running j d)) is e =
          let here : now n ≡ Some (Running k d) = is ∙ ap (λ i. Some (Running i d)) (eqb-true j k e) in
          let w = is_running k n (g.way k) d (sym ((g.stands k).inside_is n) ∙ ap (inside_at k) here ∙ running_at k d) in
          let s = standing t g k (held d w.lever (running n w.entry) w.giving w.opening) w.is in
          (d, release t.register.rows t.line.phases n k w.entry w.opening w.giving d w.lever s.trail_is s.falls s.phase_is (subst (Trip t.register.rows n) here (g.trip n)))
      by (Some (OnPedal j d)) is e =
          let here : now n ≡ Some (OnPedal k d) = is ∙ ap (λ i. Some (OnPedal i d)) (eqb-true j k e) in
          let w = is_pressing_there k n (g.way k) d (sym ((g.stands k).inside_is n) ∙ ap (inside_at k) here ∙ pressing_at k d) in
          let s = standing t g k (held d w.lever (pressing n w.entry) w.giving w.opening) w.is in
          (d, release t.register.rows t.line.phases n k w.entry w.opening w.giving d w.lever s.trail_is s.falls s.phase_is (subst (Trip t.register.rows n) here (g.trip n)))

  pub apart : Apart t
  apart = record {
    one_train = λ m n k x y.
        let p = placed m k (recorded m k x) in
        let q = placed n k (recorded n k y) in
        alone k m n (g.way k) p.0 q.0 p.1 q.1;
    released = released;
    recorded = recorded;
    registered = λ n k e. in_register t.register.rows n k (now n) (g.trip n) e;
  }
