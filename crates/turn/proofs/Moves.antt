-- The calls that name a train keep a turn in good order.
use Rattle.std.proofs.Common.{◌≡◌, ℕ, ◌≤◌, Bool, true, false, cond, eqb, [], ◌∷◌, ◌++◌, length, is_some, Some, None, Option, sym, refl, ap, ◌∙◌, subst, ⊎_elim, arith, eq-eqb, ne_eqb}
use Rattle.std.proofs.lemmas.Bool.{cases_eq}
use Rattle.block.specs.Meaning.{phase_at}
use Rattle.block.specs.Order.{same_direction}
use Rattle.block.specs.declared.order.Direction.{Direction}
use Rattle.rules.specs.Calls.{train_of, section_of, direction_of}
use Rattle.rules.specs.Checks.{refusal, train_unknown, elsewhere}
use Rattle.rules.specs.Effects.{effect, section_effect, trains_effect}
use Rattle.rules.specs.State.{section_at, with_block, with_pedal}
use Rattle.trains.specs.Trains.{free, taken, bears, is_free, any, place_of, put_first, runs, presses, stands_at, exit_post}
use Rattle.rules.specs.declared.calls.Call.{Call}
use Rattle.rules.specs.declared.calls.Call.TheVariants.{PlaceTrain, WithdrawTrain, EnterSection, ReachPedal, LeaveSection}
use Rattle.rules.specs.declared.signals.BlockSignal.TheVariants.{Closed, Open, Fallen}
use Rattle.trains.specs.declared.places.Place.{Place}
use Rattle.trains.specs.declared.places.Place.TheVariants.{AtPost, Running, OnPedal}
use Rattle.turn.specs.Alike.{copies, Once}
use Rattle.turn.specs.Rows.{row_of}
use Rattle.turn.specs.Telling.{inside_at}
use Rattle.turn.specs.Turn.{TurnState, worked}
use Rattle.turn.proofs.Decode.{checked, no_ground, section_there}
use Rattle.turn.proofs.Good.{Good, Kept, Trains, kept, kept_nowhere}
use Rattle.turn.proofs.Keeps.{standing, trail_still}
use Rattle.turn.proofs.Signals.{block_changed, block_beside_pedal, pedal_beside_block}
use Rattle.turn.proofs.Standing.{Standing, stand_own}
use Rattle.turn.proofs.Tables.{bears_one, free_bears, taken_bears, place_other, copies_other, place_moved, copies_moved, copies_off, place_none, copies_none, place_new, copies_new}
use Rattle.turn.specs.declared.rows.Kind.TheVariants.{Entry, Leaving}
use Rattle.turn.proofs.Tests.{none_some, some_same, true_false, not_false}
use Rattle.turn.proofs.Trails.{trail_more, falling_more}
use Rattle.turn.proofs.Trips.{entry_row, Trip, Within, trip_past, trip_left, trip_entered}
use Rattle.turn.proofs.Ways.{unused, running, pressing, gone, Lever, pulled, put_back, returned, held, marks_of, signal_of, leaving_row}

-- a train other than the one that a row names has no part in it
other_train : {m n : ℕ} → (m ≡ n → ⊥) → (o : Option ℕ) → o ≡ Some n → o ≡ Some m → ⊥
other_train apart o is h = apart (some_same (sym h ∙ is))

-- inside no section
pub running_at : (k : ℕ) (d : Direction) → inside_at k (Some (Running k d)) ≡ Some (Running k d)
running_at k d = ap (λ b. cond b (Some (Running k d)) None) (eq-eqb k k refl)

pub pressing_at : (k : ℕ) (d : Direction) → inside_at k (Some (OnPedal k d)) ≡ Some (OnPedal k d)
pressing_at k d = ap (λ b. cond b (Some (OnPedal k d)) None) (eq-eqb k k refl)

running_elsewhere : (j k : ℕ) (d : Direction) → (k ≡ j → ⊥) → inside_at j (Some (Running k d)) ≡ None
running_elsewhere j k d apart = ap (λ b. cond b (Some (Running k d)) None) (ne_eqb k j apart)

pressing_elsewhere : (j k : ℕ) (d : Direction) → (k ≡ j → ⊥) → inside_at j (Some (OnPedal k d)) ≡ None
pressing_elsewhere j k d apart = ap (λ b. cond b (Some (OnPedal k d)) None) (ne_eqb k j apart)

module _ (t : TurnState) (g : Good t) where
  abbrev now : ℕ → Option Place
  now n = place_of n t.line.trains

  -- a call by which train n goes from one place to another
  module _ (c : Call) (n : ℕ) (names : train_of c ≡ Some n) (q q' : Place) (at_first : now n ≡ Some q) (moves : (effect t.line c).trains ≡ put_first (bears n) (taken n q') t.line.trains) where
    pub moved_own : place_of n (effect t.line c).trains ≡ Some q'
    moved_own = ap (place_of n) moves ∙ place_moved n q' t.line.trains q at_first

    pub moved_other : (m : ℕ) → (m ≡ n → ⊥) → place_of m (effect t.line c).trains ≡ now m
    moved_other m apart = ap (place_of m) moves ∙ place_other m (bears n) (taken n q') (taken_bears m n q' apart) (bears_one m n apart) t.line.trains

    moved_once : Once (effect t.line c).trains
    moved_once m = subst (λ xs. copies m xs ≤ 1) (sym moves)
        (⊎_elim
        (λ e. subst (λ x. copies x (put_first (bears n) (taken n q') t.line.trains) ≤ 1) (sym e) (omega (arith, copies_moved n q' t.line.trains, g.once n)))
        (λ apart. omega (arith, copies_other m (bears n) (taken n q') (taken_bears m n q' apart) (bears_one m n apart) t.line.trains, g.once m))
        (cases_eq m n))

    pub moved_trains : ((j : ℕ) → (section_of c ≡ Some j → ⊥) → inside_at j (Some q') ≡ inside_at j (Some q))
        → Trip (t.register.rows ++ row_of t.line c ∷ []) n (Some q') → Trains t g c
    moved_trains stay trip = record {
      stay = λ j apart m.
          ⊎_elim
          (λ e. subst (λ x. inside_at j (place_of x (effect t.line c).trains) ≡ inside_at j (now x)) (sym e) (ap (inside_at j) moved_own ∙ stay j apart ∙ sym (ap (inside_at j) at_first)))
          (λ other. ap (inside_at j) (moved_other m other))
          (cases_eq m n);
      once_after = moved_once;
      known_after = λ m p e.
          ⊎_elim
          (λ same. subst (λ x. train_unknown x ≡ None) (sym same) (g.known n q at_first))
          (λ other. g.known m p (sym (moved_other m other) ∙ e))
          (cases_eq m n);
      trip_after = λ m.
          ⊎_elim
          (λ e. subst (λ x. Trip (t.register.rows ++ row_of t.line c ∷ []) x (place_of x (effect t.line c).trains)) (sym e)
          (subst (Trip (t.register.rows ++ row_of t.line c ∷ []) n) (sym moved_own) trip))
          (λ other. subst (Trip (t.register.rows ++ row_of t.line c ∷ []) m) (sym (moved_other m other))
          (trip_past t.register.rows m (row_of t.line c) (λ e h. other_train other (train_of c) names h) (λ e h. other_train other (train_of c) names h) (now m) (g.trip m)))
          (cases_eq m n);
    }

    -- who is then inside section k: train n, as it now is there, and no other
    pub moved_inside : (k : ℕ) (here : Option Place) → inside_at k (Some q') ≡ here → ((m : ℕ) → (m ≡ n → ⊥) → inside_at k (now m) ≡ None)
        → (m : ℕ) → inside_at k (place_of m (effect t.line c).trains) ≡ cond (eqb n m) here None
    moved_inside k here own alone m =
        ⊎_elim
        (λ e. subst (λ x. inside_at k (place_of x (effect t.line c).trains) ≡ cond (eqb n x) here None) (sym e)
        (ap (inside_at k) moved_own ∙ own ∙ sym (ap (λ b. cond b here None) (eq-eqb n n refl))))
        (λ other. ap (inside_at k) (moved_other m other) ∙ alone m other ∙ sym (ap (λ b. cond b here None) (ne_eqb n m (λ e. other (sym e)))))
        (cases_eq m n)

  module _ (n k : ℕ) (d : Direction) where
    abbrev new : ℕ
    new = length t.register.rows

    pub enter : (q x o : ℕ) → now n ≡ Some (AtPost q) → direction_of t.line (EnterSection n k) ≡ Some d → g.way k ≡ held d pulled unused x o
        → refusal t.line (EnterSection n k) ≡ None → Kept t (EnterSection n k) k (held d pulled (running n new) x o)
    unfolding effect
    enter q x o at-post goes is e =
        let c = EnterSection n k in
        let pass = checked t.line c e in
        let w = held d pulled (running n new) x o in
        let s = standing t g k (held d pulled unused x o) is in
        let old = section_at t.line.sections k in
        let rows = t.register.rows in
        let told : row_of t.line c ≡ entry_row n k d = ap (λ f. record { kind = Entry; train = Some n; section = Some k; direction = f; post = None }) goes in
        let moves : (effect t.line c).trains ≡ put_first (bears n) (taken n (Running k d)) t.line.trains = ap (λ f. trains_effect c f t.line.trains) goes in
        let trip = subst (λ r. Within (rows ++ r ∷ []) n k d) (sym told) (trip_entered rows n k d (subst (Trip rows n) at-post (g.trip n))) in
        let trains = moved_trains c n refl (AtPost q) (Running k d) at-post moves (λ j apart. running_elsewhere j k d (λ h. apart (ap Some h))) trip in
        let inside = moved_inside c n refl (AtPost q) (Running k d) at-post moves k (Some (Running k d)) (running_at k d) (λ m other. s.inside_is m) in
        let after : ℕ → Option Place = λ m. place_of m (effect t.line c).trains in
        kept t g c k refl (section_there t.line k pass.1.0) trains w
        (subst (λ f. Standing (phase_at t.line.phases k) (section_effect c f old) after (rows ++ row_of t.line c ∷ []) k w) (sym goes)
        (subst (λ r. Standing (phase_at t.line.phases k) (with_block d Fallen old) after (rows ++ r ∷ []) k w) (sym told)
        (stand_own s (entry_row n k d) refl w _ _ after
        s.phase_is
        (λ f. block_changed d f Fallen old ∙ ap (cond (same_direction d f) Fallen) (s.block_is f) ∙ once_more (same_direction d f))
        (pedal_beside_block d Fallen old ∙ s.pedal_is)
        inside
        (trail_more rows k (entry_row n k d) _ _ s.trail_is)
        (omega arith, s.falls)
        refl)))
      where
        once_more : (b : Bool) → cond b Fallen (cond b Open Closed) ≡ cond b Fallen Closed
        once_more true = refl
        once_more false = refl

    pub reach : (l : Lever) (a x o : ℕ) → now n ≡ Some (Running k d) → g.way k ≡ held d l (running n a) x o
        → refusal t.line (ReachPedal n k) ≡ None → Kept t (ReachPedal n k) k (held d l (pressing n a) x o)
    unfolding effect
    reach l a x o runs-now is e =
        let c = ReachPedal n k in
        let pass = checked t.line c e in
        let w = held d l (pressing n a) x o in
        let s = standing t g k (held d l (running n a) x o) is in
        let rows = t.register.rows in
        let goes : direction_of t.line c ≡ Some d = ap (runs k) runs-now ∙ ap (λ b. cond b (Some d) None) (eq-eqb k k refl) in
        let moves : (effect t.line c).trains ≡ put_first (bears n) (taken n (OnPedal k d)) t.line.trains = ap (λ f. trains_effect c f t.line.trains) goes in
        let trip = trip_past rows n (row_of t.line c) (λ h _. absurd (let z : ◌≡◌ {A = ℕ} 0 1 = cc in omega arith)) (λ h _. absurd (let z : ◌≡◌ {A = ℕ} 0 1 = cc in omega arith)) (Some (Running k d)) (subst (Trip rows n) runs-now (g.trip n)) in
        let trains = moved_trains c n refl (Running k d) (OnPedal k d) runs-now moves (λ j apart. pressing_elsewhere j k d (λ h. apart (ap Some h)) ∙ sym (running_elsewhere j k d (λ h. apart (ap Some h)))) trip in
        let alone : (m : ℕ) → (m ≡ n → ⊥) → inside_at k (now m) ≡ None = λ m other. s.inside_is m ∙ ap (λ b. cond b (Some (Running k d)) None) (ne_eqb n m (λ h. other (sym h))) in
        let inside = moved_inside c n refl (Running k d) (OnPedal k d) runs-now moves k (Some (OnPedal k d)) (pressing_at k d) alone in
        kept t g c k refl (section_there t.line k pass.1.0) trains w
        (stand_own s (row_of t.line c) refl w _ _ _
        s.phase_is
        (λ f. s.block_is f ∙ ap (λ y. cond (same_direction d f) y Closed) (same_signal l))
        s.pedal_is
        inside
        (trail_still t g c k (held d l (running n a) x o) refl s)
        (falling_more new (marks_of k (held d l (running n a) x o)) s.falls)
        refl)
      where
        same_signal : (l : Lever) → signal_of l (running n a) ≡ signal_of l (pressing n a)
        same_signal pulled = refl
        same_signal put_back = refl
        same_signal returned = refl

    pub leave : (l : Lever) (a x o : ℕ) → now n ≡ Some (OnPedal k d) → g.way k ≡ held d l (pressing n a) x o
        → refusal t.line (LeaveSection n k) ≡ None → Kept t (LeaveSection n k) k (held d l (gone n a new) x o)
    unfolding effect
    leave l a x o presses-now is e =
        let c = LeaveSection n k in
        let pass = checked t.line c e in
        let w = held d l (gone n a new) x o in
        let s = standing t g k (held d l (pressing n a) x o) is in
        let old = section_at t.line.sections k in
        let rows = t.register.rows in
        let exit = AtPost (exit_post k d) in
        let goes : direction_of t.line c ≡ Some d = ap (presses k) presses-now ∙ ap (λ b. cond b (Some d) None) (eq-eqb k k refl) in
        let told : row_of t.line c ≡ leaving_row k d n = ap (λ f. record { kind = Leaving; train = Some n; section = Some k; direction = f; post = None }) goes in
        let moves : (effect t.line c).trains ≡ put_first (bears n) (taken n exit) t.line.trains = ap (λ f. trains_effect c f t.line.trains) goes in
        let trip = trip_left rows n (row_of t.line c) refl refl k d (subst (Trip rows n) presses-now (g.trip n)) in
        let trains = moved_trains c n refl (OnPedal k d) exit presses-now moves (λ j apart. sym (pressing_elsewhere j k d (λ h. apart (ap Some h)))) trip in
        let alone : (m : ℕ) → (m ≡ n → ⊥) → inside_at k (now m) ≡ None = λ m other. s.inside_is m ∙ ap (λ b. cond b (Some (OnPedal k d)) None) (ne_eqb n m (λ h. other (sym h))) in
        let inside = moved_inside c n refl (OnPedal k d) exit presses-now moves k None refl alone in
        let after : ℕ → Option Place = λ m. place_of m (effect t.line c).trains in
        kept t g c k refl (section_there t.line k pass.1.0) trains w
        (subst (λ r. Standing (phase_at t.line.phases k) (with_pedal true old) after (rows ++ r ∷ []) k w) (sym told)
        (stand_own s (leaving_row k d n) refl w _ _ after
        s.phase_is
        (λ f. block_beside_pedal f true old ∙ s.block_is f ∙ ap (λ y. cond (same_direction d f) y Closed) (same_signal l))
        refl
        (λ m. inside m ∙ nobody (eqb n m))
        (trail_more rows k (leaving_row k d n) _ _ s.trail_is)
        (omega arith, s.falls)
        refl))
      where
        same_signal : (l : Lever) → signal_of l (pressing n a) ≡ signal_of l (gone n a (length t.register.rows))
        same_signal pulled = refl
        same_signal put_back = refl
        same_signal returned = refl

        nobody : (b : Bool) → ◌≡◌ {A = Option Place} (cond b None None) None
        nobody true = refl
        nobody false = refl

  -- a train is put on the line, or taken off it
  pub place_train : (n p : ℕ) → refusal t.line (PlaceTrain n p) ≡ None → Good (worked t (PlaceTrain n p))
  unfolding effect
  place_train n p e =
      let c = PlaceTrain n p in
      let pass = checked t.line c e in
      let absent : now n ≡ None = not_some (now n) (no_ground _ _ pass.1.1.0) in
      let room : any is_free t.line.trains ≡ true = not_false _ (no_ground _ _ pass.1.1.1.0) in
      let own = place_new n (AtPost p) t.line.trains absent room in
      let rows = t.register.rows ++ row_of t.line c ∷ [] in
      let after = put_first is_free (taken n (AtPost p)) t.line.trains in
      let other : (m : ℕ) → (m ≡ n → ⊥) → place_of m after ≡ now m = λ m apart. place_other m is_free (taken n (AtPost p)) (taken_bears m n (AtPost p) apart) (free_bears m) t.line.trains in
      let past : (m : ℕ) (q : Option Place) → Trip t.register.rows m q → Trip rows m q = λ m. trip_past t.register.rows m (row_of t.line c) (λ h _. absurd (let z : ◌≡◌ {A = ℕ} 0 1 = cc in omega arith)) (λ h _. absurd (let z : ◌≡◌ {A = ℕ} 0 1 = cc in omega arith)) in
      kept_nowhere t g c refl (record {
        stay = λ j apart m.
            ⊎_elim
            (λ same. subst (λ x. inside_at j (place_of x after) ≡ inside_at j (now x)) (sym same) (ap (inside_at j) own ∙ sym (ap (inside_at j) absent)))
            (λ apart. ap (inside_at j) (other m apart))
            (cases_eq m n);
        once_after = λ m.
            ⊎_elim
            (λ same. subst (λ x. copies x after ≤ 1) (sym same) (omega (arith, copies_new n (AtPost p) t.line.trains, copies_none n t.line.trains absent)))
            (λ apart. omega (arith, copies_other m is_free (taken n (AtPost p)) (taken_bears m n (AtPost p) apart) (free_bears m) t.line.trains, g.once m))
            (cases_eq m n);
        known_after = λ m q h.
            ⊎_elim
            (λ same. subst (λ x. train_unknown x ≡ None) (sym same) pass.0)
            (λ apart. g.known m q (sym (other m apart) ∙ h))
            (cases_eq m n);
        trip_after = λ m.
            ⊎_elim
            (λ same. subst (λ x. Trip rows x (place_of x after)) (sym same) (subst (Trip rows n) (sym own) (past n None (subst (Trip t.register.rows n) absent (g.trip n)))))
            (λ apart. subst (Trip rows m) (sym (other m apart)) (past m (now m) (g.trip m)))
            (cases_eq m n);
      })
    where
      not_some : (o : Option Place) → is_some o ≡ false → o ≡ None
      not_some None h = refl
      not_some (Some q) h = absurd (true_false h)

  pub withdraw_train : (n : ℕ) → refusal t.line (WithdrawTrain n) ≡ None → Good (worked t (WithdrawTrain n))
  unfolding effect
  withdraw_train n e =
      let c = WithdrawTrain n in
      let pass = checked t.line c e in
      let at-post = post_there (now n) pass.1.1.0 in
      let after = put_first (bears n) free t.line.trains in
      let none_left : copies n after ≡ 0 = omega (arith, copies_off n t.line.trains (AtPost at-post.0) at-post.1, g.once n) in
      let own = place_none n after none_left in
      let rows = t.register.rows ++ row_of t.line c ∷ [] in
      let other : (m : ℕ) → (m ≡ n → ⊥) → place_of m after ≡ now m = λ m apart. place_other m (bears n) free refl (bears_one m n apart) t.line.trains in
      let past : (m : ℕ) (q : Option Place) → Trip t.register.rows m q → Trip rows m q = λ m. trip_past t.register.rows m (row_of t.line c) (λ h _. absurd (let z : ◌≡◌ {A = ℕ} 0 1 = cc in omega arith)) (λ h _. absurd (let z : ◌≡◌ {A = ℕ} 0 1 = cc in omega arith)) in
      kept_nowhere t g c refl (record {
        stay = λ j apart m.
            ⊎_elim
            (λ same. subst (λ x. inside_at j (place_of x after) ≡ inside_at j (now x)) (sym same) (ap (inside_at j) own ∙ sym (ap (inside_at j) at-post.1)))
            (λ apart. ap (inside_at j) (other m apart))
            (cases_eq m n);
        once_after = λ m.
            ⊎_elim
            (λ same. subst (λ x. copies x after ≤ 1) (sym same) (omega (arith, none_left)))
            (λ apart. omega (arith, copies_other m (bears n) free refl (bears_one m n apart) t.line.trains, g.once m))
            (cases_eq m n);
        known_after = λ m q h.
            ⊎_elim
            (λ same. absurd (none_some (sym own ∙ ap (λ x. place_of x after) (sym same) ∙ h)))
            (λ apart. g.known m q (sym (other m apart) ∙ h))
            (cases_eq m n);
        trip_after = λ m.
            ⊎_elim
            (λ same. subst (λ x. Trip rows x (place_of x after)) (sym same) (subst (Trip rows n) (sym own) (past n (Some (AtPost at-post.0)) (subst (Trip t.register.rows n) at-post.1 (g.trip n)))))
            (λ apart. subst (Trip rows m) (sym (other m apart)) (past m (now m) (g.trip m)))
            (cases_eq m n);
      })
    where
      post_there : (o : Option Place) → elsewhere (stands_at o) ≡ None → (p : ℕ) × (o ≡ Some (AtPost p))
      post_there None h = absurd (none_some (sym h))
      post_there (Some (AtPost p)) h = (p, refl)
      post_there (Some (Running j d)) h = absurd (none_some (sym h))
      post_there (Some (OnPedal j d)) h = absurd (none_some (sym h))
