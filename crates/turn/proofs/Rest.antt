-- From a turn in good order: every section can be brought to rest. One call takes it one step nearer, and at most eight are left.
use Rattle.std.proofs.Common.{◌≡◌, ℕ, zero, suc, ◌+◌, ◌<◌, ◌≤◌, Bool, true, false, cond, not, ◌⊎◌, List, [], ◌∷◌, length, is_some, Some, None, Ok, Err, Option, sym, refl, ap, ◌∙◌, subst, inl, inr, ⊎_elim, arith, length-append, eq-eqb}
use borrow.Author.Tests.{lt-leb}
use Rattle.std.proofs.lemmas.List.{length_push}
use Rattle.std.proofs.lemmas.Bool.{and_parts}
use Rattle.block.specs.Meaning.{worked as instrument-worked, answer_of, phase_at}
use Rattle.block.specs.Order.{phase_code, leaves, brings}
use Rattle.block.specs.Refusals.{refusal as instrument-refusal}
use Rattle.block.specs.declared.order.Action.{Action}
use Rattle.block.specs.declared.order.Action.TheVariants.{Open as OpenAction, Return, Clear, Restore}
use Rattle.block.specs.declared.order.Direction.{Direction}
use Rattle.block.specs.declared.order.Phase.TheVariants.{Rest}
use Rattle.block.proofs.Laws.{answer_there}
use Rattle.std.specs.Option.{option_map}
use Rattle.std.specs.Result.{result_err}
use Rattle.rules.specs.Calls.{section_of, direction_of}
use Rattle.rules.specs.Checks.{checks, section_unknown, instrument_refuses, home_shut, going}
use Rattle.rules.specs.Effects.{effect, section_effect, trains_effect}
use Rattle.rules.specs.Calls.{action_of}
use Rattle.rules.specs.State.{LineState, count, section_at, block_signal, home_signal, is_closed, home_is_open}
use Rattle.trains.specs.Trains.{place_of, runs, presses, exit_post, is_inside, is_pressing, occupied, pedal_pressed}
use Rattle.rules.specs.declared.calls.Call.{Call}
use Rattle.rules.specs.declared.calls.Call.TheVariants.{OpenSignal, CloseSignal, ReturnRelease, OpenHome, ShutHome, ReachPedal, LeaveSection, ClearSection, UnsealSection, RestoreSection}
use Rattle.rules.specs.declared.refusals.LineRefusal.TheVariants.{SectionUnknown, Instrument}
use Rattle.rules.specs.declared.signals.BlockSignal.TheVariants.{Closed, Open}
use Rattle.rules.specs.declared.signals.HomeSignal.TheVariants.{Shut, Open as HomeOpen}
use Rattle.rules.specs.declared.signals.SectionState.{SectionState}
use Rattle.trains.specs.declared.places.Place.{Place}
use Rattle.trains.specs.declared.places.Place.TheVariants.{AtPost, Running, OnPedal}
use Rattle.turn.specs.Law.{Accepted, Unmoved, Brought}
use Rattle.turn.specs.Rows.{row_of, unsealing, seals_of}
use Rattle.turn.specs.Telling.{inside_at}
use Rattle.turn.specs.Turn.{TurnState, no_seal_row, turn_refusal, worked, run}
use Rattle.turn.proofs.Decode.{Pass, unpassed, accepted}
use Rattle.turn.proofs.Apart.{apart}
use Rattle.turn.proofs.Good.{Good, Kept, phases_length}
use Rattle.turn.proofs.Inversions.{own_way}
use Rattle.turn.proofs.Keeps.{open_signal, close_signal, return_release, open_home, shut_home, clear_section, unseal_section, restore_section}
use Rattle.turn.proofs.Moves.{moved_other, reach, leave}
use Rattle.turn.proofs.Runs.{admits, stepped}
use Rattle.turn.proofs.Signals.{home_changed, home_beside_block}
use Rattle.turn.proofs.Tables.{any_some}
use Rattle.turn.proofs.Tests.{none_some, true_false}
use Rattle.turn.proofs.Ways.{Past, Use, unused, running, pressing, gone, Lever, pulled, put_back, returned, Way, rest, given, held, cleared, phase_of, signal_of, block_of, pedal_of, inside_of}

-- how many calls are left, from the way in which the section stands and whether its home signal is open
abbrev returned_left : Use → Bool → ℕ
returned_left unused h = 2 + cond h 1 0
returned_left (running n e) h = 5 + cond h 0 1
returned_left (pressing n e) h = 4
returned_left (gone n e l) h = 2 + cond h 1 0

abbrev lever_left : Lever → ℕ
lever_left pulled = 2
lever_left put_back = 1
lever_left returned = 0

abbrev left : Way → (Direction → Bool) → ℕ
left (rest p) h = 0
left (given d g) h = 5 + cond (h d) 1 0
left (held d l u g o) h = lever_left l + returned_left u (h d)
left (cleared d p) h = 1 + cond (h d) 1 0

at_most_eight : (w : Way) (h : Direction → Bool) → left w h ≤ 8
at_most_eight (rest p) h = omega arith
at_most_eight (given d g) h = by (h d)
  where
    by : (b : Bool) → 5 + cond b 1 0 ≤ 8
    by true = omega arith
    by false = omega arith
at_most_eight (held d l u g o) h = omega (arith, by_lever l, by_use u (h d))
  where
    by_lever : (l : Lever) → lever_left l ≤ 2
    by_lever pulled = omega arith
    by_lever put_back = omega arith
    by_lever returned = omega arith

    by_use : (u : Use) (b : Bool) → returned_left u b ≤ 6
    by_use unused true = omega arith
    by_use unused false = omega arith
    by_use (running n e) true = omega arith
    by_use (running n e) false = omega arith
    by_use (pressing n e) b = omega arith
    by_use (gone n e l) true = omega arith
    by_use (gone n e l) false = omega arith
at_most_eight (cleared d p) h = by (h d)
  where
    by : (b : Bool) → 1 + cond b 1 0 ≤ 8
    by true = omega arith
    by false = omega arith

-- how many unsealings are
abbrev use_seals : Use → ℕ
use_seals unused = 1
use_seals (running n e) = 0
use_seals (pressing n e) = 0
use_seals (gone n e l) = 0

abbrev seals_left : Way → ℕ
seals_left (rest p) = 0
seals_left (given d g) = 1
seals_left (held d l u g o) = use_seals u
seals_left (cleared d p) = 0

abbrev home : LineState → ℕ → Direction → Bool
home s k d = home_is_open (home_signal d (section_at s.sections k))

-- one call that takes the section nearer to rest
record Nearer (t : TurnState) (k : ℕ) (w : Way) : Type 0 where
  call : Call
  passes : Pass (checks t.line call)
  next : Way
  keeps : Kept t call k next
  fewer : suc (left next (home (effect t.line call) k)) ≤ left w (home t.line k)
  sealing : seals_left next + length (seals_of (unsealing call) 0) ≤ seals_left w
  posts : (n p : ℕ) → place_of n t.line.trains ≡ Some (AtPost p) → place_of n (effect t.line call).trains ≡ Some (AtPost p)

-- an instrument accepts an action in the phase that it leaves
works : (s : LineState) (a : Action) (k : ℕ) (d : Direction) → k < count s → phase_at s.phases k ≡ leaves a d → instrument_refuses s a k d ≡ None
works s a k d there is =
    ap (λ r. option_map Instrument (result_err r)) (answer_there s.phases k there a d ∙ ap (λ p. answer_of (instrument-worked a k d p)) is ∙ fits)
  where
    fits : answer_of (instrument-worked a k d (leaves a d)) ≡ Ok tt
    fits = ap (λ b. answer_of (cond b (Ok (brings a d)) (Err (instrument-refusal a k d (leaves a d))))) (eq-eqb (phase_code (leaves a d)) (phase_code (leaves a d)) refl)

-- a place inside a section is the train's place
placed : (k : ℕ) (o : Option Place) (p : Place) → inside_at k o ≡ Some p → o ≡ Some p
placed k o p = by (is_inside k o)
  where
    by : (b : Bool) → cond b o None ≡ Some p → o ≡ Some p
    by true e = e
    by false e = absurd (none_some e)

module _ (t : TurnState) (g : Good t) (k : ℕ) (there : k < count t.line) where
  abbrev line : LineState
  line = t.line

  abbrev now : ℕ → Option Place
  now n = place_of n line.trains

  known_section : section_unknown line k ≡ None
  known_section = unpassed _ SectionUnknown (lt-leb (count line) k there)

  -- no train inside: no section occupied, no pedal pressed
  nobody : (w : Way) → g.way k ≡ w → ((n : ℕ) → inside_of k w n ≡ None) → (n : ℕ) → inside_at k (now n) ≡ None
  nobody w is none n = (g.stands k).inside_is n ∙ ap (λ v. inside_of k v n) is ∙ none n

  not_inside : ((n : ℕ) → inside_at k (now n) ≡ None) → occupied k line.trains ≡ false
  not_inside none = by (occupied k line.trains) refl
    where
      by : (b : Bool) → occupied k line.trains ≡ b → b ≡ false
      by false e = refl
      by true e = let f = any_some (is_inside k) refl line.trains g.once e in absurd (there_is (now f.0) f.1 (none f.0))
        where
          there_is : (o : Option Place) → is_inside k o ≡ true → cond (is_inside k o) o None ≡ None → ⊥
          there_is None e h = true_false (sym e)
          there_is (Some p) e h = none_some (sym (sym (ap (λ b. cond b (Some p) None) e) ∙ h))

  not_pressed : (d : Direction) → ((n : ℕ) → inside_at k (now n) ≡ None) → pedal_pressed k d line.trains ≡ false
  not_pressed d none = by (pedal_pressed k d line.trains) refl
    where
      by : (b : Bool) → pedal_pressed k d line.trains ≡ b → b ≡ false
      by false e = refl
      by true e = let f = any_some (is_pressing k d) refl line.trains g.once e in absurd (there_is (now f.0) f.1 (none f.0))
        where
          there_is : (o : Option Place) → is_pressing k d o ≡ true → cond (is_inside k o) o None ≡ None → ⊥
          there_is None e h = true_false (sym e)
          there_is (Some (AtPost p)) e h = true_false (sym e)
          there_is (Some (Running j c)) e h = true_false (sym e)
          there_is (Some (OnPedal j c)) e h = none_some (sym (sym (ap (λ b. cond b (Some (OnPedal j c)) None) (and_parts _ _ e).0) ∙ h))

  -- the phase, in a way that is known
  phase_in : (w : Way) → g.way k ≡ w → phase_at line.phases k ≡ phase_of w
  phase_in w is = (g.stands k).phase_is ∙ ap phase_of is

  module _ (d : Direction) where
    home_stays : (c : Call) (w : Way) → Kept t c k w → ((x : SectionState) → home_signal d (section_effect c (direction_of line c) x) ≡ home_signal d x) → home (effect line c) k d ≡ home line k d
    home_stays c w kept same = ap (λ x. home_is_open (home_signal d x)) kept.section_is ∙ ap home_is_open (same (section_at line.sections k))

    open_next : (x : ℕ) → g.way k ≡ given d x → Nearer t k (given d x)
    unfolding effect
    open_next x is =
        let c = OpenSignal k d in
        let pass : Pass (checks line c) = (known_section, (works line OpenAction k d there (phase_in (given d x) is), tt)) in
        let kept = open_signal t g k d x is (accepted line c g.sound pass) in
        record {
          call = c;
          passes = pass;
          next = held d pulled unused x (length t.register.rows);
          keeps = kept;
          fewer = omega (arith, ap (λ b. cond b 1 0 + 0) (home_stays c _ kept (λ y. home_beside_block d d Open y)));
          sealing = omega arith;
          posts = λ n p e. e;
        }

    close_next : (u : Use) (x o : ℕ) → g.way k ≡ held d pulled u x o → Nearer t k (held d pulled u x o)
    unfolding effect
    close_next u x o is =
        let c = CloseSignal k d in
        let lever : is_closed (block_signal d (section_at line.sections k)) ≡ false =
        ap is_closed ((g.stands k).block_is d ∙ ap (block_of d) is) ∙ ap (λ b. is_closed (cond b (signal_of pulled u) Closed)) (own_way d) ∙ out u
        in
        let pass : Pass (checks line c) = (known_section, (unpassed _ _ lever, tt)) in
        let kept = close_signal t g k d u x o is (accepted line c g.sound pass) in
        record {
          call = c;
          passes = pass;
          next = held d put_back u x o;
          keeps = kept;
          fewer = omega (arith, ap (returned_left u) (home_stays c _ kept (λ y. home_beside_block d d Closed y)));
          sealing = omega arith;
          posts = λ n p e. e;
        }
      where
        out : (u : Use) → is_closed (signal_of pulled u) ≡ false
        out unused = refl
        out (running n e) = refl
        out (pressing n e) = refl
        out (gone n e l) = refl

    return_next : (u : Use) (x o : ℕ) → g.way k ≡ held d put_back u x o → Nearer t k (held d put_back u x o)
    unfolding effect
    return_next u x o is =
        let c = ReturnRelease k d in
        let lever : not (is_closed (block_signal d (section_at line.sections k))) ≡ false =
        ap (λ b. not (is_closed b)) ((g.stands k).block_is d ∙ ap (block_of d) is) ∙ ap (λ b. not (is_closed (cond b Closed Closed))) (own_way d)
        in
        let pass : Pass (checks line c) = (known_section, (unpassed _ _ lever, (works line Return k d there (phase_in (held d put_back u x o) is), tt))) in
        let kept = return_release t g k d u x o is (accepted line c g.sound pass) in
        record {
          call = c;
          passes = pass;
          next = held d returned u x o;
          keeps = kept;
          fewer = omega (arith, ap (returned_left u) (home_stays c _ kept (λ y. refl)));
          sealing = omega arith;
          posts = λ n p e. e;
        }

    -- the home signal is shut where it is open, and opened where it is shut
    shut_next : (w : Way) → g.way k ≡ w → ((n : ℕ) → inside_of k w n ≡ None) → home line k d ≡ true
        → ((h : Direction → Bool) → h d ≡ false → suc (left w h) ≤ left w (home line k)) → Nearer t k w
    unfolding effect
    shut_next w is none up fewer =
        let c = ShutHome k d in
        let pass : Pass (checks line c) = (known_section, (unpassed _ _ (ap not up), (unpassed _ _ (not_pressed d (nobody w is none)), tt))) in
        let kept = shut_home t g k d w is (accepted line c g.sound pass) in
        record {
          call = c;
          passes = pass;
          next = w;
          keeps = kept;
          fewer = fewer (home (effect line c) k) (ap (λ x. home_is_open (home_signal d x)) kept.section_is ∙ ap home_is_open (home_changed d Shut (section_at line.sections k)));
          sealing = omega arith;
          posts = λ n p e. e;
        }

    open_home_next : (n a x o : ℕ) → g.way k ≡ held d returned (running n a) x o → home line k d ≡ false → Nearer t k (held d returned (running n a) x o)
    unfolding effect
    open_home_next n a x o is shut =
        let c = OpenHome k d in
        let w = held d returned (running n a) x o in
        let pass : Pass (checks line c) = (known_section, (unpassed _ _ shut, tt)) in
        let kept = open_home t g k d w is (accepted line c g.sound pass) in
        let opened : home (effect line c) k d ≡ true = ap (λ y. home_is_open (home_signal d y)) kept.section_is ∙ ap home_is_open (home_changed d HomeOpen (section_at line.sections k)) in
        record {
          call = c;
          passes = pass;
          next = w;
          keeps = kept;
          fewer = omega (arith, ap (returned_left (running n a)) opened, ap (returned_left (running n a)) shut);
          sealing = omega arith;
          posts = λ m p e. e;
        }

    -- where the train is, in a way that is known
    train_in : (w : Way) (n : ℕ) (p : Place) → g.way k ≡ w → inside_of k w n ≡ Some p → now n ≡ Some p
    train_in w n p is inside = placed k (now n) p ((g.stands k).inside_is n ∙ ap (λ v. inside_of k v n) is ∙ inside)

    present : (n : ℕ) (p : Place) → now n ≡ Some p → not (is_some (now n)) ≡ false
    present n p e = ap (λ o. not (is_some o)) e

    reach_next : (n a x o : ℕ) → g.way k ≡ held d returned (running n a) x o → home line k d ≡ true → Nearer t k (held d returned (running n a) x o)
    unfolding effect
    reach_next n a x o is up =
        let c = ReachPedal n k in
        let w = held d returned (running n a) x o in
        let here = train_in w n (Running k d) is (ap (λ b. cond b (Some (Running k d)) None) (eq-eqb n n refl)) in
        let goes : direction_of line c ≡ Some d = ap (runs k) here ∙ ap (λ b. cond b (Some d) None) (eq-eqb k k refl) in
        let home-passes : going (direction_of line c) (home_shut line k) ≡ None = ap (λ f. going f (home_shut line k)) goes ∙ unpassed _ _ (ap not up) in
        let pass : Pass (checks line c) = (g.known n _ here, (known_section, (unpassed _ _ (present n _ here), (unpassed _ _ (ap (λ f. not (is_some f)) goes), (home-passes, tt))))) in
        let kept = reach t g n k d returned a x o here is (accepted line c g.sound pass) in
        let moves = ap (λ f. trains_effect c f line.trains) goes in
        record {
          call = c;
          passes = pass;
          next = held d returned (pressing n a) x o;
          keeps = kept;
          fewer = omega (arith, ap (returned_left (running n a)) up);
          sealing = omega arith;
          posts = λ m p e. moved_other t g c n refl (Running k d) (OnPedal k d) here moves m (λ same. clash (sym here ∙ ap now (sym same) ∙ e)) ∙ e;
        }
      where
        clash : {p : ℕ} → Some (Running k d) ≡ Some (AtPost p) → ⊥
        clash e = let z : ◌≡◌ {A = ℕ} 0 1 = cc in omega arith

    leave_next : (n a x o : ℕ) → g.way k ≡ held d returned (pressing n a) x o → Nearer t k (held d returned (pressing n a) x o)
    unfolding effect
    leave_next n a x o is =
        let c = LeaveSection n k in
        let w = held d returned (pressing n a) x o in
        let here = train_in w n (OnPedal k d) is (ap (λ b. cond b (Some (OnPedal k d)) None) (eq-eqb n n refl)) in
        let goes : direction_of line c ≡ Some d = ap (presses k) here ∙ ap (λ b. cond b (Some d) None) (eq-eqb k k refl) in
        let pass : Pass (checks line c) = (g.known n _ here, (known_section, (unpassed _ _ (present n _ here), (unpassed _ _ (ap (λ f. not (is_some f)) goes), tt)))) in
        let kept = leave t g n k d returned a x o here is (accepted line c g.sound pass) in
        let moves = ap (λ f. trains_effect c f line.trains) goes in
        record {
          call = c;
          passes = pass;
          next = held d returned (gone n a (length t.register.rows)) x o;
          keeps = kept;
          fewer = most (home (effect line c) k d);
          sealing = omega arith;
          posts = λ m p e. moved_other t g c n refl (OnPedal k d) (AtPost (exit_post k d)) here moves m (λ same. clash (sym here ∙ ap now (sym same) ∙ e)) ∙ e;
        }
      where
        clash : {p : ℕ} → Some (OnPedal k d) ≡ Some (AtPost p) → ⊥
        clash e = let z : ◌≡◌ {A = ℕ} 0 1 = cc in omega arith

        most : (b : Bool) → suc (0 + (2 + cond b 1 0)) ≤ 4
        most true = omega arith
        most false = omega arith

    clear_next : (n a b x o : ℕ) → g.way k ≡ held d returned (gone n a b) x o → home line k d ≡ false → Nearer t k (held d returned (gone n a b) x o)
    unfolding effect
    clear_next n a b x o is shut =
        let c = ClearSection k d in
        let w = held d returned (gone n a b) x o in
        let mark : not (section_at line.sections k).pedal ≡ false = ap not ((g.stands k).pedal_is ∙ ap pedal_of is) in
        let pass : Pass (checks line c) = (known_section, (unpassed _ _ shut, (unpassed _ _ mark, (works line Clear k d there (phase_in w is), tt)))) in
        let kept = clear_section t g k d n a b x o is (accepted line c g.sound pass) in
        let still = home_stays c _ kept (λ y. refl) ∙ shut in
        record {
          call = c;
          passes = pass;
          next = _;
          keeps = kept;
          fewer = omega (arith, ap (λ h. cond h 1 0 + 0) still, ap (returned_left (gone n a b)) shut);
          sealing = omega arith;
          posts = λ m p e. e;
        }

    unseal_next : (x o : ℕ) → g.way k ≡ held d returned unused x o → home line k d ≡ false → Nearer t k (held d returned unused x o)
    unfolding effect
    unseal_next x o is shut =
        let c = UnsealSection k d in
        let w = held d returned unused x o in
        let mark : (section_at line.sections k).pedal ≡ false = (g.stands k).pedal_is ∙ ap pedal_of is in
        let pass : Pass (checks line c) = (known_section, (unpassed _ _ shut, (unpassed _ _ (not_inside (nobody w is (λ n. refl))), (unpassed _ _ mark, (works line Clear k d there (phase_in w is), tt))))) in
        let kept = unseal_section t g k d x o is (accepted line c g.sound pass) in
        let still = home_stays c _ kept (λ y. refl) ∙ shut in
        record {
          call = c;
          passes = pass;
          next = _;
          keeps = kept;
          fewer = omega (arith, ap (λ h. cond h 1 0 + 0) still, ap (returned_left unused) shut);
          sealing = omega arith;
          posts = λ m p e. e;
        }

    restore_next : (p : Past) → g.way k ≡ cleared d p → home line k d ≡ false → Nearer t k (cleared d p)
    unfolding effect
    restore_next p is shut =
        let c = RestoreSection k d in
        let pass : Pass (checks line c) = (known_section, (unpassed _ _ shut, (works line Restore k d there (phase_in (cleared d p) is), tt))) in
        let kept = restore_section t g k d p is (accepted line c g.sound pass) in
        record {
          call = c;
          passes = pass;
          next = rest p;
          keeps = kept;
          fewer = omega arith;
          sealing = omega arith;
          posts = λ m q e. e;
        }

    -- the home signal is shut before an unsealing, a clearing or a restoring
    first_shut : (w : Way) → g.way k ≡ w → ((n : ℕ) → inside_of k w n ≡ None)
        → ((h : Direction → Bool) → h d ≡ false → home line k d ≡ true → suc (left w h) ≤ left w (home line k)) → (home line k d ≡ false → Nearer t k w) → Nearer t k w
    first_shut w is none fewer next = by (home line k d) refl
      where
        by : (b : Bool) → home line k d ≡ b → Nearer t k w
        by true e = shut_next w is none e (λ h shut. fewer h shut e)
        by false e = next e

  nearer : (w : Way) → g.way k ≡ w → ((p : Past) × (w ≡ rest p)) ⊎ Nearer t k w
  nearer (rest p) is = inl (p, refl)
  nearer (given d x) is = inr (open_next d x is)
  nearer (held d pulled u x o) is = inr (close_next d u x o is)
  nearer (held d put_back u x o) is = inr (return_next d u x o is)
  nearer (held d returned unused x o) is =
      inr (first_shut d (held d returned unused x o) is (λ n. refl) (λ h shut up. omega (arith, ap (returned_left unused) shut, ap (returned_left unused) up)) (unseal_next d x o is))
  nearer (held d returned (running n a) x o) is = inr (by (home line k d) refl)
    where
      by : (b : Bool) → home line k d ≡ b → Nearer t k (held d returned (running n a) x o)
      by true e = reach_next d n a x o is e
      by false e = open_home_next d n a x o is e
  nearer (held d returned (pressing n a) x o) is = inr (leave_next d n a x o is)
  nearer (held d returned (gone n a b) x o) is =
      inr (first_shut d (held d returned (gone n a b) x o) is (λ m. refl) (λ h shut up. omega (arith, ap (returned_left unused) shut, ap (returned_left unused) up)) (clear_next d n a b x o is))
  nearer (cleared d p) is =
      inr (first_shut d (cleared d p) is (λ n. refl) (λ h shut up. omega (arith, ap (λ b. cond b 1 0 + 0) shut, ap (λ b. cond b 1 0 + 0) up)) (restore_next d p is))

-- a turn that has come from t, with section k at rest, and nothing else touched
record Reached (t : TurnState) (k : ℕ) (u : TurnState) : Type 0 where
  good : Good u
  past : Past
  at_rest : good.way k ≡ rest past
  others : (j : ℕ) → (j ≡ k → ⊥) → Unmoved t.line u.line j
  posts : (n p : ℕ) → place_of n t.line.trains ≡ Some (AtPost p) → place_of n u.line.trains ≡ Some (AtPost p)

abbrev Brings : TurnState → ℕ → ℕ → Type 0
Brings t k m = (cs : List Call) × (length cs ≤ m) × Accepted t cs × Reached t k (run t cs)

seals_length : (o : Option (ℕ × Direction)) (m : ℕ) → length (seals_of o m) ≡ length (seals_of o 0)
seals_length None m = refl
seals_length (Some u) m = refl

chain : (a b c : LineState) (j : ℕ) → Unmoved a b j → Unmoved b c j → Unmoved a c j
chain a b c j x y = record { phase = y.phase ∙ x.phase; signals = y.signals ∙ x.signals; trains = λ n. y.trains n ∙ x.trains n }

module _ (t : TurnState) (g : Good t) (k m : ℕ) (x : Nearer t k (g.way k))
    (few : left (g.way k) (home t.line k) ≤ suc m) (room : length t.register.rows + suc m ≤ t.register.room)
    (seals : length t.seals.rows + seals_left (g.way k) ≤ t.seals.room) where
  nearer_accepted : turn_refusal t x.call ≡ None
  nearer_accepted = admits t x.call (record {
    room = lt-leb t.register.room (length t.register.rows) (omega arith);
    seal_room = by (unsealing x.call) x.sealing;
    line_accepts = accepted t.line x.call g.sound x.passes;
  })
    where
      by : (o : Option (ℕ × Direction)) → seals_left x.next + length (seals_of o 0) ≤ seals_left (g.way k) → no_seal_row o t.seals ≡ false
      by None h = refl
      by (Some u) h = lt-leb t.seals.room (length t.seals.rows) (omega (arith, h, seals))

  nearer_few : left (x.keeps.good.way k) (home (effect t.line x.call) k) ≤ m
  nearer_few = subst (λ w. left w (home (effect t.line x.call) k) ≤ m) (sym x.keeps.way_is) (omega (arith, x.fewer, few))

  nearer_room : length (worked t x.call).register.rows + m ≤ t.register.room
  nearer_room = omega (arith, room, length_push t.register.rows (row_of t.line x.call))

  nearer_seals : length (worked t x.call).seals.rows + seals_left (x.keeps.good.way k) ≤ t.seals.room
  nearer_seals = subst (λ w. length (worked t x.call).seals.rows + seals_left w ≤ t.seals.room) (sym x.keeps.way_is)
      (omega (arith, seals, x.sealing, seals_length (unsealing x.call) (length t.register.rows), length-append t.seals.rows (seals_of (unsealing x.call) (length t.register.rows))))

as_many : (s : LineState) (c : Call) → count (effect s c) ≡ count s
unfolding effect
as_many s c = phases_length (action_of c) (section_of c) (direction_of s c) s.phases

bring : (m : ℕ) (t : TurnState) (g : Good t) (k : ℕ) → k < count t.line → left (g.way k) (home t.line k) ≤ m
    → length t.register.rows + m ≤ t.register.room → length t.seals.rows + seals_left (g.way k) ≤ t.seals.room → Brings t k m
bring zero t g k there few room seals =
    ⊎_elim
    (λ r. ([], omega arith, tt, record { good = g; past = r.0; at_rest = r.1; others = λ j apart. record { phase = refl; signals = refl; trains = λ n. refl }; posts = λ n p e. e }))
    (λ x. absurd (omega (arith, x.fewer, few)))
    (nearer t g k there (g.way k) refl)
bring (suc m) t g k there few room seals =
    ⊎_elim
    (λ r. ([], omega arith, tt, record { good = g; past = r.0; at_rest = r.1; others = λ j apart. record { phase = refl; signals = refl; trains = λ n. refl }; posts = λ n p e. e }))
    (λ x. step_on x (bring m (worked t x.call) x.keeps.good k (still x) (nearer_few t g k m x few room seals) (nearer_room t g k m x few room seals) (nearer_seals t g k m x few room seals)))
    (nearer t g k there (g.way k) refl)
  where
    still : (x : Nearer t k (g.way k)) → k < count (effect t.line x.call)
    still x = omega (arith, there, as_many t.line x.call)

    step_on : (x : Nearer t k (g.way k)) → Brings (worked t x.call) k m → Brings t k (suc m)
    step_on x b =
        let ok = nearer_accepted t g k m x few room seals in
        let here = stepped t x.call ok in
        let r = b.3 in
        let reached : Reached t k (run (worked t x.call) b.0) = record {
          good = r.good;
          past = r.past;
          at_rest = r.at_rest;
          others = λ j apart. chain t.line (effect t.line x.call) (run (worked t x.call) b.0).line j (x.keeps.unmoved j apart) (r.others j apart);
          posts = λ n p e. r.posts n p (x.posts n p e);
        } in
        (x.call ∷ b.0, omega (arith, b.1), (ok, subst (λ u. Accepted u b.0) (sym here) b.2), subst (λ u. Reached t k (run u b.0)) (sym here) reached)

-- eight calls and one unsealing are enough
pub brought : (t : TurnState) → Good t → (k : ℕ) → k < count t.line → length t.register.rows + 8 ≤ t.register.room → length t.seals.rows + 1 ≤ t.seals.room → Brought t k
brought t g k there room seals =
    let b = bring 8 t g k there (at_most_eight (g.way k) (home t.line k)) room (omega (arith, seals, one_seal (g.way k))) in
    let r = b.3 in
    let u = run t b.0 in
    let phase : phase_at u.line.phases k ≡ Rest = (r.good.stands k).phase_is ∙ ap phase_of r.at_rest in
    record {
      calls = b.0;
      at_most_eight = b.1;
      accepted = b.2;
      at_rest = phase;
      empty = λ n x. nobody_there (place_of n u.line.trains) ((apart u r.good).recorded n k x) ((r.good.stands k).inside_is n ∙ ap (λ w. inside_of k w n) r.at_rest);
      others = r.others;
      posts = r.posts;
    }
  where
    one_seal : (w : Way) → seals_left w ≤ 1
    one_seal (rest p) = omega arith
    one_seal (given d x) = omega arith
    one_seal (held d l unused x o) = omega arith
    one_seal (held d l (running n e) x o) = omega arith
    one_seal (held d l (pressing n e) x o) = omega arith
    one_seal (held d l (gone n e b) x o) = omega arith
    one_seal (cleared d p) = omega arith

    nobody_there : (o : Option Place) → is_inside k o ≡ true → inside_at k o ≡ None → ⊥
    nobody_there None e h = true_false (sym e)
    nobody_there (Some p) e h = none_some (sym (sym (ap (λ b. cond b (Some p) None) e) ∙ h))
