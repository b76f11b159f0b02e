-- A turn in good order: every section stands in some way, and every train has made only whole trips. A call that is accepted
-- leaves it so, if it leaves its own section so.
use Rattle.std.proofs.Common.{◌≡◌, ℕ, suc, ◌+◌, ◌<◌, ◌≤◌, List, [], ◌∷◌, ◌++◌, length, Some, None, Option, sym, refl, ap, ◌∙◌, subst, append_assoc, append-nil, arith, length-set, get_or-set_other, get_or-set_same}
use Rattle.block.specs.Meaning.{phase_at}
use Rattle.block.specs.declared.order.Action.{Action}
use Rattle.block.specs.declared.order.Direction.{Direction}
use Rattle.block.specs.declared.order.Phase.{Phase}
use Rattle.block.proofs.Steps as steps
use Rattle.rules.specs.Calls.{train_of, section_of, direction_of}
use Rattle.rules.specs.Checks.{train_unknown}
use Rattle.rules.specs.Effects.{section_effect, phases_effect, sections_effect, effect}
use Rattle.rules.specs.Calls.{action_of}
use Rattle.rules.specs.State.{LineState, count, section_at, idle}
use Rattle.trains.specs.Trains.{place_of}
use Rattle.rules.specs.declared.calls.Call.{Call}
use Rattle.rules.specs.declared.calls.Call.TheVariants.{PlaceTrain, WithdrawTrain, GiveRelease, OpenSignal, CloseSignal, EnterSection, ReturnRelease, OpenHome, ShutHome, ReachPedal, LeaveSection, ClearSection, UnsealSection, RestoreSection}
use Rattle.rules.specs.declared.signals.Condition.TheVariants.{Sound}
use Rattle.rules.specs.declared.signals.SectionState.{SectionState}
use Rattle.trains.specs.declared.places.Place.{Place}
use Rattle.turn.specs.Alike.{Once}
use Rattle.turn.specs.Law.{Unmoved}
use Rattle.turn.specs.Rows.{row_of, kind_of, unsealing, seals_of}
use Rattle.turn.specs.Telling.{seal_where, seal_rows, inside_at}
use Rattle.turn.specs.Turn.{TurnState, worked}
use Rattle.turn.specs.declared.rows.RegisterRow.{RegisterRow}
use Rattle.turn.proofs.Standing.{Standing, stand_past}
use Rattle.turn.proofs.Tests.{none_some, some_same, at, at_same, each}
use Rattle.turn.proofs.Trips.{Trip, trip_past}
use Rattle.turn.proofs.Ways.{Way}

pub record Good (t : TurnState) : Type 0 where
  pub sound : t.line.condition ≡ Sound
  pub few : count t.line ≤ 16
  pub wide : length t.line.sections ≡ 16
  pub once : Once t.line.trains
  pub known : (n : ℕ) (p : Place) → place_of n t.line.trains ≡ Some p → train_unknown n ≡ None
  pub way : ℕ → Way
  pub stands : (k : ℕ) → Standing (phase_at t.line.phases k) (section_at t.line.sections k) (λ n. place_of n t.line.trains) t.register.rows k (way k)
  pub trip : (n : ℕ) → Trip t.register.rows n (place_of n t.line.trains)
  pub sealed : t.seals.rows ≡ seal_rows 0 t.register.rows

-- after a call: good order, its section k in this way and changed as the call says, and every other section as it stood
pub record Kept (t : TurnState) (c : Call) (k : ℕ) (w : Way) : Type 0 where
  pub good : Good (worked t c)
  pub way_is : good.way k ≡ w
  pub section_is : section_at (effect t.line c).sections k ≡ section_effect c (direction_of t.line c) (section_at t.line.sections k)
  pub unmoved : (j : ℕ) → (j ≡ k → ⊥) → Unmoved t.line (effect t.line c) j

pub phases_length : (o : Option Action) (k : Option ℕ) (e : Option Direction) (ps : List Phase) → length (phases_effect o k e ps) ≡ length ps
phases_length None k e ps = refl
phases_length (Some a) None e ps = refl
phases_length (Some a) (Some k) None ps = refl
phases_length (Some a) (Some k) (Some d) ps = (steps.step ps a k d).count

phases_other : (o : Option Action) (k : Option ℕ) (e : Option Direction) (ps : List Phase) (j : ℕ) → (k ≡ Some j → ⊥) → phase_at (phases_effect o k e ps) j ≡ phase_at ps j
phases_other None k e ps j apart = refl
phases_other (Some a) None e ps j apart = refl
phases_other (Some a) (Some k) None ps j apart = refl
phases_other (Some a) (Some k) (Some d) ps j apart = (steps.step ps a k d).others j (λ same. apart (ap Some (sym same)))

sections_length : (k : Option ℕ) (f : SectionState → SectionState) (xs : List SectionState) → length (sections_effect k f xs) ≡ length xs
sections_length None f xs = refl
sections_length (Some k) f xs = length-set xs k (f (section_at xs k))

sections_other : (k : Option ℕ) (f : SectionState → SectionState) (xs : List SectionState) (j : ℕ) → (k ≡ Some j → ⊥) → section_at (sections_effect k f xs) j ≡ section_at xs j
sections_other None f xs j apart = refl
sections_other (Some k) f xs j apart = get_or-set_other xs k j (f (section_at xs k)) idle (λ same. apart (ap Some (sym same)))

-- an unsealing's row of the register tells what its seal row has
seals_match : (s : LineState) (c : Call) (m : ℕ) → seals_of (unsealing c) m ≡ seal_where (kind_of c) m (section_of c) (direction_of s c)
seals_match s (PlaceTrain n p) m = refl
seals_match s (WithdrawTrain n) m = refl
seals_match s (GiveRelease k d) m = refl
seals_match s (OpenSignal k d) m = refl
seals_match s (CloseSignal k d) m = refl
seals_match s (EnterSection n k) m = refl
seals_match s (ReturnRelease k d) m = refl
seals_match s (OpenHome k d) m = refl
seals_match s (ShutHome k d) m = refl
seals_match s (ReachPedal n k) m = refl
seals_match s (LeaveSection n k) m = refl
seals_match s (ClearSection k d) m = refl
seals_match s (UnsealSection k d) m = refl
seals_match s (RestoreSection k d) m = refl

seals_push : (rows : List RegisterRow) (x : RegisterRow) (i j : ℕ) → i + length rows ≡ j → seal_rows i (rows ++ x ∷ []) ≡ seal_rows i rows ++ seal_where x.kind j x.section x.direction
seals_push [] x i j e =
    let here : i ≡ j = omega arith in
    append-nil (seal_where x.kind i x.section x.direction) ∙ ap (λ n. seal_where x.kind n x.section x.direction) here
seals_push (r ∷ rs) x i j e =
    ap (λ ys. seal_where r.kind i r.section r.direction ++ ys) (seals_push rs x (suc i) j (omega arith))
    ∙ sym (append_assoc (seal_where r.kind i r.section r.direction) (seal_rows (suc i) rs) (seal_where x.kind j x.section x.direction))

module _ (t : TurnState) (g : Good t) (c : Call) where
  abbrev after_line : LineState
  after_line = effect t.line c

  abbrev after_rows : List RegisterRow
  after_rows = t.register.rows ++ row_of t.line c ∷ []

  abbrev after_place : ℕ → Option Place
  after_place n = place_of n after_line.trains

  -- what is to be shown of the trains, whatever the call's section
  pub record Trains : Type 0 where
    pub stay : (j : ℕ) → (section_of c ≡ Some j → ⊥) → (n : ℕ) → inside_at j (after_place n) ≡ inside_at j (place_of n t.line.trains)
    pub once_after : Once after_line.trains
    pub known_after : (n : ℕ) (p : Place) → after_place n ≡ Some p → train_unknown n ≡ None
    pub trip_after : (n : ℕ) → Trip after_rows n (after_place n)

  -- a call that names no train, and moves none
  pub quiet : train_of c ≡ None → after_line.trains ≡ t.line.trains → Trains
  quiet nobody still = record {
    stay = λ j apart n. ap (λ xs. inside_at j (place_of n xs)) still;
    once_after = subst Once (sym still) g.once;
    known_after = λ n p e. g.known n p (sym (ap (place_of n) still) ∙ e);
    trip_after = λ n. subst (λ xs. Trip after_rows n (place_of n xs)) (sym still)
        (trip_past t.register.rows n (row_of t.line c) (λ e h. none_some (sym nobody ∙ h)) (λ e h. none_some (sym nobody ∙ h)) (place_of n t.line.trains) (g.trip n));
  }

  others : Trains → (j : ℕ) → (section_of c ≡ Some j → ⊥) → Standing (phase_at after_line.phases j) (section_at after_line.sections j) after_place after_rows j (g.way j)
  unfolding effect
  others trains j apart =
      let p = phases_other (action_of c) (section_of c) (direction_of t.line c) t.line.phases j apart in
      let s = sections_other (section_of c) (section_effect c (direction_of t.line c)) t.line.sections j apart in
      let moved = stand_past (g.stands j) (row_of t.line c) apart after_place (trains.stay j apart) in
      subst (λ q. Standing q (section_at after_line.sections j) after_place after_rows j (g.way j)) (sym p)
      (subst (λ x. Standing (phase_at t.line.phases j) x after_place after_rows j (g.way j)) (sym s) moved)

  made : Trains → (w : ℕ → Way) → ((j : ℕ) → Standing (phase_at after_line.phases j) (section_at after_line.sections j) after_place after_rows j (w j)) → Good (worked t c)
  unfolding effect
  made trains w stand = record {
    sound = g.sound;
    few = omega (arith, g.few, phases_length (action_of c) (section_of c) (direction_of t.line c) t.line.phases);
    wide = sections_length (section_of c) (section_effect c (direction_of t.line c)) t.line.sections ∙ g.wide;
    once = trains.once_after;
    known = trains.known_after;
    way = w;
    stands = stand;
    trip = trains.trip_after;
    sealed = (λ i. g.sealed i ++ seals_match t.line c (length t.register.rows) i) ∙ sym (seals_push t.register.rows (row_of t.line c) 0 (length t.register.rows) (omega arith));
  }

  -- a call that names no section
  pub kept_nowhere : section_of c ≡ None → Trains → Good (worked t c)
  kept_nowhere nowhere trains = made trains g.way (λ j. others trains j (λ h. none_some (sym nowhere ∙ h)))

  -- a call that names section k
  module _ (k : ℕ) (here : section_of c ≡ Some k) (there : k < count t.line) where
    pub kept : Trains → (w : Way)
        → Standing (phase_at (phases_effect (action_of c) (Some k) (direction_of t.line c) t.line.phases) k) (section_effect c (direction_of t.line c) (section_at t.line.sections k)) after_place after_rows k w
        → Kept t c k w
    unfolding effect made
    kept trains w stand =
        let changed = section_effect c (direction_of t.line c) (section_at t.line.sections k) in
        let s : section_at after_line.sections k ≡ changed =
        ap (λ o. section_at (sections_effect o (section_effect c (direction_of t.line c)) t.line.sections) k) here
        ∙ get_or-set_same t.line.sections k changed idle (omega (arith, there, g.few, g.wide))
        in
        let p : phase_at after_line.phases k ≡ phase_at (phases_effect (action_of c) (Some k) (direction_of t.line c) t.line.phases) k =
        ap (λ o. phase_at (phases_effect (action_of c) o (direction_of t.line c) t.line.phases) k) here
        in
        let own = subst (λ q. Standing q (section_at after_line.sections k) after_place after_rows k w) (sym p)
        (subst (λ x. Standing (phase_at (phases_effect (action_of c) (Some k) (direction_of t.line c) t.line.phases) k) x after_place after_rows k w) (sym s) stand)
        in
        let elsewhere : (j : ℕ) → (j ≡ k → ⊥) → section_of c ≡ Some j → ⊥ = λ j apart h. apart (some_same (sym h ∙ here)) in
        record {
          good = made trains (at k w g.way) (each k w g.way (λ j v. Standing (phase_at after_line.phases j) (section_at after_line.sections j) after_place after_rows j v) own (λ j apart. others trains j (elsewhere j apart)));
          way_is = at_same k w g.way;
          section_is = s;
          unmoved = λ j apart. record {
            phase = phases_other (action_of c) (section_of c) (direction_of t.line c) t.line.phases j (elsewhere j apart);
            signals = sections_other (section_of c) (section_effect c (direction_of t.line c)) t.line.sections j (elsewhere j apart);
            trains = trains.stay j (elsewhere j apart);
          };
        }
