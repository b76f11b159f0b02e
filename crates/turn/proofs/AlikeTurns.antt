-- Two turns that differ at the most in which records hold their trains answer alike, and stay so.
use Rattle.std.proofs.Common.{◌≡◌, ℕ, false, cond, not, List, [], ◌∷◌, ◌++◌, is_some, Some, None, Option, sym, refl, ap, ◌∙◌, subst, subst₂}
use Rattle.block.specs.declared.order.Action.TheVariants.{Clear}
use Rattle.block.specs.declared.order.Direction.{Direction}
use Rattle.std.specs.Option.{option_map}
use Rattle.rules.specs.Calls.{train_of, section_of, direction_of, post_of}
use Rattle.rules.specs.Checks.{refused_if, first_refusal, unfit, checks, refusal, train_unknown, section_unknown, post_unknown, instrument_refuses, home_open, home_shut, elsewhere, going}
use Rattle.rules.specs.Effects.{section_effect, trains_effect, phases_effect, sections_effect, effect}
use Rattle.rules.specs.Calls.{action_of}
use Rattle.rules.specs.State.{LineState, section_at, block_signal, is_open}
use Rattle.trains.specs.Trains.{place_of, departs, runs, presses, stands_at, taken, bears, put_first, exit_post}
use Rattle.rules.specs.declared.calls.Call.{Call}
use Rattle.rules.specs.declared.calls.Call.TheVariants.{PlaceTrain, WithdrawTrain, GiveRelease, OpenSignal, CloseSignal, EnterSection, ReturnRelease, OpenHome, ShutHome, ReachPedal, LeaveSection, ClearSection, UnsealSection, RestoreSection}
use Rattle.rules.specs.declared.refusals.LineRefusal.TheVariants.{TrainPresent, TableFull, TrainAbsent, BlockSignalWrong, PedalWrong, SectionOccupied}
use Rattle.trains.specs.declared.places.Place.{Place}
use Rattle.trains.specs.declared.places.Place.TheVariants.{AtPost, Running, OnPedal}
use Rattle.trains.specs.declared.places.TrainRecord.{TrainRecord}
use Rattle.turn.specs.Alike.{SameTrains, Alike}
use Rattle.turn.specs.Rows.{kind_of, unsealing}
use Rattle.turn.specs.Turn.{TurnState, full, no_seal_row, turn_refusal, turn_answer, answer_of, worked, step}
use Rattle.turn.specs.declared.refusals.TurnRefusal.TheVariants.{RegisterFull, SealBookFull, Line}
use Rattle.turn.proofs.Alikes.{same_free, same_occupied, same_pressed, same_moved, same_off, same_new}
use Rattle.turn.proofs.Decode.{checked, no_ground, somewhere}
use Rattle.turn.proofs.Inversions.{runs_there, presses_there, departs_there}
use Rattle.turn.proofs.Runs.{admitted, stepped, stayed}
use Rattle.turn.proofs.Tests.{none_some, true_false, not_false}

-- the same line with another table of trains
abbrev with_trains : LineState → List TrainRecord → LineState
with_trains s xs = record { condition = s.condition; phases = s.phases; sections = s.sections; trains = xs }

module _ (s : LineState) (xs ys : List TrainRecord) (same : SameTrains xs ys) where
  abbrev one : LineState
  one = with_trains s xs

  abbrev two : LineState
  two = with_trains s ys

  same_direction_of : (c : Call) → direction_of one c ≡ direction_of two c
  same_direction_of (PlaceTrain n p) = refl
  same_direction_of (WithdrawTrain n) = refl
  same_direction_of (GiveRelease k d) = refl
  same_direction_of (OpenSignal k d) = refl
  same_direction_of (CloseSignal k d) = refl
  same_direction_of (EnterSection n k) = ap (departs k) (same.places n)
  same_direction_of (ReturnRelease k d) = refl
  same_direction_of (OpenHome k d) = refl
  same_direction_of (ShutHome k d) = refl
  same_direction_of (ReachPedal n k) = ap (runs k) (same.places n)
  same_direction_of (LeaveSection n k) = ap (presses k) (same.places n)
  same_direction_of (ClearSection k d) = refl
  same_direction_of (UnsealSection k d) = refl
  same_direction_of (RestoreSection k d) = refl

  same_post_of : (c : Call) → post_of one c ≡ post_of two c
  same_post_of (PlaceTrain n p) = refl
  same_post_of (WithdrawTrain n) = ap stands_at (same.places n)
  same_post_of (GiveRelease k d) = refl
  same_post_of (OpenSignal k d) = refl
  same_post_of (CloseSignal k d) = refl
  same_post_of (EnterSection n k) = refl
  same_post_of (ReturnRelease k d) = refl
  same_post_of (OpenHome k d) = refl
  same_post_of (ShutHome k d) = refl
  same_post_of (ReachPedal n k) = refl
  same_post_of (LeaveSection n k) = refl
  same_post_of (ClearSection k d) = refl
  same_post_of (UnsealSection k d) = refl
  same_post_of (RestoreSection k d) = refl

  absent : (n : ℕ) → refused_if (not (is_some (place_of n xs))) TrainAbsent ≡ refused_if (not (is_some (place_of n ys))) TrainAbsent
  absent n = ap (λ o. refused_if (not (is_some o)) TrainAbsent) (same.places n)

  same_checks : (c : Call) → checks one c ≡ checks two c
  same_checks (PlaceTrain n p) = λ i. train_unknown n ∷ post_unknown s p ∷ refused_if (is_some (same.places n i)) TrainPresent ∷ refused_if (not (same_free xs ys same i)) TableFull ∷ []
  same_checks (WithdrawTrain n) = λ i. train_unknown n ∷ absent n i ∷ elsewhere (stands_at (same.places n i)) ∷ []
  same_checks (GiveRelease k d) = refl
  same_checks (OpenSignal k d) = refl
  same_checks (CloseSignal k d) = refl
  same_checks (EnterSection n k) = λ i.
      train_unknown n ∷ section_unknown s k ∷ absent n i ∷ elsewhere (departs k (same.places n i))
      ∷ going (departs k (same.places n i)) (λ d. refused_if (not (is_open (block_signal d (section_at s.sections k)))) BlockSignalWrong) ∷ []
  same_checks (ReturnRelease k d) = refl
  same_checks (OpenHome k d) = refl
  same_checks (ShutHome k d) = λ i. section_unknown s k ∷ home_shut s k d ∷ refused_if (same_pressed xs ys same k d i) PedalWrong ∷ []
  same_checks (ReachPedal n k) = λ i.
      train_unknown n ∷ section_unknown s k ∷ absent n i ∷ elsewhere (runs k (same.places n i)) ∷ going (runs k (same.places n i)) (home_shut s k) ∷ []
  same_checks (LeaveSection n k) = λ i. train_unknown n ∷ section_unknown s k ∷ absent n i ∷ elsewhere (presses k (same.places n i)) ∷ []
  same_checks (ClearSection k d) = refl
  same_checks (UnsealSection k d) = λ i.
      section_unknown s k ∷ home_open s k d ∷ refused_if (same_occupied xs ys same k i) SectionOccupied
      ∷ refused_if (section_at s.sections k).pedal PedalWrong ∷ instrument_refuses s Clear k d ∷ []
  same_checks (RestoreSection k d) = refl

  same_refusal : (c : Call) → refusal one c ≡ refusal two c
  unfolding refusal
  same_refusal c = ap (λ os. first_refusal (unfit s.condition ∷ os)) (same_checks c)

  -- a train that goes from where it is to another place
  same_move : (n : ℕ) (q : Place) → place_of n xs ≡ Some q → (to : Option Direction → List TrainRecord → List TrainRecord) (o o' : Option Direction) → o ≡ o' → (d : Direction) (p : Place) → o ≡ Some d
      → ((zs : List TrainRecord) → to (Some d) zs ≡ put_first (bears n) (taken n p) zs) → SameTrains (to o xs) (to o' ys)
  same_move n q here to o o' e d p is moves =
      subst₂ SameTrains (sym (moves xs) ∙ sym (ap (λ f. to f xs) is)) (sym (moves ys) ∙ sym (ap (λ f. to f ys) (sym e ∙ is))) (same_moved xs ys same n q p here)

  same_trains : (c : Call) → refusal one c ≡ None → SameTrains (trains_effect c (direction_of one c) xs) (trains_effect c (direction_of two c) ys)
  same_trains (PlaceTrain n p) e =
      let pass = checked one (PlaceTrain n p) e in
      same_new xs ys same n (AtPost p) (not_some (place_of n xs) (no_ground _ _ pass.1.1.0)) (not_false _ (no_ground _ _ pass.1.1.1.0))
    where
      not_some : (o : Option Place) → is_some o ≡ false → o ≡ None
      not_some None h = refl
      not_some (Some q) h = absurd (true_false h)
  same_trains (WithdrawTrain n) e =
      let pass = checked one (WithdrawTrain n) e in
      let here = somewhere_some (place_of n xs) pass.1.1.0 in
      same_off xs ys same n here.0 here.1
    where
      somewhere_some : (o : Option Place) → elsewhere (stands_at o) ≡ None → (q : Place) × (o ≡ Some q)
      somewhere_some None h = absurd (none_some (sym h))
      somewhere_some (Some q) h = (q, refl)
  same_trains (GiveRelease k d) e = same
  same_trains (OpenSignal k d) e = same
  same_trains (CloseSignal k d) e = same
  same_trains (EnterSection n k) e =
      let goes = somewhere _ (checked one (EnterSection n k) e).1.1.1.0 in
      let here = departs_there k (place_of n xs) goes.0 goes.1 in
      same_move n (AtPost here.0) here.1 (trains_effect (EnterSection n k)) _ _ (same_direction_of (EnterSection n k)) goes.0 (Running k goes.0) goes.1 (λ zs. refl)
  same_trains (ReturnRelease k d) e = same
  same_trains (OpenHome k d) e = same
  same_trains (ShutHome k d) e = same
  same_trains (ReachPedal n k) e =
      let goes = somewhere _ (checked one (ReachPedal n k) e).1.1.1.0 in
      let here = runs_there k (place_of n xs) goes.0 goes.1 in
      same_move n (Running k goes.0) here (trains_effect (ReachPedal n k)) _ _ (same_direction_of (ReachPedal n k)) goes.0 (OnPedal k goes.0) goes.1 (λ zs. refl)
  same_trains (LeaveSection n k) e =
      let goes = somewhere _ (checked one (LeaveSection n k) e).1.1.1.0 in
      let here = presses_there k (place_of n xs) goes.0 goes.1 in
      same_move n (OnPedal k goes.0) here (trains_effect (LeaveSection n k)) _ _ (same_direction_of (LeaveSection n k)) goes.0 (AtPost (exit_post k goes.0)) goes.1 (λ zs. refl)
  same_trains (ClearSection k d) e = same
  same_trains (UnsealSection k d) e = same
  same_trains (RestoreSection k d) e = same

module _ (t : TurnState) (ys : List TrainRecord) (same : SameTrains t.line.trains ys) (c : Call) where
  -- the turn with the other table
  abbrev other : TurnState
  other = record { line = with_trains t.line ys; register = t.register; seals = t.seals }

  refusal_same : refusal t.line c ≡ refusal other.line c
  refusal_same = same_refusal t.line t.line.trains ys same c

  turn_same : turn_refusal t c ≡ turn_refusal other c
  unfolding turn_refusal
  turn_same = ap (λ o. cond (full t.register) (Some RegisterFull) (cond (no_seal_row (unsealing c) t.seals) (Some SealBookFull) (option_map Line o))) refusal_same

  worked_alike : refusal t.line c ≡ None → Alike (worked t c) (worked other c)
  unfolding effect
  worked_alike e =
      let way = same_direction_of t.line t.line.trains ys same c in
      let post = same_post_of t.line t.line.trains ys same c in
      record {
        condition = refl;
        phases = ap (λ o. phases_effect (action_of c) (section_of c) o t.line.phases) way;
        sections = ap (λ o. sections_effect (section_of c) (section_effect c o) t.line.sections) way;
        trains = same_trains t.line t.line.trains ys same c e;
        register = λ i. record {
          rows = t.register.rows ++ record { kind = kind_of c; train = train_of c; section = section_of c; direction = way i; post = post i } ∷ [];
          room = t.register.room;
        };
        seals = refl;
      }

  stepped_alike : (o : _) → turn_refusal t c ≡ o → Alike (step t c) (step other c)
  stepped_alike None e =
      subst₂ Alike (sym (stepped t c e)) (sym (stepped other c (sym turn_same ∙ e))) (worked_alike (admitted t c e).line_accepts)
  stepped_alike (Some r) e =
      subst₂ Alike (sym (stayed t c r e)) (sym (stayed other c r (sym turn_same ∙ e)))
      (record { condition = refl; phases = refl; sections = refl; trains = same; register = refl; seals = refl })

pub alike : (t u : TurnState) → Alike t u → (c : Call) → (turn_answer t c ≡ turn_answer u c) × Alike (step t c) (step u c)
alike t u a c =
    let is : other t u.line.trains a.trains c ≡ u = λ i. record {
      line = record { condition = a.condition i; phases = a.phases i; sections = a.sections i; trains = u.line.trains };
      register = a.register i;
      seals = a.seals i;
    } in
    subst (λ v. (turn_answer t c ≡ turn_answer v c) × Alike (step t c) (step v c)) is
    (ap answer_of (turn_same t u.line.trains a.trains c), stepped_alike t u.line.trains a.trains c (turn_refusal t c) refl)
