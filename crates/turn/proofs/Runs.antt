-- Every turn is in good order: a new one is, and every call keeps it so.
use Rattle.std.proofs.Common.{◌≡◌, ℕ, zero, suc, ◌≤◌, Bool, true, false, cond, not, List, [], ◌∷◌, get_or, replicate, Some, None, Option, sym, refl, ap, ◌∙◌, subst, arith}
use lib.ListN.{length-replicate}
use Rattle.block.specs.Order.{leaves}
use Rattle.block.specs.declared.order.Action.{Action}
use Rattle.block.specs.declared.order.Action.TheVariants.{Give, Open as OpenAction, Return, Clear, Restore}
use Rattle.block.specs.declared.order.Direction.{Direction}
use Rattle.block.specs.declared.order.Direction.TheVariants.{Up, Down}
use Rattle.block.specs.declared.order.Phase.TheVariants.{Rest}
use Rattle.block.proofs.Steps as steps
use Rattle.std.specs.Option.{option_map}
use Rattle.rules.specs.Checks.{refusal, refused_if, instrument_refuses}
use Rattle.rules.specs.State.{section_at, block_signal, is_closed, is_open, idle}
use Rattle.trains.specs.Trains.{free, place_of, is_inside, occupied}
use Rattle.rules.specs.declared.calls.Call.{Call}
use Rattle.rules.specs.declared.calls.Call.TheVariants.{PlaceTrain, WithdrawTrain, GiveRelease, OpenSignal, CloseSignal, EnterSection, ReturnRelease, OpenHome, ShutHome, ReachPedal, LeaveSection, ClearSection, UnsealSection, RestoreSection}
use Rattle.rules.specs.declared.refusals.LineRefusal.{LineRefusal}
use Rattle.rules.specs.declared.refusals.LineRefusal.TheVariants.{BlockSignalWrong}
use Rattle.rules.specs.declared.signals.BlockSignal.TheVariants.{Closed}
use Rattle.turn.specs.Alike.{copies}
use Rattle.turn.specs.Telling.{inside_at}
use Rattle.turn.specs.Rows.{unsealing}
use Rattle.turn.specs.Turn.{TurnState, new_turn, full, no_seal_row, turn_refusal, worked, unless, step, run}
use Rattle.turn.specs.declared.refusals.TurnRefusal.{TurnRefusal}
use Rattle.turn.specs.declared.refusals.TurnRefusal.TheVariants.{RegisterFull, SealBookFull, Line}
use Rattle.turn.proofs.Decode.{checked, no_ground, instrument_works, somewhere, goes_on}
use Rattle.turn.proofs.Good.{Good}
use Rattle.turn.proofs.Inversions.{is_rest, is_given, is_cleared, is_returned, is_put_back, is_pulled, is_ready, is_running, is_pressing_there, is_gone, is_unused, runs_there, presses_there, departs_there}
use Rattle.turn.proofs.Keeps.{give, open_signal, close_signal, return_release, open_home, shut_home, clear_section, unseal_section, restore_section}
use Rattle.turn.proofs.Moves.{running_at, pressing_at, enter, reach, leave, place_train, withdraw_train}
use Rattle.turn.proofs.Tables.{any_from}
use Rattle.turn.proofs.Tests.{none_some, true_false, not_false}
use Rattle.turn.proofs.Trips.{Trip}
use Rattle.turn.proofs.Ways.{never, rest, phase_of, pedal_of, inside_of, use_inside, held, returned}

module _ (t : TurnState) (g : Good t) where
  -- the phase that an action found tells of the way
  found : (a : Action) (k : ℕ) (d : Direction) → instrument_refuses t.line a k d ≡ None → phase_of (g.way k) ≡ leaves a d
  found a k d e = sym (g.stands k).phase_is ∙ (steps.step t.line.phases a k d).found (instrument_works t.line a k d e)

  -- no train is inside a section that is not occupied
  vacant : (k : ℕ) → occupied k t.line.trains ≡ false → (n : ℕ) → inside_of k (g.way k) n ≡ None
  vacant k none n = sym ((g.stands k).inside_is n) ∙ by (is_inside k (place_of n t.line.trains)) refl
    where
      by : (b : Bool) → is_inside k (place_of n t.line.trains) ≡ b → cond b (place_of n t.line.trains) None ≡ None
      by true e = absurd (true_false (sym (any_from (is_inside k) refl n t.line.trains e) ∙ none))
      by false e = refl

  keeps : (c : Call) → refusal t.line c ≡ None → Good (worked t c)
  keeps (PlaceTrain n p) e = place_train t g n p e
  keeps (WithdrawTrain n) e = withdraw_train t g n e
  keeps (GiveRelease k d) e =
      let w = is_rest (g.way k) (found Give k d (checked t.line (GiveRelease k d) e).1.0) in
      (give t g k d w.0 w.1 e).good
  keeps (OpenSignal k d) e =
      let w = is_given (g.way k) d (found OpenAction k d (checked t.line (OpenSignal k d) e).1.0) in
      (open_signal t g k d w.0 w.1 e).good
  keeps (CloseSignal k d) e =
      let pass = checked t.line (CloseSignal k d) e in
      let w = is_pulled (g.way k) d (sym (ap is_closed ((g.stands k).block_is d)) ∙ no_ground _ _ pass.1.0) in
      (close_signal t g k d w.use_of w.giving w.opening w.is e).good
  keeps (EnterSection n k) e =
      let pass = checked t.line (EnterSection n k) e in
      let goes = somewhere _ pass.1.1.1.0 in
      let post = departs_there k (place_of n t.line.trains) goes.0 goes.1 in
      let check : Direction → Option LineRefusal = λ d. refused_if (not (is_open (block_signal d (section_at t.line.sections k)))) BlockSignalWrong in
      let signal = no_ground _ BlockSignalWrong (goes_on _ check goes.0 goes.1 pass.1.1.1.1.0) in
      let w = is_ready (g.way k) goes.0 (sym (ap is_open ((g.stands k).block_is goes.0)) ∙ not_false _ signal) in
      (enter t g n k goes.0 post.0 w.0 w.1 post.1 goes.1 w.2 e).good
  keeps (ReturnRelease k d) e =
      let pass = checked t.line (ReturnRelease k d) e in
      let w = is_put_back (g.way k) d (found Return k d pass.1.1.0) (sym (ap is_closed ((g.stands k).block_is d)) ∙ not_false _ (no_ground _ _ pass.1.0)) in
      (return_release t g k d w.use_of w.giving w.opening w.is e).good
  keeps (OpenHome k d) e = (open_home t g k d (g.way k) refl e).good
  keeps (ShutHome k d) e = (shut_home t g k d (g.way k) refl e).good
  keeps (ReachPedal n k) e =
      let pass = checked t.line (ReachPedal n k) e in
      let goes = somewhere _ pass.1.1.1.0 in
      let there = runs_there k (place_of n t.line.trains) goes.0 goes.1 in
      let w = is_running k n (g.way k) goes.0 (sym ((g.stands k).inside_is n) ∙ ap (inside_at k) there ∙ running_at k goes.0) in
      (reach t g n k goes.0 w.lever w.entry w.giving w.opening there w.is e).good
  keeps (LeaveSection n k) e =
      let pass = checked t.line (LeaveSection n k) e in
      let goes = somewhere _ pass.1.1.1.0 in
      let there = presses_there k (place_of n t.line.trains) goes.0 goes.1 in
      let w = is_pressing_there k n (g.way k) goes.0 (sym ((g.stands k).inside_is n) ∙ ap (inside_at k) there ∙ pressing_at k goes.0) in
      (leave t g n k goes.0 w.lever w.entry w.giving w.opening there w.is e).good
  keeps (ClearSection k d) e =
      let pass = checked t.line (ClearSection k d) e in
      let w = is_returned (g.way k) d (found Clear k d pass.1.1.1.0) in
      let mark : pedal_of (g.way k) ≡ true = sym (g.stands k).pedal_is ∙ not_false _ (no_ground _ _ pass.1.1.0) in
      let u = is_gone w.use_of (sym (ap pedal_of w.is) ∙ mark) in
      (clear_section t g k d u.0 u.1 u.2 w.giving w.opening (w.is ∙ ap (λ v. held d returned v w.giving w.opening) u.3) e).good
  keeps (UnsealSection k d) e =
      let pass = checked t.line (UnsealSection k d) e in
      let w = is_returned (g.way k) d (found Clear k d pass.1.1.1.1.0) in
      let mark : pedal_of (g.way k) ≡ false = sym (g.stands k).pedal_is ∙ no_ground _ _ pass.1.1.1.0 in
      let nobody : (n : ℕ) → use_inside k d w.use_of n ≡ None = λ n. sym (ap (λ v. inside_of k v n) w.is) ∙ vacant k (no_ground _ _ pass.1.1.0) n in
      let u = is_unused k d w.use_of (sym (ap pedal_of w.is) ∙ mark) nobody in
      (unseal_section t g k d w.giving w.opening (w.is ∙ ap (λ v. held d returned v w.giving w.opening) u) e).good
  keeps (RestoreSection k d) e =
      let w = is_cleared (g.way k) d (found Restore k d (checked t.line (RestoreSection k d) e).1.1.0) in
      (restore_section t g k d w.0 w.1 e).good

-- a turn's own checks
pub record Admitted (t : TurnState) (c : Call) : Type 0 where
  pub room : full t.register ≡ false
  pub seal_room : no_seal_row (unsealing c) t.seals ≡ false
  pub line_accepts : refusal t.line c ≡ None

pub admitted : (t : TurnState) (c : Call) → turn_refusal t c ≡ None → Admitted t c
unfolding turn_refusal
admitted t c e = by (full t.register) refl (no_seal_row (unsealing c) t.seals) refl (refusal t.line c) refl e
  where
    by : (a : Bool) → full t.register ≡ a → (b : Bool) → no_seal_row (unsealing c) t.seals ≡ b → (o : Option LineRefusal) → refusal t.line c ≡ o
        → cond a (Some RegisterFull) (cond b (Some SealBookFull) (option_map Line o)) ≡ None → Admitted t c
    by true p b q o r e = absurd (none_some (sym e))
    by false p true q o r e = absurd (none_some (sym e))
    by false p false q (Some x) r e = absurd (none_some (sym e))
    by false p false q None r e = record { room = p; seal_room = q; line_accepts = r }

pub admits : (t : TurnState) (c : Call) → Admitted t c → turn_refusal t c ≡ None
unfolding turn_refusal
admits t c a =
    ap (λ b. cond b (Some RegisterFull) (cond (no_seal_row (unsealing c) t.seals) (Some SealBookFull) (option_map Line (refusal t.line c)))) a.room
    ∙ ap (λ b. cond b (Some SealBookFull) (option_map Line (refusal t.line c))) a.seal_room
    ∙ ap (option_map Line) a.line_accepts

-- the turn after a call that is accepted, and after one that is refused
pub stepped : (t : TurnState) (c : Call) → turn_refusal t c ≡ None → step t c ≡ worked t c
unfolding step
stepped t c e = ap (λ o. unless o t (worked t c)) e

pub stayed : (t : TurnState) (c : Call) (r : TurnRefusal) → turn_refusal t c ≡ Some r → step t c ≡ t
unfolding step
stayed t c r e = ap (λ o. unless o t (worked t c)) e

pub good_step : (t : TurnState) → Good t → (c : Call) → Good (step t c)
good_step t g c = by (turn_refusal t c) refl
  where
    by : (o : Option TurnRefusal) → turn_refusal t c ≡ o → Good (step t c)
    by None e = subst Good (sym (stepped t c e)) (keeps t g c (admitted t c e).line_accepts)
    by (Some r) e = subst Good (sym (stayed t c r e)) g

pub good_run : (t : TurnState) → Good t → (cs : List Call) → Good (run t cs)
good_run t g [] = g
good_run t g (c ∷ cs) = good_run (step t c) (good_step t g c) cs

-- a list of one value
all_same : {X : Type 0} (m k : ℕ) (x : X) → get_or (replicate m x) k x ≡ x
all_same zero k x = refl
all_same (suc m) zero x = refl
all_same (suc m) (suc k) x = all_same m k x

nowhere : (m n : ℕ) → place_of n (replicate m free) ≡ None
nowhere zero n = refl
nowhere (suc m) n = nowhere m n

none_held : (m n : ℕ) → copies n (replicate m free) ≡ 0
none_held zero n = refl
none_held (suc m) n = omega (arith, none_held m n)

pub good_new : (n rows seals : ℕ) → n ≤ 16 → Good (new_turn n rows seals)
good_new n rows seals most = record {
  sound = refl;
  few = omega (arith, length-replicate n Rest);
  wide = length-replicate 16 idle;
  once = λ m. omega (arith, none_held 64 m);
  known = λ m p e. absurd (none_some (sym (nowhere 64 m) ∙ e));
  way = λ k. rest never;
  stands = λ k. record {
    phase_is = all_same n k Rest;
    block_is = λ d. ap (block_signal d) (all_same 16 k idle) ∙ idle_block d;
    pedal_is = ap (λ x. x.pedal) (all_same 16 k idle);
    inside_is = λ m. ap (inside_at k) (nowhere 64 m);
    trail_is = record { stands = λ i r a. absurd a; all = λ i r e b s o. absurd (none_some e) };
    falls = tt;
    account = refl;
  };
  trip = λ m. subst (λ o. Trip [] m o) (sym (nowhere 64 m)) (λ i c. absurd (none_some c.stands));
  sealed = refl;
}
  where
    idle_block : (d : Direction) → block_signal d idle ≡ Closed
    idle_block Up = refl
    idle_block Down = refl
