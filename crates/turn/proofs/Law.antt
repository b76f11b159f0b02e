-- The law of every turn, whole.
use Rattle.std.proofs.Common.{◌≡◌, ℕ, List, Some, None, Err, Option, refl, arith}
use Rattle.rules.specs.declared.calls.Call.{Call}
use Rattle.turn.specs.Law.{TurnLaw, Law}
use Rattle.turn.specs.Turn.{TurnState, turn_refusal, answer_of, step, run}
use Rattle.turn.specs.declared.refusals.TurnRefusal.{TurnRefusal}
use Rattle.turn.proofs.Accounts.{books}
use Rattle.turn.proofs.AlikeTurns.{alike}
use Rattle.turn.proofs.Apart.{apart}
use Rattle.turn.proofs.Good.{Good}
use Rattle.turn.proofs.Rest.{brought}
use Rattle.turn.proofs.Runs.{stayed, good_run, good_new}

pub turn_law : (t : TurnState) → Good t → (cs : List Call) → TurnLaw t cs
turn_law t good cs =
    let g = good_run t good cs in
    record { apart = apart (run t cs) g; books = books t good cs; rest = brought (run t cs) g }

refused : (t : TurnState) (c : Call) (e : TurnRefusal) → answer_of (turn_refusal t c) ≡ Err e → step t c ≡ t
refused t c e = by (turn_refusal t c) refl
  where
    by : (o : Option TurnRefusal) → turn_refusal t c ≡ o → answer_of o ≡ Err e → step t c ≡ t
    by None is h = absurd (let z : ◌≡◌ {A = ℕ} 0 1 = cc in omega arith)
    by (Some r) is h = stayed t c r is

pub law : Law
law = (λ sections rows seals least most calls. turn_law _ (good_new sections rows seals most) calls, refused, alike)
