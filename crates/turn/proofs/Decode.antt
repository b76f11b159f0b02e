-- What an accepted call shows: each of its checks has passed.
use Rattle.std.proofs.Common.{◌≡◌, ℕ, ◌<◌, Bool, true, false, List, [], ◌∷◌, Some, None, Ok, Err, Option, Result, sym, refl, ap, ◌∙◌, leb-false}
use Rattle.block.specs.Meaning.{answer}
use Rattle.block.specs.declared.order.Action.{Action}
use Rattle.block.specs.declared.order.Direction.{Direction}
use Rattle.block.specs.declared.refusals.InstrumentRefusal.{InstrumentRefusal}
use Rattle.std.specs.Option.{option_map}
use Rattle.std.specs.Result.{result_err}
use Rattle.rules.specs.Checks.{refused_if, first_refusal, unfit, checks, refusal, section_unknown, instrument_refuses, elsewhere, going}
use Rattle.rules.specs.State.{LineState, count}
use Rattle.rules.specs.declared.calls.Call.{Call}
use Rattle.rules.specs.declared.signals.Condition.TheVariants.{Sound}
use Rattle.rules.specs.declared.refusals.LineRefusal.{LineRefusal}
use Rattle.rules.specs.declared.refusals.LineRefusal.TheVariants.{Instrument}
use Rattle.turn.proofs.Tests.{none_some}

-- each of the checks passes
abbrev pub Pass : List (Option LineRefusal) → Type 0
Pass [] = Unit {0}
Pass (o ∷ os) = (o ≡ None) × Pass os

passes : (os : List (Option LineRefusal)) → first_refusal os ≡ None → Pass os
passes [] e = tt
passes (None ∷ os) e = (refl, passes os e)
passes (Some r ∷ os) e = absurd (none_some (sym e))

passed : (os : List (Option LineRefusal)) → Pass os → first_refusal os ≡ None
passed [] e = refl
passed (None ∷ os) e = passed os e.1
passed (Some r ∷ os) e = absurd (none_some (sym e.0))

pub no_ground : (b : Bool) (r : LineRefusal) → refused_if b r ≡ None → b ≡ false
no_ground true r e = absurd (none_some (sym e))
no_ground false r e = refl

pub unpassed : (b : Bool) (r : LineRefusal) → b ≡ false → refused_if b r ≡ None
unpassed b r e = ap (λ c. refused_if c r) e

pub section_there : (s : LineState) (k : ℕ) → section_unknown s k ≡ None → k < count s
section_there s k e = leb-false (count s) k (no_ground _ _ e)

pub instrument_works : (s : LineState) (a : Action) (k : ℕ) (d : Direction) → instrument_refuses s a k d ≡ None → answer s.phases a k d ≡ Ok tt
instrument_works s a k d = by (answer s.phases a k d)
  where
    by : (r : Result (Unit {0}) InstrumentRefusal) → option_map Instrument (result_err r) ≡ None → r ≡ Ok tt
    by (Ok x) e = refl
    by (Err f) e = absurd (none_some (sym e))

pub somewhere : {X : Type 0} (o : Option X) → elsewhere o ≡ None → (x : X) × (o ≡ Some x)
somewhere None e = absurd (none_some (sym e))
somewhere (Some x) e = (x, refl)

pub goes_on : (o : Option Direction) (check : Direction → Option LineRefusal) (d : Direction) → o ≡ Some d → going o check ≡ None → check d ≡ None
goes_on o check d is e = sym (ap (λ x. going x check) is) ∙ e

-- a call is accepted just if each of its checks passes
pub checked : (s : LineState) (c : Call) → refusal s c ≡ None → Pass (checks s c)
unfolding refusal
checked s c e = (passes (unfit s.condition ∷ checks s c) e).1

pub accepted : (s : LineState) (c : Call) → s.condition ≡ Sound → Pass (checks s c) → refusal s c ≡ None
unfolding refusal
accepted s c sound pass = passed (unfit s.condition ∷ checks s c) (ap unfit sound, pass)
