-- The refusal of a call, and the line after it, from the parts in which a call is worked.
use Rattle.std.proofs.Common.{◌≡◌, ℕ, List, [], ◌∷◌, ◌++◌, Some, None, Ok, Err, Option, Result, refl, ap, ◌∙◌, arith}
use Rattle.block.specs.Meaning.{answer}
use Rattle.block.specs.declared.order.Action.{Action}
use Rattle.block.specs.declared.order.Direction.{Direction}
use Rattle.block.specs.declared.refusals.InstrumentRefusal.{InstrumentRefusal}
use Rattle.block.proofs.Steps as steps
use Rattle.std.specs.Option.{option_map}
use Rattle.std.specs.Result.{result_err}
use Rattle.rules.specs.Calls.{section_of, direction_of, action_of}
use Rattle.rules.specs.Checks.{told, first_refusal, unfit, own_checks, asked, refusal}
use Rattle.rules.specs.Effects.{phases_effect, section_effect, sections_effect, trains_effect, effect}
use Rattle.line.specs.Lines.{line_after, unless}
use Rattle.rules.specs.State.{LineState}
use Rattle.line.specs.Working.{ask_after}
use Rattle.rules.specs.declared.calls.Call.{Call}
use Rattle.rules.specs.declared.refusals.LineRefusal.{LineRefusal}
use Rattle.rules.specs.declared.refusals.LineRefusal.TheVariants.{Instrument}
use Rattle.rules.specs.declared.signals.SectionState.{SectionState}
use Rattle.trains.specs.declared.places.TrainRecord.{TrainRecord}

clash : {X : Type 0} → ◌≡◌ {A = ℕ} 0 1 → X
clash e = absurd (omega arith)

first_fails : (os ps : List (Option LineRefusal)) (e : LineRefusal) → first_refusal os ≡ Some e → first_refusal (os ++ ps) ≡ Some e
first_fails [] ps e h = clash (cc)
first_fails (None ∷ os) ps e h = first_fails os ps e h
first_fails (Some r ∷ os) ps e h = h

first_passes : (os ps : List (Option LineRefusal)) → first_refusal os ≡ None → first_refusal (os ++ ps) ≡ first_refusal ps
first_passes [] ps h = refl
first_passes (None ∷ os) ps h = first_passes os ps h
first_passes (Some r ∷ os) ps h = clash (cc)

module _ (s : LineState) (c : Call) where
  abbrev asks : List (Option LineRefusal)
  asks = asked s (action_of c) (section_of c) (direction_of s c)

  pub refused_unfit : (e : LineRefusal) → unfit s.condition ≡ Some e → refusal s c ≡ Some e
  unfolding refusal
  refused_unfit e h = ap (λ o. first_refusal (o ∷ (own_checks s c ++ asks))) h

  pub refused_own : (e : LineRefusal) → unfit s.condition ≡ None → first_refusal (own_checks s c) ≡ Some e → refusal s c ≡ Some e
  unfolding refusal
  refused_own e fit h = ap (λ o. first_refusal (o ∷ (own_checks s c ++ asks))) fit ∙ first_fails (own_checks s c) asks e h

  pub left_to_ask : unfit s.condition ≡ None → first_refusal (own_checks s c) ≡ None → refusal s c ≡ first_refusal asks
  unfolding refusal
  left_to_ask fit h = ap (λ o. first_refusal (o ∷ (own_checks s c ++ asks))) fit ∙ first_passes (own_checks s c) asks h

  -- a refused call leaves the line as it was, an accepted one has its effect
  pub after_refused : (e : LineRefusal) → refusal s c ≡ Some e → line_after s c ≡ s
  unfolding line_after
  after_refused e h = ap (λ o. unless o s (effect s c)) h

  pub after_accepted : refusal s c ≡ None → line_after s c ≡ effect s c
  unfolding line_after
  after_accepted h = ap (λ o. unless o s (effect s c)) h

-- an instrument that refuses has not moved
pub asked_in_vain : (s : LineState) (a : Option Action) (k : Option ℕ) (d : Option Direction) (e : LineRefusal) → first_refusal (asked s a k d) ≡ Some e → phases_effect a k d s.phases ≡ s.phases
asked_in_vain s None k d e h = refl
asked_in_vain s (Some a) None d e h = refl
asked_in_vain s (Some a) (Some k) None e h = refl
asked_in_vain s (Some a) (Some k) (Some d) e h = by (answer s.phases a k d) refl h
  where
    by : (r : Result (Unit {0}) InstrumentRefusal) → answer s.phases a k d ≡ r → first_refusal (option_map Instrument (result_err r) ∷ []) ≡ Some e → phases_effect (Some a) (Some k) (Some d) s.phases ≡ s.phases
    by (Ok x) is h = clash (cc)
    by (Err f) is h = (steps.step s.phases a k d).refused f is

-- what was answered tells the check
pub told_ok : {E : Type 0} (o : Option E) → told o ≡ Ok tt → o ≡ None
told_ok None e = refl
told_ok (Some r) e = clash (cc)

pub told_err : {E : Type 0} (o : Option E) (e : E) → told o ≡ Err e → o ≡ Some e
told_err None e h = clash (cc)
told_err (Some r) e h = let same : r ≡ e = cc in ap Some same

-- the same line with other sections and other trains
abbrev with_both : List SectionState → List TrainRecord → LineState → LineState
with_both xs ts s = record { condition = s.condition; phases = s.phases; sections = xs; trains = ts }

-- the parts of an accepted call's effect: what the instrument does, and then what is done to the sections and to the trains
pub worked_in_parts : (s : LineState) (c : Call) (way : Option Direction) (a : LineState) (xs : List SectionState) (ts : List TrainRecord) → way ≡ direction_of s c → a ≡ ask_after c way s → xs ≡ sections_effect (section_of c) (section_effect c way) a.sections → ts ≡ trains_effect c way a.trains → record { condition = a.condition; phases = a.phases; sections = xs; trains = ts } ≡ effect s c
unfolding effect
worked_in_parts s c way a xs ts direction asked section trains =
    ap (λ ys. with_both ys ts a) section ∙ ap (λ us. with_both (sections_effect (section_of c) (section_effect c way) a.sections) us a) trains
    ∙ ap (λ (x : LineState). with_both (sections_effect (section_of c) (section_effect c way) x.sections) (trains_effect c way x.trains) x) asked
    ∙ ap (λ o. with_both (sections_effect (section_of c) (section_effect c o) s.sections) (trains_effect c o s.trains) (ask_after c o s)) direction
