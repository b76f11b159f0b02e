-- The answer to a refused line: its values are few and small, so it takes at most twenty bytes.
use Rattle.std.proofs.Common.{◌≡◌, ℕ, ◌<◌, ◌≤◌, Bool, true, false, cond, not, ltb, List, [], ◌∷◌, ◌++◌, length, take, Some, None, Ok, Err, decimal, Option, Result, sym, refl, ap, ◌∙◌, subst, arith, length-append, length-take}
use Rattle.std.proofs.lemmas.Fmt.{length-decimal-le}
use Rattle.block.specs.Meaning.{phase_at, answer, answer_of}
use Rattle.block.specs.Order.{phase_code, same_phase, leaves, brings, towards}
use Rattle.block.specs.Refusals.{number, section_value, refusal}
use Rattle.block.specs.declared.order.Action.{Action}
use Rattle.block.specs.declared.order.Action.TheVariants.{Give, Open, Return, Clear, Restore}
use Rattle.block.specs.declared.order.Direction.{Direction}
use Rattle.block.specs.declared.order.Phase.{Phase}
use Rattle.block.specs.declared.refusals.InstrumentRefusal.{InstrumentRefusal}
use Rattle.block.specs.declared.refusals.InstrumentRefusal.TheVariants.{NoSection, NotAtRest, OtherDirection, WrongPhase}
use Rattle.reading.specs.Law.{Unreadable as UnreadableAt}
use Rattle.reading.specs.Written.{Short, space, line_feed, direction_letter, Fields, One, Two, Sided, fields, fields_text, Fit, written, Writable}
use Rattle.rules.specs.Calls.{section_of, direction_of, action_of}
use Rattle.rules.specs.Numbers.{line_number}
use Rattle.rules.specs.Checks as check
use Rattle.rules.specs.Checks.{refused_if, first_refusal, unfit, going, elsewhere, own_checks, asked, checks}
use Rattle.rules.specs.State.{LineState, section_at, block_signal, home_signal, is_open, home_is_open}
use Rattle.rules.specs.declared.calls.Call.{Call}
use Rattle.rules.specs.declared.calls.Call.TheVariants.{PlaceTrain, WithdrawTrain, GiveRelease, OpenSignal, CloseSignal, EnterSection, ReturnRelease, OpenHome, ShutHome, ReachPedal, LeaveSection, ClearSection, UnsealSection, RestoreSection}
use Rattle.rules.specs.declared.refusals.LineRefusal.{LineRefusal}
use Rattle.rules.specs.declared.refusals.LineRefusal.TheVariants.{NoSectionAtAll, MadeUnsettled, SectionUnknown, PostUnknown, TrainUnknown, TrainPresent, TableFull, TrainAbsent, TrainElsewhere, BlockSignalWrong, HomeSignalWrong, PedalWrong, SectionOccupied, Instrument}
use Rattle.rules.specs.declared.signals.Condition.{Condition}
use Rattle.rules.specs.declared.signals.Condition.TheVariants.{Sound, Sectionless, Unsettled}
use Rattle.std.specs.Option.{option_map}
use Rattle.std.specs.Result.{result_err}
use Rattle.turn.specs.declared.refusals.TurnRefusal.TheVariants.{RegisterFull, SealBookFull, Line}
use Rattle.answers.specs.Numbers.{found_values, line_values, line_refusal_number, refusal_values}
use Rattle.answers.specs.Texts.{fields_of, refused, told_text}
use Rattle.answers.specs.declared.refusals.RefusedLine.{RefusedLine}
use Rattle.answers.specs.declared.refusals.SheetLineRefusal.{SheetLineRefusal}
use Rattle.answers.specs.declared.refusals.SheetLineRefusal.TheVariants.{Unreadable, Turn}
use Rattle.answers.specs.declared.refusals.SheetRefusal.TheVariants.{Line as AtLine}
use Rattle.answers.proofs.Bounds.{field_length, phase_small}
use Rattle.answers.proofs.Chains.{field}
use Rattle.answers.proofs.TextParts.{ok_text, err_text, line_text}

-- WHAT A CALL IS REFUSED FOR

-- an instrument's refusal tells of a section whose number is short enough for a line
abbrev Fine : LineRefusal → Type 0
Fine NoSectionAtAll = Unit {0}
Fine MadeUnsettled = Unit {0}
Fine SectionUnknown = Unit {0}
Fine PostUnknown = Unit {0}
Fine TrainUnknown = Unit {0}
Fine TrainPresent = Unit {0}
Fine TableFull = Unit {0}
Fine TrainAbsent = Unit {0}
Fine TrainElsewhere = Unit {0}
Fine BlockSignalWrong = Unit {0}
Fine HomeSignalWrong = Unit {0}
Fine PedalWrong = Unit {0}
Fine SectionOccupied = Unit {0}
Fine (Instrument e) = Short (section_value e)

abbrev FineWhere : Option LineRefusal → Type 0
FineWhere None = Unit {0}
FineWhere (Some r) = Fine r

abbrev EachFine : List (Option LineRefusal) → Type 0
EachFine [] = Unit {0}
EachFine (o ∷ os) = FineWhere o × EachFine os

record AllFine (os : List (Option LineRefusal)) : Type 0 where
  each : EachFine os

fine_first : (os : List (Option LineRefusal)) → EachFine os → (e : LineRefusal) → first_refusal os ≡ Some e → Fine e
fine_first [] all e h = absurd (let z : ◌≡◌ {A = ℕ} 0 1 = cc in omega arith)
fine_first (None ∷ os) all e h = fine_first os all.1 e h
fine_first (Some r ∷ os) all e h = let same : r ≡ e = cc in subst Fine same all.0

fine_where : (b : Bool) (r : LineRefusal) → Fine r → FineWhere (refused_if b r)
fine_where true r f = f
fine_where false r f = tt

fine_if : (b : Bool) (r : LineRefusal) → Fine r → (os : List (Option LineRefusal)) → AllFine os → AllFine (refused_if b r ∷ os)
fine_if b r f os all = record { each = (fine_where b r f, all.each) }

fine_going : (way : Option Direction) (test : Direction → Bool) (r : LineRefusal) → Fine r → (os : List (Option LineRefusal)) → AllFine os
    → AllFine (going way (λ d. refused_if (test d) r) ∷ os)
fine_going way test r f os all = record { each = (by way, all.each) }
  where
    by : (w : Option Direction) → FineWhere (going w (λ d. refused_if (test d) r))
    by None = tt
    by (Some d) = fine_where (test d) r f

-- the instrument tells of the section that it was asked for
refusal_section : (a : Action) (k : ℕ) (d : Direction) (p : Phase) → section_value (refusal a k d p) ≡ k
refusal_section Give k d p = refl
refusal_section Open k d p = out (towards d p)
  where
    out : (b : Bool) → section_value (cond b (WrongPhase k d p) (OtherDirection k d p)) ≡ k
    out true = refl
    out false = refl
refusal_section Return k d p = out (towards d p)
  where
    out : (b : Bool) → section_value (cond b (WrongPhase k d p) (OtherDirection k d p)) ≡ k
    out true = refl
    out false = refl
refusal_section Clear k d p = out (towards d p)
  where
    out : (b : Bool) → section_value (cond b (WrongPhase k d p) (OtherDirection k d p)) ≡ k
    out true = refl
    out false = refl
refusal_section Restore k d p = out (towards d p)
  where
    out : (b : Bool) → section_value (cond b (WrongPhase k d p) (OtherDirection k d p)) ≡ k
    out true = refl
    out false = refl

abbrev FineAnswer : Result (Unit {0}) InstrumentRefusal → Type 0
FineAnswer (Ok u) = Unit {0}
FineAnswer (Err e) = Short (section_value e)

fine_answer : (ps : List Phase) (a : Action) (k : ℕ) (d : Direction) → Short k → FineAnswer (answer ps a k d)
unfolding answer
fine_answer ps a k d s = by (ltb k (length ps)) (same_phase (phase_at ps k) (leaves a d))
  where
    by : (there fits : Bool) → FineAnswer (answer_of (cond there (cond fits (Ok (brings a d)) (Err (refusal a k d (phase_at ps k)))) (Err (NoSection k (Some d)))))
    by true true = tt
    by true false = subst Short (sym (refusal_section a k d (phase_at ps k))) s
    by false fits = s

fine_asked : (s : LineState) (a : Option Action) (k : Option ℕ) (d : Option Direction) → ((n : ℕ) → k ≡ Some n → Short n) → AllFine (asked s a k d)
fine_asked s None k d h = record { each = tt }
fine_asked s (Some a) None d h = record { each = tt }
fine_asked s (Some a) (Some k) None h = record { each = tt }
fine_asked s (Some a) (Some k) (Some d) h = by (answer s.phases a k d) (fine_answer s.phases a k d (h k refl))
  where
    by : (r : Result (Unit {0}) InstrumentRefusal) → FineAnswer r → AllFine (option_map Instrument (result_err r) ∷ [])
    by (Ok u) f = record { each = (tt, tt) }
    by (Err e) f = record { each = (f, tt) }

fine_own : (s : LineState) (c : Call) (rest : List (Option LineRefusal)) → AllFine rest → AllFine (own_checks s c ++ rest)
fine_own s (PlaceTrain n p) rest all = fine_if _ TrainUnknown tt _ (fine_if _ PostUnknown tt _ (fine_if _ TrainPresent tt _ (fine_if _ TableFull tt _ all)))
fine_own s (WithdrawTrain n) rest all = fine_if _ TrainUnknown tt _ (fine_if _ TrainAbsent tt _ (fine_if _ TrainElsewhere tt _ all))
fine_own s (GiveRelease k d) rest all = fine_if _ SectionUnknown tt _ all
fine_own s (OpenSignal k d) rest all = fine_if _ SectionUnknown tt _ all
fine_own s (CloseSignal k d) rest all = fine_if _ SectionUnknown tt _ (fine_if _ BlockSignalWrong tt _ all)
fine_own s (EnterSection n k) rest all =
    fine_if _ TrainUnknown tt _ (fine_if _ SectionUnknown tt _ (fine_if _ TrainAbsent tt _ (fine_if _ TrainElsewhere tt _ (fine_going (direction_of s (EnterSection n k)) (λ d. not (is_open (block_signal d (section_at s.sections k)))) BlockSignalWrong tt _ all))))
fine_own s (ReturnRelease k d) rest all = fine_if _ SectionUnknown tt _ (fine_if _ BlockSignalWrong tt _ all)
fine_own s (OpenHome k d) rest all = fine_if _ SectionUnknown tt _ (fine_if _ HomeSignalWrong tt _ all)
fine_own s (ShutHome k d) rest all = fine_if _ SectionUnknown tt _ (fine_if _ HomeSignalWrong tt _ (fine_if _ PedalWrong tt _ all))
fine_own s (ReachPedal n k) rest all =
    fine_if _ TrainUnknown tt _ (fine_if _ SectionUnknown tt _ (fine_if _ TrainAbsent tt _ (fine_if _ TrainElsewhere tt _ (fine_going (direction_of s (ReachPedal n k)) (λ d. not (home_is_open (home_signal d (section_at s.sections k)))) HomeSignalWrong tt _ all))))
fine_own s (LeaveSection n k) rest all = fine_if _ TrainUnknown tt _ (fine_if _ SectionUnknown tt _ (fine_if _ TrainAbsent tt _ (fine_if _ TrainElsewhere tt _ all)))
fine_own s (ClearSection k d) rest all = fine_if _ SectionUnknown tt _ (fine_if _ HomeSignalWrong tt _ (fine_if _ PedalWrong tt _ all))
fine_own s (UnsealSection k d) rest all =
    fine_if _ SectionUnknown tt _ (fine_if _ HomeSignalWrong tt _ (fine_if _ SectionOccupied tt _ (fine_if _ PedalWrong tt _ all)))
fine_own s (RestoreSection k d) rest all = fine_if _ SectionUnknown tt _ (fine_if _ HomeSignalWrong tt _ all)

fine_unfit : (k : Condition) (os : List (Option LineRefusal)) → AllFine os → AllFine (unfit k ∷ os)
fine_unfit Sound os all = record { each = (tt, all.each) }
fine_unfit Sectionless os all = record { each = (tt, all.each) }
fine_unfit Unsettled os all = record { each = (tt, all.each) }

-- the section of a call that a line can name
short_section : (c : Call) → Writable c → (k : ℕ) → section_of c ≡ Some k → Short k
short_section (PlaceTrain n p) w k e = absurd (let z : ◌≡◌ {A = ℕ} 0 1 = cc in omega arith)
short_section (WithdrawTrain n) w k e = absurd (let z : ◌≡◌ {A = ℕ} 0 1 = cc in omega arith)
short_section (GiveRelease j d) w k e = let same : j ≡ k = cc in subst Short same w
short_section (OpenSignal j d) w k e = let same : j ≡ k = cc in subst Short same w
short_section (CloseSignal j d) w k e = let same : j ≡ k = cc in subst Short same w
short_section (EnterSection n j) w k e = let same : j ≡ k = cc in subst Short same w.1
short_section (ReturnRelease j d) w k e = let same : j ≡ k = cc in subst Short same w
short_section (OpenHome j d) w k e = let same : j ≡ k = cc in subst Short same w
short_section (ShutHome j d) w k e = let same : j ≡ k = cc in subst Short same w
short_section (ReachPedal n j) w k e = let same : j ≡ k = cc in subst Short same w.1
short_section (LeaveSection n j) w k e = let same : j ≡ k = cc in subst Short same w.1
short_section (ClearSection j d) w k e = let same : j ≡ k = cc in subst Short same w
short_section (UnsealSection j d) w k e = let same : j ≡ k = cc in subst Short same w
short_section (RestoreSection j d) w k e = let same : j ≡ k = cc in subst Short same w

fine_refusal : (s : LineState) (c : Call) → Writable c → (e : LineRefusal) → check.refusal s c ≡ Some e → Fine e
unfolding check.refusal
fine_refusal s c w e h =
    let asks = fine_asked s (action_of c) (section_of c) (direction_of s c) (short_section c w) in
    fine_first (unfit s.condition ∷ checks s c) (fine_unfit s.condition (checks s c) (fine_own s c (asked s (action_of c) (section_of c) (direction_of s c)) asks)).each e h

-- THE VALUES

-- how many bytes a refusal's values take
abbrev pub Brief : List ℕ → Type 0
Brief values = length (fields_of values) ≤ 8

pub nothing_brief : Brief []
nothing_brief = omega arith

found_brief : (k : ℕ) (p : Phase) → Short k → Brief (k ∷ phase_code p ∷ [])
found_brief k p s =
    let a = field_length 5 k (omega arith) (omega arith) (omega arith) in
    let b = field_length 1 (phase_code p) (omega arith) (omega (arith, phase_small p)) (omega (arith, phase_small p)) in
    omega (arith, a, b, length-append (field k) (fields_of (phase_code p ∷ [])), length-append (field (phase_code p)) [])

instrument_brief : (e : InstrumentRefusal) → Short (section_value e) → Brief (found_values e)
instrument_brief (NoSection k asked) s = nothing_brief
instrument_brief (NotAtRest k d p) s = found_brief k p s
instrument_brief (OtherDirection k d p) s = found_brief k p s
instrument_brief (WrongPhase k d p) s = found_brief k p s

line_brief : (e : LineRefusal) → Fine e → Brief (line_values e)
line_brief NoSectionAtAll f = nothing_brief
line_brief MadeUnsettled f = nothing_brief
line_brief SectionUnknown f = nothing_brief
line_brief PostUnknown f = nothing_brief
line_brief TrainUnknown f = nothing_brief
line_brief TrainPresent f = nothing_brief
line_brief TableFull f = nothing_brief
line_brief TrainAbsent f = nothing_brief
line_brief TrainElsewhere f = nothing_brief
line_brief BlockSignalWrong f = nothing_brief
line_brief HomeSignalWrong f = nothing_brief
line_brief PedalWrong f = nothing_brief
line_brief SectionOccupied f = nothing_brief
line_brief (Instrument e) f = instrument_brief e f

pub refused_brief : (s : LineState) (c : Call) → Writable c → (e : LineRefusal) → check.refusal s c ≡ Some e → Brief (line_values e)
refused_brief s c w e h = line_brief e (fine_refusal s c w e h)

-- THE PLACE

digits : (n : ℕ) → Short n → length (decimal n) ≤ 5
digits n s = length-decimal-le 5 n (omega arith) (omega arith) (omega arith)

fields_length : (f : Fields) → Fit f → length (fields_text f) ≤ 12
fields_length (One m) s = omega (arith, digits m s, length-append (decimal m) (line_feed ∷ []))
fields_length (Two m n) s =
    omega (arith, digits m s.0, digits n s.1, length-append (decimal m) (space ∷ (decimal n ++ line_feed ∷ [])), length-append (decimal n) (line_feed ∷ []))
fields_length (Sided m d) s = omega (arith, digits m s, length-append (decimal m) (space ∷ direction_letter d ∷ line_feed ∷ []))

written_length : (c : Call) → Writable c → length (written c) ≤ 14
unfolding written
written_length c w = omega (arith, fields_length (fields c) w)

place_small : (line : List ℕ) (place : ℕ) → UnreadableAt line place → place ≤ 14
place_small line place u =
    omega (
      arith,
      written_length u.begins.call u.begins.writable,
      ap length u.begins.whole,
      length-append (take place line) u.begins.rest,
      length-take place line,
      u.within,
    )

pub place_brief : (line : List ℕ) (place : ℕ) → UnreadableAt line place → Brief (place ∷ [])
place_brief line place u =
    let few = place_small line place u in
    omega (arith, field_length 2 place (omega arith) (omega arith) (omega arith), length-append (field place) [])

-- THE LINE

instrument_number : (e : InstrumentRefusal) → number e < 1000
instrument_number (NoSection k asked) = omega arith
instrument_number (NotAtRest k d p) = omega arith
instrument_number (OtherDirection k d p) = omega arith
instrument_number (WrongPhase k d p) = omega arith

number_small : (e : LineRefusal) → line_number e < 1000
number_small NoSectionAtAll = omega arith
number_small MadeUnsettled = omega arith
number_small SectionUnknown = omega arith
number_small PostUnknown = omega arith
number_small TrainUnknown = omega arith
number_small TrainPresent = omega arith
number_small TableFull = omega arith
number_small TrainAbsent = omega arith
number_small TrainElsewhere = omega arith
number_small BlockSignalWrong = omega arith
number_small HomeSignalWrong = omega arith
number_small PedalWrong = omega arith
number_small SectionOccupied = omega arith
number_small (Instrument e) = instrument_number e

refusal_number_small : (e : SheetLineRefusal) → line_refusal_number e < 1000
refusal_number_small (Unreadable place) = omega arith
refusal_number_small (Turn RegisterFull) = omega arith
refusal_number_small (Turn SealBookFull) = omega arith
refusal_number_small (Turn (Line e)) = number_small e

pub ok_short : (n : ℕ) → n < 10000 → length (told_text n (Ok tt)) ≤ 20
ok_short n few =
    omega (arith, length-decimal-le 4 n (omega arith) (omega arith) (omega arith), ap length (ok_text n), length-append (decimal n) (space ∷ 111 ∷ 107 ∷ line_feed ∷ []))

pub refused_short : (n : ℕ) (r : RefusedLine) → r.line < 10000 → Brief (refusal_values r.refusal) → length (told_text n (Err (AtLine r))) ≤ 20
refused_short n r few brief =
    let value = line_refusal_number r.refusal in
    let small = refusal_number_small r.refusal in
    let values = refusal_values r.refusal in
    let a = length-decimal-le 4 r.line (omega arith) (omega arith) (omega arith) in
    let b = field_length 3 value (omega arith) (omega arith) (omega arith) in
    let d = length-append (field value) (fields_of values) in
    let e = length-append ((110 ∷ 111 ∷ []) ++ fields_of (value ∷ values)) (line_feed ∷ []) in
    let f = length-append (decimal r.line) (space ∷ []) in
    let h = length-append (decimal r.line ++ (space ∷ [])) (refused (value ∷ values)) in
    omega (arith, a, b, brief, d, e, f, h, ap length (err_text n (AtLine r) ∙ line_text r))
