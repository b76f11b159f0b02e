-- When each call is refused: its checks, in their order; the first that fails gives the refusal.
use Rattle.std.specs.Prelude.{ℕ, Bool, true, false, not, ◌||◌, List, [], ◌∷◌, ◌++◌, is_some, Some, None, Ok, Err, Option, Result, nat_le, nat_lt}
use Rattle.block.specs.Meaning.{answer}
use Rattle.block.specs.declared.order.Action.{Action}
use Rattle.block.specs.declared.order.Direction.{Direction}
use Rattle.std.specs.Option.{option_map}
use Rattle.std.specs.Result.{result_err}
use Rattle.rules.specs.Calls.{section_of, direction_of, post_of, action_of}
use Rattle.rules.specs.State.{LineState, count, section_at, block_signal, home_signal, is_closed, is_open, home_is_open}
use Rattle.trains.specs.Trains.{place_of, any, is_free, occupied, pedal_pressed}
use Rattle.rules.specs.declared.calls.Call.{Call}
use Rattle.rules.specs.declared.calls.Call.TheVariants.{PlaceTrain, WithdrawTrain, GiveRelease, OpenSignal, CloseSignal, EnterSection, ReturnRelease, OpenHome, ShutHome, ReachPedal, LeaveSection, ClearSection, UnsealSection, RestoreSection}
use Rattle.rules.specs.declared.refusals.LineRefusal.{LineRefusal}
use Rattle.rules.specs.declared.refusals.LineRefusal.TheVariants.{NoSectionAtAll, MadeUnsettled, SectionUnknown, PostUnknown, TrainUnknown, TrainPresent, TableFull, TrainAbsent, TrainElsewhere, BlockSignalWrong, HomeSignalWrong, PedalWrong, SectionOccupied, Instrument}
use Rattle.rules.specs.declared.signals.Condition.{Condition}
use Rattle.rules.specs.declared.signals.Condition.TheVariants.{Sound, Sectionless, Unsettled}

-- one check: its refusal where the ground for it holds
abbrev pub refused_if : Bool → LineRefusal → Option LineRefusal
refused_if true r = Some r
refused_if false r = None

abbrev pub first_refusal : List (Option LineRefusal) → Option LineRefusal
first_refusal [] = None
first_refusal (None ∷ os) = first_refusal os
first_refusal (Some r ∷ os) = Some r

-- the answer that a refusal gives, or its lack
abbrev pub told : {E : Type 0} → Option E → Result (Unit {0}) E
told None = Ok tt
told (Some e) = Err e

-- 201, 202
abbrev pub unfit : Condition → Option LineRefusal
unfit Sound = None
unfit Sectionless = Some NoSectionAtAll
unfit Unsettled = Some MadeUnsettled

module _ (s : LineState) where
  -- 203
  abbrev pub section_unknown : ℕ → Option LineRefusal
  section_unknown k = refused_if (nat_le (count s) k) SectionUnknown

  -- 204
  abbrev pub post_unknown : ℕ → Option LineRefusal
  post_unknown p = refused_if (nat_lt (count s) p) PostUnknown

  -- 206
  abbrev pub train_present : ℕ → Option LineRefusal
  train_present n = refused_if (is_some (place_of n s.trains)) TrainPresent

  -- 207
  abbrev pub table_full : Option LineRefusal
  table_full = refused_if (not (any is_free s.trains)) TableFull

  -- 208
  abbrev pub train_absent : ℕ → Option LineRefusal
  train_absent n = refused_if (not (is_some (place_of n s.trains))) TrainAbsent

  -- 211, where the home signal has to be shut
  abbrev pub home_open : ℕ → Direction → Option LineRefusal
  home_open k d = refused_if (home_is_open (home_signal d (section_at s.sections k))) HomeSignalWrong

  -- 211, where the home signal has to be open
  abbrev pub home_shut : ℕ → Direction → Option LineRefusal
  home_shut k d = refused_if (not (home_is_open (home_signal d (section_at s.sections k)))) HomeSignalWrong

  -- 301 to 304
  abbrev pub instrument_refuses : Action → ℕ → Direction → Option LineRefusal
  instrument_refuses a k d = option_map Instrument (result_err (answer s.phases a k d))

-- 205: a train number is 1 to 99,999
abbrev pub train_unknown : ℕ → Option LineRefusal
train_unknown n = refused_if (nat_lt n 1 || nat_lt 99999 n) TrainUnknown

-- 209, where there is no way for the train to do what the call says
abbrev pub elsewhere : {X : Type 0} → Option X → Option LineRefusal
elsewhere o = refused_if (not (is_some o)) TrainElsewhere

-- a check for the direction in which the train goes
abbrev pub going : Option Direction → (Direction → Option LineRefusal) → Option LineRefusal
going None check = None
going (Some d) check = check d

-- the line's own checks of a call
abbrev pub own_checks : LineState → Call → List (Option LineRefusal)
own_checks s (PlaceTrain n p) = train_unknown n ∷ post_unknown s p ∷ train_present s n ∷ table_full s ∷ []
own_checks s (WithdrawTrain n) = train_unknown n ∷ train_absent s n ∷ elsewhere (post_of s (WithdrawTrain n)) ∷ []
own_checks s (GiveRelease k d) = section_unknown s k ∷ []
own_checks s (OpenSignal k d) = section_unknown s k ∷ []
own_checks s (CloseSignal k d) =
    section_unknown s k ∷ refused_if (is_closed (block_signal d (section_at s.sections k))) BlockSignalWrong ∷ []
own_checks s (EnterSection n k) =
    let way = direction_of s (EnterSection n k) in
    train_unknown n ∷ section_unknown s k ∷ train_absent s n ∷ elsewhere way
    ∷ going way (λ d. refused_if (not (is_open (block_signal d (section_at s.sections k)))) BlockSignalWrong) ∷ []
own_checks s (ReturnRelease k d) =
    section_unknown s k ∷ refused_if (not (is_closed (block_signal d (section_at s.sections k)))) BlockSignalWrong
    ∷ []
own_checks s (OpenHome k d) = section_unknown s k ∷ home_open s k d ∷ []
own_checks s (ShutHome k d) =
    section_unknown s k ∷ home_shut s k d ∷ refused_if (pedal_pressed k d s.trains) PedalWrong ∷ []
own_checks s (ReachPedal n k) =
    let way = direction_of s (ReachPedal n k) in
    train_unknown n ∷ section_unknown s k ∷ train_absent s n ∷ elsewhere way ∷ going way (home_shut s k) ∷ []
own_checks s (LeaveSection n k) =
    train_unknown n ∷ section_unknown s k ∷ train_absent s n ∷ elsewhere (direction_of s (LeaveSection n k)) ∷ []
own_checks s (ClearSection k d) =
    section_unknown s k ∷ home_open s k d ∷ refused_if (not (section_at s.sections k).pedal) PedalWrong
    ∷ []
own_checks s (UnsealSection k d) =
    section_unknown s k ∷ home_open s k d ∷ refused_if (occupied k s.trains) SectionOccupied
    ∷ refused_if (section_at s.sections k).pedal PedalWrong ∷ []
own_checks s (RestoreSection k d) = section_unknown s k ∷ home_open s k d ∷ []

-- what the instrument says to what is asked of it, last of all
abbrev pub asked : LineState → Option Action → Option ℕ → Option Direction → List (Option LineRefusal)
asked s None k d = []
asked s (Some a) None d = []
asked s (Some a) (Some k) None = []
asked s (Some a) (Some k) (Some d) = instrument_refuses s a k d ∷ []

abbrev pub checks : LineState → Call → List (Option LineRefusal)
checks s c = own_checks s c ++ asked s (action_of c) (section_of c) (direction_of s c)

-- the refusal of a call, none where it is accepted
unfoldable pub refusal : LineState → Call → Option LineRefusal
refusal s c = first_refusal (unfit s.condition ∷ checks s c)
