-- A turn worked through, computed from the definitions: two sections, one train through the first of them.
use Rattle.std.specs.Prelude.{◌≡◌, ℕ, false, List, [], ◌∷◌, map, Some, Ok, Err, Result}
use Rattle.block.specs.Meaning.{phase_at}
use Rattle.block.specs.Order.{phase_code}
use Rattle.block.specs.declared.order.Direction.TheVariants.{Up, Down}
use Rattle.trains.specs.Trains.{place_of, occupied}
use Rattle.rules.specs.declared.calls.Call.{Call}
use Rattle.rules.specs.declared.calls.Call.TheVariants.{PlaceTrain, GiveRelease, OpenSignal, CloseSignal, EnterSection, ReturnRelease, OpenHome, ShutHome, ReachPedal, LeaveSection, ClearSection, RestoreSection}
use Rattle.trains.specs.declared.places.Place.TheVariants.{AtPost}
use Rattle.turn.specs.Numbers.{turn_number, turn_values}
use Rattle.turn.specs.Rows.{row_values, tally}
use Rattle.turn.specs.Turn.{TurnState, new_turn, answers, run}
use Rattle.turn.specs.declared.refusals.TurnRefusal.{TurnRefusal}
use Rattle.turn.specs.declared.rows.Kind.TheVariants.{Giving, Leaving, Unsealing}

abbrev calls : List Call
calls =
    PlaceTrain 3020 0 ∷ GiveRelease 0 Up ∷ OpenSignal 0 Up ∷ EnterSection 3020 0 ∷ GiveRelease 0 Down ∷ CloseSignal 0 Up ∷ ReturnRelease 0 Up
    ∷ OpenHome 0 Up ∷ ReachPedal 3020 0 ∷ LeaveSection 3020 0 ∷ ClearSection 0 Up ∷ ShutHome 0 Up ∷ ClearSection 0 Up ∷ RestoreSection 0 Up
    ∷ GiveRelease 1 Up ∷ []

-- nothing where a call is accepted, the refusal's number and values where it is not
abbrev told : Result (Unit {0}) TurnRefusal → List ℕ
told (Ok x) = []
told (Err e) = turn_number e ∷ turn_values e

abbrev start : TurnState
start = new_turn 2 1000 50

abbrev end : TurnState
end = run start calls

abbrev told_of_section : ℕ → List ℕ
told_of_section k =
    phase_code (phase_at end.line.phases k) ∷ tally Giving k end.register.rows ∷ tally Leaving k end.register.rows
    ∷ tally Unsealing k end.register.rows ∷ []

pub record WorkedTurn : Type 0 where
  -- a second release against the train, and a clearing under an open home signal
  pub answers_are : map told (answers start calls) ≡ [] ∷ [] ∷ [] ∷ [] ∷ (302 ∷ 0 ∷ 1 ∷ 2 ∷ []) ∷ [] ∷ [] ∷ [] ∷ [] ∷ [] ∷ (211 ∷ []) ∷ [] ∷ [] ∷ [] ∷ [] ∷ []
  pub first_section : told_of_section 0 ≡ 0 ∷ 1 ∷ 1 ∷ 0 ∷ []
  pub second_section : told_of_section 1 ≡ 1 ∷ 1 ∷ 0 ∷ 0 ∷ []
  pub nobody_inside : (occupied 0 end.line.trains ≡ false) × (occupied 1 end.line.trains ≡ false)
  pub arrived : place_of 3020 end.line.trains ≡ Some (AtPost 1)
  -- call, train, section, direction, post
  pub rows_are : map row_values end.register.rows ≡
      (1 ∷ 3020 ∷ 255 ∷ 2 ∷ 0 ∷ []) ∷ (3 ∷ 0 ∷ 0 ∷ 0 ∷ 255 ∷ []) ∷ (4 ∷ 0 ∷ 0 ∷ 0 ∷ 255 ∷ []) ∷ (6 ∷ 3020 ∷ 0 ∷ 0 ∷ 255 ∷ []) ∷ (5 ∷ 0 ∷ 0 ∷ 0 ∷ 255 ∷ [])
      ∷ (7 ∷ 0 ∷ 0 ∷ 0 ∷ 255 ∷ []) ∷ (8 ∷ 0 ∷ 0 ∷ 0 ∷ 255 ∷ []) ∷ (10 ∷ 3020 ∷ 0 ∷ 0 ∷ 255 ∷ []) ∷ (11 ∷ 3020 ∷ 0 ∷ 0 ∷ 255 ∷ []) ∷ (9 ∷ 0 ∷ 0 ∷ 0 ∷ 255 ∷ [])
      ∷ (12 ∷ 0 ∷ 0 ∷ 0 ∷ 255 ∷ []) ∷ (14 ∷ 0 ∷ 0 ∷ 0 ∷ 255 ∷ []) ∷ (3 ∷ 0 ∷ 1 ∷ 0 ∷ 255 ∷ []) ∷ []
