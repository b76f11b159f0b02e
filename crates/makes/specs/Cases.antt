-- Worked cases, from the definitions that the code's promises use.
use Rattle.std.specs.Prelude.{◌≡◌, ℕ, List, [], ◌∷◌, Some, Ok, Option, Result}
use Rattle.std.specs.Result.{result_err}
use Rattle.std.specs.Option.{option_map}
use Rattle.makes.specs.Faults.{nearest}
use Rattle.block.specs.Meaning.{phase_at, answer, after}
use Rattle.block.specs.Order.{phase_code}
use Rattle.makes.specs.Panes.{panes_answer}
use Rattle.block.specs.Refusals.{number}
use Rattle.block.specs.declared.order.Action.{Action}
use Rattle.block.specs.declared.order.Action.TheVariants.{Give, Open, Return, Clear}
use Rattle.block.specs.declared.order.Direction.{Direction}
use Rattle.block.specs.declared.order.Direction.TheVariants.{Up, Down}
use Rattle.block.specs.declared.order.Phase.{Phase}
use Rattle.block.specs.declared.order.Phase.TheVariants.{Rest}
use Rattle.block.specs.declared.refusals.InstrumentRefusal.{InstrumentRefusal}

-- an instrument of one section, worked from rest; the newest action stands first
abbrev pub worked_through : Direction → List Action → List Phase
worked_through d [] = Rest ∷ []
worked_through d (a ∷ as') = after (worked_through d as') a 0 d

abbrev pub refused_with : Result (Unit {0}) InstrumentRefusal → Option ℕ
refused_with r = option_map number (result_err r)

pub record WorkedCases : Type 0 where
  pub new : panes_answer (worked_through Up []) 0 ≡ Ok 85
  pub given_up : panes_answer (worked_through Up (Give ∷ [])) 0 ≡ Ok 116
  pub returned_up : panes_answer (worked_through Up (Return ∷ Open ∷ Give ∷ [])) 0 ≡ Ok 247
  pub cleared_up : panes_answer (worked_through Up (Clear ∷ Return ∷ Open ∷ Give ∷ [])) 0 ≡ Ok 183
  pub given_down : panes_answer (worked_through Down (Give ∷ [])) 0 ≡ Ok 71
  pub returned_down : panes_answer (worked_through Down (Return ∷ Open ∷ Give ∷ [])) 0 ≡ Ok 127
  pub cleared_down : panes_answer (worked_through Down (Clear ∷ Return ∷ Open ∷ Give ∷ [])) 0 ≡ Ok 123
  pub phase_two : phase_code (phase_at (worked_through Up (Open ∷ Give ∷ [])) 0) ≡ 2
  pub second_release : refused_with (answer (worked_through Up (Open ∷ Give ∷ [])) Give 0 Down) ≡ Some 302
  pub second_move : refused_with (answer (worked_through Up (Open ∷ Give ∷ [])) Open 0 Up) ≡ Some 304
  pub near_rest : nearest 81 ≡ 0
  pub near_none : nearest 84 ≡ 7
