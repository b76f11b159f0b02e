-- The order of working: the phases of a section, their codes, and from which phase to which each action leads.
use Rattle.std.specs.Prelude.{ℕ, Bool, false, ◌==◌}
use Rattle.block.specs.declared.order.Action.{Action}
use Rattle.block.specs.declared.order.Action.TheVariants.{Give, Open, Return, Clear, Restore}
use Rattle.block.specs.declared.order.Direction.{Direction}
use Rattle.block.specs.declared.order.Direction.TheVariants.{Up, Down}
use Rattle.block.specs.declared.order.Phase.{Phase}
use Rattle.block.specs.declared.order.Phase.TheVariants.{Rest, Given, Opened, Returned, Cleared}

-- the number of a direction
abbrev pub direction_code : Direction → ℕ
direction_code Up = 0
direction_code Down = 1

-- the number of a phase
abbrev pub phase_code : Phase → ℕ
phase_code Rest = 0
phase_code (Given Up) = 1
phase_code (Opened Up) = 2
phase_code (Returned Up) = 3
phase_code (Cleared Up) = 4
phase_code (Given Down) = 5
phase_code (Opened Down) = 6
phase_code (Returned Down) = 7
phase_code (Cleared Down) = 8

abbrev pub same_direction : Direction → Direction → Bool
same_direction d e = direction_code d == direction_code e

abbrev pub same_phase : Phase → Phase → Bool
same_phase p q = phase_code p == phase_code q

-- whether a phase is one of this direction; rest is of neither
abbrev pub towards : Direction → Phase → Bool
towards d Rest = false
towards d (Given e) = same_direction d e
towards d (Opened e) = same_direction d e
towards d (Returned e) = same_direction d e
towards d (Cleared e) = same_direction d e

-- the one phase in which an action is accepted
abbrev pub leaves : Action → Direction → Phase
leaves Give d = Rest
leaves Open d = Given d
leaves Return d = Opened d
leaves Clear d = Returned d
leaves Restore d = Cleared d

-- the phase that an accepted action leads to
abbrev pub brings : Action → Direction → Phase
brings Give d = Given d
brings Open d = Opened d
brings Return d = Returned d
brings Clear d = Cleared d
brings Restore d = Rest
