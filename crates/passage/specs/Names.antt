-- The words that are printed for actions and directions.
use Rattle.std.specs.Prelude.{ℕ, List, codes}
use Rattle.block.specs.declared.order.Action.{Action}
use Rattle.block.specs.declared.order.Action.TheVariants.{Give, Open, Return, Clear, Restore}
use Rattle.block.specs.declared.order.Direction.{Direction}
use Rattle.block.specs.declared.order.Direction.TheVariants.{Up, Down}

abbrev pub name_of_action : Action → List ℕ
name_of_action Give = codes "give"
name_of_action Open = codes "open"
name_of_action Return = codes "return"
name_of_action Clear = codes "clear"
name_of_action Restore = codes "restore"

abbrev pub name_of_direction : Direction → List ℕ
name_of_direction Up = codes "up"
name_of_direction Down = codes "down"

abbrev pub opposite_of : Direction → Direction
opposite_of Up = Down
opposite_of Down = Up
