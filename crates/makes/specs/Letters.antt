-- A section worked by telephone: the last letter, its direction and the opened mark, and the phase that they stand for.
use Rattle.std.specs.Prelude.{Bool, true, false, is_some, Some, None, Option}
use Rattle.block.specs.declared.order.Action.{Action}
use Rattle.block.specs.declared.order.Action.TheVariants.{Give, Open, Return, Clear, Restore}
use Rattle.block.specs.declared.order.Direction.{Direction}
use Rattle.block.specs.declared.order.Direction.TheVariants.{Up, Down}
use Rattle.block.specs.declared.order.Phase.{Phase}
use Rattle.block.specs.declared.order.Phase.TheVariants.{Rest, Given, Opened, Returned, Cleared}
use Rattle.makes.specs.declared.telephone.letters.Letter.{Letter}
use Rattle.makes.specs.declared.telephone.letters.Letter.TheVariants.{Request, Grant, Entry, EntryConfirmed, Exit, ExitConfirmed}

-- the phase that a record stands for; none where the record is not lawful
abbrev pub heard : Option Letter → Direction → Bool → Option Phase
heard None Up false = Some Rest
heard None Up true = None
heard None Down opened = None
heard (Some Request) d opened = None
heard (Some Grant) d false = Some (Given d)
heard (Some Grant) d true = Some (Opened d)
heard (Some Entry) d opened = None
heard (Some EntryConfirmed) d false = Some (Returned d)
heard (Some EntryConfirmed) d true = None
heard (Some Exit) d false = Some (Cleared d)
heard (Some Exit) d true = None
heard (Some ExitConfirmed) d false = Some Rest
heard (Some ExitConfirmed) d true = None

abbrev pub lawful : Option Letter → Direction → Bool → Bool
lawful letter d opened = is_some (heard letter d opened)

-- the last letter once an action has been accepted
abbrev pub last_letter : Action → Letter
last_letter Give = Grant
last_letter Open = Grant
last_letter Return = EntryConfirmed
last_letter Clear = Exit
last_letter Restore = ExitConfirmed

-- the opened mark once an action has been accepted
abbrev pub marked : Action → Bool
marked Give = false
marked Open = true
marked Return = false
marked Clear = false
marked Restore = false
