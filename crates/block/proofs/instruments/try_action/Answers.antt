use Rattle.block.proofs.Steps.{step}
use Rattle.block.proofs.instruments.try_action.Goals as goal

pub returns-clause-step : goal.returns-clause-step
returns-clause-step g c = step _ _ _ _
