use Rattle.std.proofs.Common.{refl}
use Rattle.block.specs.Meaning.{answer, after}
use Rattle.rules.specs.Checks.{refusal}
use Rattle.rules.specs.Effects.{effect}
use Rattle.turn.specs.Turn.{turn_refusal, step}
use Rattle.turn.specs.Worked.{WorkedTurn}
use Rattle.turn.proofs.Law.{law}
use Rattle.turn.proofs.laws.every_turn.Goals as goal

worked : WorkedTurn
unfolding answer after refusal effect turn_refusal step
worked = record {
  answers_are = refl;
  first_section = refl;
  second_section = refl;
  nobody_inside = (refl, refl);
  arrived = refl;
  rows_are = refl;
}

pub returns : goal.returns
returns c = record { law = law; worked = worked }
