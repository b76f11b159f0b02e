use Rattle.std.proofs.Common.{◌<◌, ◌≤◌, length, arith}
use Rattle.std.proofs.lemmas.Bool.Decides.{nat_tests}
use Rattle.block.proofs.Laws.{answer_past, after_past}
use Rattle.makes.proofs.Joined.{first_answer, first_after, second_answer, second_after, past_pile}
use Rattle.makes.proofs.piles.MixedPileBlockInstrument.operate.Goals as goal

pub returns-then-section-below : goal.returns-then-section-below
returns-then-section-below g c =
    let s = c.args.self.now in
    let ps = g.P.BlockInstrument.phases s.first in
    let qs = g.Q.BlockInstrument.phases s.second in
    let few = g.P.BlockInstrument.few s.first in
    let here : c.args.section < length ps = omega arith in
    let answered = first_answer 16 ps qs c.args.section few here c.args.action c.args.direction in
    let followed = first_after 16 ps qs c.args.section few here c.args.action c.args.direction in
    record { answered = cc; followed = cc }

pub returns-in_err-check_section : goal.returns-in_err-check_section
returns-in_err-check_section g c = grind (arith, past_pile, answer_past, after_past)

pub returns : goal.returns
returns g c =
    let s = c.args.self.now in
    let ps = g.P.BlockInstrument.phases s.first in
    let qs = g.Q.BlockInstrument.phases s.second in
    let from : length ps ≤ c.args.section = omega arith in
    let under : c.args.section < 16 = grind (arith, nat_tests) in
    let answered = second_answer 16 ps qs c.args.section from under c.args.action c.args.direction in
    let followed = second_after 16 ps qs c.args.section from under c.args.action c.args.direction in
    record { answered = cc; followed = cc }
