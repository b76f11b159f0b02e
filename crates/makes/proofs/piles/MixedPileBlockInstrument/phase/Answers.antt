use Rattle.std.proofs.Common.{arith}
use Rattle.std.proofs.lemmas.Bool.Decides.{nat_tests}
use Rattle.block.proofs.Laws.{phase_past}
use Rattle.makes.proofs.Joined.{first_phase, second_phase, past_pile}
use Rattle.makes.proofs.piles.MixedPileBlockInstrument.phase.Goals as goal

pub returns-then-section-below : goal.returns-then-section-below
returns-then-section-below g c =
    let s = c.args.self.now in
    let ps = g.P.BlockInstrument.phases s.first in
    let qs = g.Q.BlockInstrument.phases s.second in
    let is = first_phase 16 ps qs c.args.section (g.P.BlockInstrument.few s.first) (omega arith) in
    cc

pub returns-in_err-check_section : goal.returns-in_err-check_section
returns-in_err-check_section g c = grind (arith, past_pile, phase_past)

pub returns : goal.returns
returns g c =
    let s = c.args.self.now in
    let ps = g.P.BlockInstrument.phases s.first in
    let qs = g.Q.BlockInstrument.phases s.second in
    let is = second_phase 16 ps qs c.args.section (omega arith) (grind (arith, nat_tests)) in
    cc
