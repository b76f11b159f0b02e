use Rattle.makes.proofs.Joined.{joined_length}
use Rattle.makes.proofs.piles.MixedPileBlockInstrument.count.Goals as goal

pub returns : goal.returns
returns g c =
    let long = joined_length 16 (g.P.BlockInstrument.phases c.args.self.now.first) (g.Q.BlockInstrument.phases c.args.self.now.second) in
    cc
