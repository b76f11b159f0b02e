use Rattle.std.proofs.Common.{◌≡◌, ◌++◌, take, drop}
use Rattle.turn.specs.Turn.{run, answers}
use Rattle.turn.specs.Turns.{turn_of}
use Rattle.turn.proofs.plays.play.Given as goal

abbrev pub invariant-loop-i : goal.invariant-loop-i
invariant-loop-i g l =
    let start = turn_of l.initial.line l.initial.register l.initial.seals in
    let here = turn_of l.line l.register l.seals in
    (run here (drop l.i (take l.n l.calls)) ≡ run start (take l.n l.calls))
    × (take l.i l.told ++ answers here (drop l.i (take l.n l.calls)) ≡ answers start (take l.n l.calls))
    × (drop l.i l.told ≡ drop l.i l.initial.told)
