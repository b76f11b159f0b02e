-- An interlocked section: eight panes and a lever lock, and the phase that they stand for.
use Rattle.std.specs.Prelude.{ℕ, Bool, true, false, cond, List, is_some, Some, None, Option, Result, ◌==◌}
use Rattle.std.specs.Result.{result_map_both}
use Rattle.block.specs.Meaning.{phase_answer}
use Rattle.block.specs.declared.refusals.InstrumentRefusal.{InstrumentRefusal}
use Rattle.block.specs.declared.order.Direction.TheVariants.{Up, Down}
use Rattle.block.specs.declared.order.Phase.{Phase}
use Rattle.block.specs.declared.order.Phase.TheVariants.{Rest, Given, Opened, Returned, Cleared}

-- the picture that the panes show in a phase; a set bit is a red pane
abbrev pub panes : Phase → ℕ
panes Rest = 85
panes (Given Up) = 116
panes (Opened Up) = 116
panes (Returned Up) = 247
panes (Cleared Up) = 183
panes (Given Down) = 71
panes (Opened Down) = 71
panes (Returned Down) = 127
panes (Cleared Down) = 123

-- the lever is locked once the signal has been opened, until the release is returned
abbrev pub locked : Phase → Bool
locked Rest = false
locked (Given d) = false
locked (Opened d) = true
locked (Returned d) = false
locked (Cleared d) = false

abbrev unlocked : Bool → Phase → Option Phase
unlocked true p = None
unlocked false p = Some p

-- the phase that panes and lock stand for; none where the pair is not lawful
abbrev pub shown : ℕ → Bool → Option Phase
shown b l =
    cond (b == 85) (unlocked l Rest)
    (cond (b == 116) (Some (cond l (Opened Up) (Given Up)))
    (cond (b == 247) (unlocked l (Returned Up))
    (cond (b == 183) (unlocked l (Cleared Up))
    (cond (b == 71) (Some (cond l (Opened Down) (Given Down)))
    (cond (b == 127) (unlocked l (Returned Down))
    (cond (b == 123) (unlocked l (Cleared Down)) None))))))

-- the answer to the question for the panes of section k
abbrev pub panes_answer : List Phase → ℕ → Result ℕ InstrumentRefusal
panes_answer ps k = result_map_both panes (λ e. e) (phase_answer ps k)

abbrev pub lawful : ℕ → Bool → Bool
lawful b l = is_some (shown b l)
