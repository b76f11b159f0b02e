-- The ways in which a section can stand, and what each says of its phase, its signals, its trains and its rows.
use Rattle.std.proofs.Common.{ℕ, Bool, true, false, cond, eqb, List, [], ◌∷◌, Some, None, Option}
use Rattle.block.specs.Order.{same_direction}
use Rattle.block.specs.declared.order.Direction.{Direction}
use Rattle.block.specs.declared.order.Phase.{Phase}
use Rattle.block.specs.declared.order.Phase.TheVariants.{Rest, Given, Opened, Returned, Cleared}
use Rattle.rules.specs.declared.signals.BlockSignal.{BlockSignal}
use Rattle.rules.specs.declared.signals.BlockSignal.TheVariants.{Closed, Open, Fallen}
use Rattle.trains.specs.declared.places.Place.{Place}
use Rattle.trains.specs.declared.places.Place.TheVariants.{Running, OnPedal}
use Rattle.turn.specs.declared.rows.Kind.{Kind}
use Rattle.turn.specs.declared.rows.Kind.TheVariants.{Giving, Opening, Leaving, Clearing, Unsealing}
use Rattle.turn.specs.declared.rows.RegisterRow.{RegisterRow}
use Rattle.turn.proofs.Trails.{Mark}
use Rattle.turn.proofs.Trips.{entry_row}

-- how the release before this one ended: with a train n, or by an unsealing; the numbers are the places of its rows
pub data Past : Type 0 where
  never : Past
  by_train : Direction → (giving opening n entry leaving clearing : ℕ) → Past
  by_seal : Direction → (giving opening unsealing : ℕ) → Past

-- what has become of an opened release
pub data Use : Type 0 where
  unused : Use
  running : (n entry : ℕ) → Use
  pressing : (n entry : ℕ) → Use
  gone : (n entry leaving : ℕ) → Use

-- the lever of the block signal, and whether the release is returned
pub data Lever : Type 0 where
  pulled put_back returned : Lever

pub data Way : Type 0 where
  rest : Past → Way
  given : Direction → (giving : ℕ) → Way
  held : Direction → Lever → Use → (giving opening : ℕ) → Way
  cleared : Direction → Past → Way

abbrev pub held_phase : Direction → Lever → Phase
held_phase d pulled = Opened d
held_phase d put_back = Opened d
held_phase d returned = Returned d

abbrev pub phase_of : Way → Phase
phase_of (rest p) = Rest
phase_of (given d g) = Given d
phase_of (held d l u g o) = held_phase d l
phase_of (cleared d p) = Cleared d

abbrev pub signal_of : Lever → Use → BlockSignal
signal_of pulled unused = Open
signal_of pulled (running n e) = Fallen
signal_of pulled (pressing n e) = Fallen
signal_of pulled (gone n e l) = Fallen
signal_of put_back u = Closed
signal_of returned u = Closed

abbrev pub block_of : Direction → Way → BlockSignal
block_of e (rest p) = Closed
block_of e (given d g) = Closed
block_of e (held d l u g o) = cond (same_direction d e) (signal_of l u) Closed
block_of e (cleared d p) = Closed

abbrev pub use_pedal : Use → Bool
use_pedal unused = false
use_pedal (running n e) = false
use_pedal (pressing n e) = false
use_pedal (gone n e l) = true

abbrev pub past_pedal : Past → Bool
past_pedal never = false
past_pedal (by_train d g o n e l c) = true
past_pedal (by_seal d g o u) = false

abbrev pub pedal_of : Way → Bool
pedal_of (rest p) = false
pedal_of (given d g) = false
pedal_of (held d l u g o) = use_pedal u
pedal_of (cleared d p) = past_pedal p

abbrev pub use_inside : ℕ → Direction → Use → ℕ → Option Place
use_inside k d unused n = None
use_inside k d (running m e) n = cond (eqb m n) (Some (Running k d)) None
use_inside k d (pressing m e) n = cond (eqb m n) (Some (OnPedal k d)) None
use_inside k d (gone m e l) n = None

-- where train n is, if it is inside section k
abbrev pub inside_of : ℕ → Way → ℕ → Option Place
inside_of k (rest p) n = None
inside_of k (given d g) n = None
inside_of k (held d l u g o) n = use_inside k d u n
inside_of k (cleared d p) n = None

-- whether the release still awaits a leaving or an unsealing
abbrev pub use_owed : Use → ℕ
use_owed unused = 1
use_owed (running n e) = 1
use_owed (pressing n e) = 1
use_owed (gone n e l) = 0

abbrev pub owed : Way → ℕ
owed (rest p) = 0
owed (given d g) = 1
owed (held d l u g o) = use_owed u
owed (cleared d p) = 0

-- the rows that bear on a release
module _ (k : ℕ) (d : Direction) where
  abbrev section_row : Kind → RegisterRow
  section_row kind = record { kind = kind; train = None; section = Some k; direction = Some d; post = None }

  abbrev pub giving_row : RegisterRow
  giving_row = section_row Giving

  abbrev pub opening_row : RegisterRow
  opening_row = section_row Opening

  abbrev pub clearing_row : RegisterRow
  clearing_row = section_row Clearing

  abbrev pub unsealing_row : RegisterRow
  unsealing_row = section_row Unsealing

  abbrev pub leaving_row : ℕ → RegisterRow
  leaving_row n = record { kind = Leaving; train = Some n; section = Some k; direction = Some d; post = None }

  abbrev pub opened_marks : ℕ → ℕ → List Mark
  opened_marks g o = (o, opening_row) ∷ (g, giving_row) ∷ []

  abbrev pub left_marks : ℕ → ℕ → ℕ → ℕ → ℕ → List Mark
  left_marks g o n e l = (l, leaving_row n) ∷ (e, entry_row n k d) ∷ opened_marks g o

  abbrev pub use_marks : Use → ℕ → ℕ → List Mark
  use_marks unused g o = opened_marks g o
  use_marks (running n e) g o = (e, entry_row n k d) ∷ opened_marks g o
  use_marks (pressing n e) g o = (e, entry_row n k d) ∷ opened_marks g o
  use_marks (gone n e l) g o = left_marks g o n e l

abbrev pub past_marks : ℕ → Past → List Mark
past_marks k never = []
past_marks k (by_train d g o n e l c) = (c, clearing_row k d) ∷ left_marks k d g o n e l
past_marks k (by_seal d g o u) = (u, unsealing_row k d) ∷ opened_marks k d g o

-- the section's trail
abbrev pub marks_of : ℕ → Way → List Mark
marks_of k (rest p) = past_marks k p
marks_of k (given d g) = (g, giving_row k d) ∷ []
marks_of k (held d l u g o) = use_marks k d u g o
marks_of k (cleared d p) = past_marks k p
