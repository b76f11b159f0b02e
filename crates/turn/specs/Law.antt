-- The law of every turn: what holds after any calls, in any order, accepted and refused.
-- It speaks of the turn register's rows by their place in it, counted from 0, and of the line as it then stands.
use Rattle.std.specs.Prelude.{◌≡◌, ℕ, ◌+◌, ◌<◌, ◌≤◌, true, ◌⊎◌, List, [], ◌∷◌, ◌++◌, length, Some, None, Err, Option, ◌≢◌}
use Rattle.block.specs.Meaning.{phase_at}
use Rattle.block.specs.declared.order.Direction.{Direction}
use Rattle.block.specs.declared.order.Phase.{Phase}
use Rattle.block.specs.declared.order.Phase.TheVariants.{Rest, Opened, Returned}
use Rattle.rules.specs.State.{LineState, count, section_at}
use Rattle.trains.specs.Trains.{place_of, is_inside}
use Rattle.rules.specs.declared.calls.Call.{Call}
use Rattle.trains.specs.declared.places.Place.TheVariants.{AtPost}
use Rattle.turn.specs.Alike.{Alike}
use Rattle.turn.specs.Rows.{row_of, tally}
use Rattle.turn.specs.Telling.{Told, ToldFor, ToldOf, seal_rows, inside_at}
use Rattle.turn.specs.Turn.{TurnState, new_turn, turn_refusal, turn_answer, step, run}
use Rattle.turn.specs.declared.refusals.TurnRefusal.{TurnRefusal}
use Rattle.turn.specs.declared.rows.Kind.TheVariants.{Giving, Opening, Entry, Leaving, Clearing, Unsealing}
use Rattle.turn.specs.declared.rows.RegisterRow.{RegisterRow}

-- APART

-- A train is inside a section from an entry of its there until its next leaving.
pub record Inside (rows : List RegisterRow) (train section : ℕ) : Type 0 where
  pub entry : ℕ
  pub entered : ToldOf rows entry Entry train (Some section)
  pub not_left : (later : ℕ) (there : Option ℕ) → entry < later → ToldOf rows later Leaving train there → ⊥

-- A train in a section runs under a release for its own direction.
pub record Released (rows : List RegisterRow) (phases : List Phase) (train section : ℕ) (own : Direction) : Type 0 where
  -- of the rows of the section, the newest giving is one for the train's direction
  pub giving : ℕ
  pub given : ToldFor rows giving Giving section own
  pub newest_giving : (later : ℕ) → giving < later → Told rows later Giving section → ⊥
  -- exactly one opening follows it
  pub opening : ℕ
  pub opened : Told rows opening Opening section
  pub opened_after : giving < opening
  pub opened_once : (later : ℕ) → giving < later → Told rows later Opening section → later ≡ opening
  -- no clearing and no unsealing follow it
  pub not_cleared : (later : ℕ) → giving < later → Told rows later Clearing section → ⊥
  pub not_unsealed : (later : ℕ) → giving < later → Told rows later Unsealing section → ⊥
  -- the opening stands before the train's newest entry, which is one into this section, in the train's direction
  pub entry : ℕ
  pub entered : ToldOf rows entry Entry train (Some section)
  pub entered_for : ToldFor rows entry Entry section own
  pub newest_entry : (later : ℕ) (there : Option ℕ) → entry < later → ToldOf rows later Entry train there → ⊥
  pub in_order : opening < entry
  -- the instrument's phase is opened or returned in that direction
  pub phase : (phase_at phases section ≡ Opened own) ⊎ (phase_at phases section ≡ Returned own)

pub record Apart (t : TurnState) : Type 0 where
  -- no section holds two trains
  pub one_train : (m n k : ℕ) → Inside t.register.rows m k → Inside t.register.rows n k → m ≡ n
  -- each train inside runs under a release for its own direction
  pub released : (n k : ℕ) → Inside t.register.rows n k → (own : Direction) × Released t.register.rows t.line.phases n k own
  -- the register and the train records agree on who is inside
  pub recorded : (n k : ℕ) → Inside t.register.rows n k → is_inside k (place_of n t.line.trains) ≡ true
  pub registered : (n k : ℕ) → is_inside k (place_of n t.line.trains) ≡ true → Inside t.register.rows n k

-- BOOKS

-- A release awaits a train while the section's newest giving has neither a leaving nor an unsealing after it.
pub record Awaits (rows : List RegisterRow) (section : ℕ) : Type 0 where
  pub giving : ℕ
  pub given : Told rows giving Giving section
  pub newest_giving : (later : ℕ) → giving < later → Told rows later Giving section → ⊥
  pub not_left : (later : ℕ) → giving < later → Told rows later Leaving section → ⊥
  pub not_unsealed : (later : ℕ) → giving < later → Told rows later Unsealing section → ⊥

-- For a section, givings equal leavings plus unsealings, plus one while a release awaits either.
pub record Account (rows : List RegisterRow) (section : ℕ) : Type 0 where
  pub awaiting : Awaits rows section → tally Giving section rows ≡ tally Leaving section rows + tally Unsealing section rows + 1
  pub settled : (Awaits rows section → ⊥) → tally Giving section rows ≡ tally Leaving section rows + tally Unsealing section rows

-- the row that a call makes: one where it is accepted, none where it is refused
abbrev pub row_where : Option TurnRefusal → RegisterRow → List RegisterRow
row_where None r = r ∷ []
row_where (Some e) r = []

-- one row for each accepted call of a list, in order, with that call's values
abbrev pub rows_of : TurnState → List Call → List RegisterRow
rows_of t [] = []
rows_of t (c ∷ cs) = row_where (turn_refusal t c) (row_of t.line c) ++ rows_of (step t c) cs

pub record Books (start : TurnState) (calls : List Call) : Type 0 where
  -- the register has exactly the rows of the accepted calls
  pub register : (run start calls).register.rows ≡ start.register.rows ++ rows_of start calls
  -- for each section, givings equal leavings plus unsealings, plus one while a release awaits either
  pub account : (k : ℕ) → Account (run start calls).register.rows k
  -- the seal book has exactly one row for each unsealing in the register, in that order
  pub seals : (run start calls).seals.rows ≡ seal_rows 0 (run start calls).register.rows

-- REST

-- none of the calls is refused
abbrev pub Accepted : TurnState → List Call → Type 0
Accepted t [] = Unit {0}
Accepted t (c ∷ cs) = (turn_refusal t c ≡ None) × Accepted (step t c) cs

-- A section stands as it did: phase, four signals and pedal mark, and the trains inside it, each running or on its pedal.
pub record Unmoved (before after : LineState) (section : ℕ) : Type 0 where
  pub phase : phase_at after.phases section ≡ phase_at before.phases section
  pub signals : section_at after.sections section ≡ section_at before.sections section
  pub trains : (n : ℕ) → inside_at section (place_of n after.trains) ≡ inside_at section (place_of n before.trains)

-- A section can be brought to rest, and nothing else is touched.
pub record Brought (t : TurnState) (section : ℕ) : Type 0 where
  pub calls : List Call
  pub at_most_eight : length calls ≤ 8
  pub accepted : Accepted t calls
  pub at_rest : phase_at (run t calls).line.phases section ≡ Rest
  pub empty : (n : ℕ) → Inside (run t calls).register.rows n section → ⊥
  pub others : (k : ℕ) → (k ≢ section) → Unmoved t.line (run t calls).line k
  pub posts : (n p : ℕ) → place_of n t.line.trains ≡ Some (AtPost p) → place_of n (run t calls).line.trains ≡ Some (AtPost p)

-- THE LAW

-- after these calls, on a turn that begins so
pub record TurnLaw (start : TurnState) (calls : List Call) : Type 0 where
  pub apart : Apart (run start calls)
  pub books : Books start calls
  pub rest : (k : ℕ) → k < count (run start calls).line
      → length (run start calls).register.rows + 8 ≤ (run start calls).register.room
      → length (run start calls).seals.rows + 1 ≤ (run start calls).seals.room
      → Brought (run start calls) k

-- for every number of sections from 1 to 16, every size of the two books, and every list of calls, refused ones among them
abbrev pub EveryTurn : Type 0
EveryTurn = (sections rows seals : ℕ) → 1 ≤ sections → sections ≤ 16 → (calls : List Call) → TurnLaw (new_turn sections rows seals) calls

-- a refused call leaves the whole turn as it was
abbrev pub RefusalsKeep : Type 0
RefusalsKeep = (t : TurnState) (c : Call) (e : TurnRefusal) → turn_answer t c ≡ Err e → step t c ≡ t

-- no answer and no effect depends on which record holds a train
abbrev pub RecordsAlike : Type 0
RecordsAlike = (t u : TurnState) → Alike t u → (c : Call) → (turn_answer t c ≡ turn_answer u c) × Alike (step t c) (step u c)

abbrev pub Law : Type 0
Law = EveryTurn × RefusalsKeep × RecordsAlike
