-- What the line keeps.
use Rattle.std.specs.Prelude.{ℕ, Bool, true, false, List, length, replicate, None, slice_index_or}
use Rattle.block.specs.declared.order.Direction.{Direction}
use Rattle.block.specs.declared.order.Direction.TheVariants.{Up, Down}
use Rattle.block.specs.declared.order.Phase.{Phase}
use Rattle.block.specs.declared.order.Phase.TheVariants.{Rest}
use Rattle.rules.specs.declared.signals.BlockSignal.{BlockSignal}
use Rattle.rules.specs.declared.signals.BlockSignal.TheVariants.{Closed, Open, Fallen}
use Rattle.rules.specs.declared.signals.Condition.{Condition}
use Rattle.rules.specs.declared.signals.Condition.TheVariants.{Sound}
use Rattle.rules.specs.declared.signals.HomeSignal.{HomeSignal}
use Rattle.rules.specs.declared.signals.HomeSignal.TheVariants.{Shut, Open as HomeOpen}
use Rattle.rules.specs.declared.signals.SectionState.{SectionState}
use Rattle.rules.specs.declared.signals.Signals.{Signals}
use Rattle.trains.specs.declared.places.TrainRecord.{TrainRecord}

pub record LineState : Type 0 where
  pub condition : Condition
  -- one for each section of the instrument
  pub phases : List Phase
  pub sections : List SectionState
  pub trains : List TrainRecord

-- the number of sections
abbrev pub count : LineState → ℕ
count s = length s.phases

abbrev pub signals : Direction → SectionState → Signals
signals Up x = x.up
signals Down x = x.down

abbrev pub block_signal : Direction → SectionState → BlockSignal
block_signal d x = (signals d x).block

abbrev pub home_signal : Direction → SectionState → HomeSignal
home_signal d x = (signals d x).home

abbrev pub with_signals : Direction → Signals → SectionState → SectionState
with_signals Up g x = record { up = g; down = x.down; pedal = x.pedal }
with_signals Down g x = record { up = x.up; down = g; pedal = x.pedal }

abbrev pub with_block : Direction → BlockSignal → SectionState → SectionState
with_block d b x = with_signals d (record { block = b; home = home_signal d x }) x

abbrev pub with_home : Direction → HomeSignal → SectionState → SectionState
with_home d h x = with_signals d (record { block = block_signal d x; home = h }) x

abbrev pub with_pedal : Bool → SectionState → SectionState
with_pedal m x = record { up = x.up; down = x.down; pedal = m }

-- signals at danger, no pedal mark
abbrev pub danger : Signals
danger = record { block = Closed; home = Shut }

abbrev pub idle : SectionState
idle = record { up = danger; down = danger; pedal = false }

abbrev pub section_at : List SectionState → ℕ → SectionState
section_at xs k = slice_index_or xs k idle

-- a new line over n sections at rest
abbrev pub new_line : ℕ → LineState
new_line n = record {
  condition = Sound;
  phases = replicate n Rest;
  sections = replicate 16 idle;
  trains = replicate 64 (record { train = None });
}

abbrev pub is_closed : BlockSignal → Bool
is_closed Closed = true
is_closed Open = false
is_closed Fallen = false

abbrev pub is_open : BlockSignal → Bool
is_open Closed = false
is_open Open = true
is_open Fallen = false

abbrev pub home_is_open : HomeSignal → Bool
home_is_open Shut = false
home_is_open HomeOpen = true
