-- Signals and pedal marks after one of them is changed.
use Rattle.std.proofs.Common.{◌≡◌, Bool, cond, refl}
use Rattle.block.specs.Order.{same_direction}
use Rattle.block.specs.declared.order.Direction.{Direction}
use Rattle.block.specs.declared.order.Direction.TheVariants.{Up, Down}
use Rattle.rules.specs.State.{block_signal, home_signal, with_block, with_home, with_pedal}
use Rattle.rules.specs.declared.signals.BlockSignal.{BlockSignal}
use Rattle.rules.specs.declared.signals.HomeSignal.{HomeSignal}
use Rattle.rules.specs.declared.signals.SectionState.{SectionState}

pub block_changed : (d e : Direction) (b : BlockSignal) (x : SectionState) → block_signal e (with_block d b x) ≡ cond (same_direction d e) b (block_signal e x)
block_changed Up Up b x = refl
block_changed Up Down b x = refl
block_changed Down Up b x = refl
block_changed Down Down b x = refl

pub block_beside_home : (d e : Direction) (h : HomeSignal) (x : SectionState) → block_signal e (with_home d h x) ≡ block_signal e x
block_beside_home Up Up h x = refl
block_beside_home Up Down h x = refl
block_beside_home Down Up h x = refl
block_beside_home Down Down h x = refl

pub block_beside_pedal : (e : Direction) (m : Bool) (x : SectionState) → block_signal e (with_pedal m x) ≡ block_signal e x
block_beside_pedal Up m x = refl
block_beside_pedal Down m x = refl

pub pedal_beside_block : (d : Direction) (b : BlockSignal) (x : SectionState) → (with_block d b x).pedal ≡ x.pedal
pedal_beside_block Up b x = refl
pedal_beside_block Down b x = refl

pub pedal_beside_home : (d : Direction) (h : HomeSignal) (x : SectionState) → (with_home d h x).pedal ≡ x.pedal
pedal_beside_home Up h x = refl
pedal_beside_home Down h x = refl

pub home_changed : (d : Direction) (h : HomeSignal) (x : SectionState) → home_signal d (with_home d h x) ≡ h
home_changed Up h x = refl
home_changed Down h x = refl

pub home_beside_block : (d e : Direction) (b : BlockSignal) (x : SectionState) → home_signal e (with_block d b x) ≡ home_signal e x
home_beside_block Up Up b x = refl
home_beside_block Up Down b x = refl
home_beside_block Down Up b x = refl
home_beside_block Down Down b x = refl
