-- Worked cases of the two ends, over the definitions that their contracts cite. Assumes nothing.
--     Worked    all of them, one named field for each
use Rattle.std.specs.Prelude.{◌≡◌, false, pos, ◌+ℤ◌}
use Rattle.signal.specs.declared.kinds.Value.{Value}
use Rattle.signal.specs.declared.mode.Mode.TheVariants.{Lo, Auto, Cas}
use Rattle.signal.specs.declared.status.Signal.{Signal}
use Rattle.block.specs.Alone.{alone_model}
use Rattle.block.specs.Shown.{shown_status}
use Rattle.ends.specs.Analog.{analog_own}
use Rattle.ends.specs.Pulse.{pulse_own}
use Rattle.ends.specs.declared.analog.Analog.{Analog}
use Rattle.ends.specs.declared.pulse.Pulse.{Pulse}

-- a value on E0, which tells an end to go to its fault state
abbrev pub told : Value → Signal
told v = record { value = v; status = record { 0 = 0xE0 } }

abbrev pub faulted : Analog → Value → Analog
faulted a v = analog_own.rounded a (told v)

-- in Cas and meant to be, with nothing in the way
pub record InCas (a : Analog) : Type 0 where
  pub target : a.block.target ≡ Cas
  pub actual : a.block.actual ≡ Cas
  pub off : a.block.switch ≡ false

-- told to run in Auto, with nothing in the way
pub record InAuto (p : Pulse) : Type 0 where
  pub target : p.block.target ≡ Auto
  pub off : p.block.switch ≡ false

pub record ThirdFaults (a : Analog) (u v w : Value) : Type 0 where
  pub first : (faulted a u).block.actual ≡ Cas
  pub second : (faulted (faulted a u) v).block.actual ≡ Cas
  pub third : (faulted (faulted (faulted a u) v) w).block.actual ≡ Lo
  pub shows : shown_status (faulted (faulted (faulted a u) v) w).block ≡ 0xDC

pub record Worked : Type 0 where
  -- N
  pub analog_settles_in_2 : (a : Analog) → (alone_model analog_own).settling a ≡ 2
  pub pulse_settles_in_3 : (p : Pulse) → (alone_model pulse_own).settling p ≡ 3
  -- a fault time of 3: still in Cas after one and two rounds on E0, in LO and showing DC after three
  pub fault_time_3 : (a : Analog) (u v w : Value) → analog_own.kept a → InCas a → a.fault_time.number ≡ 3 → a.count ≡ 0 → ThirdFaults a u v w
  -- a travel of 100: a setpoint 99 above the position lets it rest, one 100 above raises it by 100
  pub rests_at_99 : (p : Pulse) (c : Signal) → pulse_own.kept p → InAuto p → p.travel.number ≡ 100
      → p.block.at.sp.raw ≡ p.block.at.out.raw +ℤ pos 99 → (pulse_own.rounded p c).block.at.out ≡ p.block.at.out
  pub raises_at_100 : (p : Pulse) (c : Signal) → pulse_own.kept p → InAuto p → p.travel.number ≡ 100
      → p.block.at.sp.raw ≡ p.block.at.out.raw +ℤ pos 100 → (pulse_own.rounded p c).block.at.out.raw ≡ p.block.at.out.raw +ℤ pos 100
