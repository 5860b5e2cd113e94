-- The analog end: OUT follows the setpoint, and goes to the fault state after so many faulty rounds. Assumes nothing.
--     analog_rounded a c    a after a round on the signal c from above
--     AnalogKept a          what holds of every analog end as made, and of whatever came of it since
--     analog_own            all that is an analog end's own
--     brings_fault s        the status s counts as a fault: E0, or a Bad quality
--     analog_count a s      the faulty rounds in a row, with this one on the status s, up to the fault time; 0 off target Cas
--     analog_faulty a s     that count is at the fault time: the fault line fits
--     analog_out a m aim    OUT after a round that brings the mode m, with the setpoint `aim`
use Rattle.std.specs.Prelude.{◌≡◌, ℕ, ◌+◌, Bool, true, false, cond, not, ◌&&◌, ◌||◌, ◌==◌, nat_lt}
use Rattle.signal.specs.Limits.{Inside}
use Rattle.signal.specs.Status.{same_code, quality_of}
use Rattle.signal.specs.declared.kinds.Value.{Value}
use Rattle.signal.specs.declared.mode.Mode.{Mode}
use Rattle.signal.specs.declared.mode.Mode.TheVariants.{OutOfService, IMan, Lo, Man, Auto, Cas}
use Rattle.signal.specs.declared.status.Quality.{Quality}
use Rattle.signal.specs.declared.status.Quality.TheVariants.{Bad, Uncertain, Good, GoodCascade}
use Rattle.signal.specs.declared.status.Signal.{Signal}
use Rattle.block.specs.Alone.{Own}
use Rattle.block.specs.Modes.{is_cas}
use Rattle.block.specs.declared.kinds.Block.{Block}
use Rattle.ends.specs.Round.{end_aim, end_mode, rounded_block, KeptBlock}
use Rattle.ends.specs.declared.analog.Analog.{Analog}
use Rattle.ends.specs.declared.analog.FaultAction.{FaultAction}
use Rattle.ends.specs.declared.analog.FaultAction.TheVariants.{Hold, Value as SetValue}

abbrev pub is_bad : Quality → Bool
is_bad Bad = true
is_bad Uncertain = false
is_bad Good = false
is_bad GoodCascade = false

abbrev pub brings_fault : ℕ → Bool
brings_fault s = same_code s 0xE0 || is_bad (quality_of s)

abbrev pub analog_count : Analog → ℕ → ℕ
analog_count a s =
    cond (is_cas a.block.target && brings_fault s) (cond (nat_lt a.count a.fault_time.number) (a.count + 1) a.fault_time.number) 0

abbrev pub analog_faulty : Analog → ℕ → Bool
analog_faulty a s = analog_count a s == a.fault_time.number

abbrev pub sets_value : FaultAction → Bool
sets_value Hold = false
sets_value SetValue = true

-- LO by fault is LO with the switch off
abbrev pub analog_out : Analog → Mode → Value → Value
analog_out a OutOfService aim = a.block.at.out
analog_out a IMan aim = a.block.at.out
analog_out a Lo aim = cond (not a.block.switch && sets_value a.fault_action) a.fault_value a.block.at.out
analog_out a Man aim = a.block.at.out
analog_out a Auto aim = aim
analog_out a Cas aim = aim

abbrev pub analog_with : Analog → Block → Analog
analog_with a b = record { block = b; fault_time = a.fault_time; fault_value = a.fault_value; fault_action = a.fault_action; count = a.count }

abbrev pub analog_mode : Analog → Signal → Mode
analog_mode a c = end_mode a.block (analog_faulty a c.status.0) c

abbrev pub analog_aim : Analog → Signal → Value
analog_aim a c = end_aim a.block (analog_faulty a c.status.0) c

abbrev pub analog_after : Analog → Signal → Block
analog_after a c =
    rounded_block a.block (analog_faulty a c.status.0) c (analog_out a (analog_mode a c) (analog_aim a c)) false

abbrev pub analog_rounded : Analog → Signal → Analog
analog_rounded a c = record { block = analog_after a c; fault_time = a.fault_time; fault_value = a.fault_value; fault_action = a.fault_action; count = analog_count a c.status.0 }

pub record AnalogKept (a : Analog) : Type 0 where
  pub block : KeptBlock a.block
  pub value_inside : Inside a.block.settings.sp_limits a.fault_value
  pub shows_request : a.block.hides_request ≡ false

-- one round from Auto to Cas, two from any other mode
abbrev pub analog_away : Mode → Bool → ℕ
analog_away OutOfService hides = 2
analog_away IMan hides = 2
analog_away Lo hides = 2
analog_away Man hides = 2
analog_away Auto hides = 1
analog_away Cas hides = 0

abbrev pub analog_own : Own Analog
analog_own = record {
  the_block = λ a. a.block;
  with_block = analog_with;
  number = 2;
  away = analog_away;
  rounded = analog_rounded;
  kept = AnalogKept;
}
