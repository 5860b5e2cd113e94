-- Making the ends: the first fault in the order of the numbers, or the end as made, each number as given. Assumes nothing.
--     AnalogFrom su a         a is the analog end of the setup su as made
--     PulseFrom su p          p is the pulse end of the setup su as made
--     AnalogGood su           an analog end is made of su; PulseGood likewise
--     AnalogFault su f        it is refused for f, the fault of the lowest number; PulseFault likewise
--     fresh_analog l p time value action    an analog end as made; it takes an output
--     fresh_pulse l p travel                a pulse end as made; it takes none, and hides its request
--     end_settings l p out    the limits l for SP and for OUT, the permitted modes p, no input and no options
use Rattle.std.specs.Prelude.{◌≡◌, ℕ, Bool, true, false, cond, pos, is_some, Some, None, Option, ◌==◌}
use Rattle.signal.specs.Limits.{ProperLimits}
use Rattle.signal.specs.declared.kinds.Limits.{Limits}
use Rattle.signal.specs.declared.kinds.Value.{Value}
use Rattle.block.specs.Making.{ProperAround, permitted_of, fresh_block}
use Rattle.block.specs.declared.fault.EndFault.{EndFault}
use Rattle.block.specs.declared.fault.EndFault.TheVariants.{BadLimits, BadPermitted, BadAction, BadTime}
use Rattle.block.specs.declared.kinds.Options.{Options}
use Rattle.block.specs.declared.kinds.Permitted.{Permitted}
use Rattle.block.specs.declared.kinds.Settings.{Settings}
use Rattle.ends.specs.Thousand.{GoodTime}
use Rattle.ends.specs.declared.analog.Analog.{Analog}
use Rattle.ends.specs.declared.analog.AnalogSetup.{AnalogSetup}
use Rattle.ends.specs.declared.analog.FaultAction.{FaultAction}
use Rattle.ends.specs.declared.analog.FaultAction.TheVariants.{Hold, Value as SetValue}
use Rattle.ends.specs.declared.pulse.Pulse.{Pulse}
use Rattle.ends.specs.declared.pulse.PulseSetup.{PulseSetup}
use Rattle.ends.specs.declared.thousand.Thousand.{Thousand}

abbrev pub action_of : ℕ → Option FaultAction
action_of n = cond (n == 0) (Some Hold) (cond (n == 1) (Some SetValue) None)

abbrev pub GoodEndPermitted : ℕ → Type 0
GoodEndPermitted b = is_some (permitted_of b) ≡ true

abbrev pub GoodAction : ℕ → Type 0
GoodAction b = is_some (action_of b) ≡ true

-- limits with the fault value inside them
abbrev pub GoodEndLimits : AnalogSetup → Type 0
GoodEndLimits su = ProperAround su.low su.high su.fault_value

abbrev pub AnalogGood : AnalogSetup → Type 0
AnalogGood su = GoodEndLimits su × GoodEndPermitted su.permitted × GoodAction su.fault_action × GoodTime su.fault_time

-- this fault stands, and none of a lower number
abbrev pub AnalogFault : AnalogSetup → EndFault → Type 0
AnalogFault su BadLimits = GoodEndLimits su → ⊥
AnalogFault su BadPermitted = GoodEndLimits su × (GoodEndPermitted su.permitted → ⊥)
AnalogFault su BadAction = GoodEndLimits su × GoodEndPermitted su.permitted × (GoodAction su.fault_action → ⊥)
AnalogFault su BadTime =
    GoodEndLimits su × GoodEndPermitted su.permitted × GoodAction su.fault_action × (GoodTime su.fault_time → ⊥)

abbrev pub PulseGood : PulseSetup → Type 0
PulseGood su = ProperLimits su.low su.high × GoodEndPermitted su.permitted × GoodTime su.travel

abbrev pub PulseFault : PulseSetup → EndFault → Type 0
PulseFault su BadLimits = ProperLimits su.low su.high → ⊥
PulseFault su BadPermitted = ProperLimits su.low su.high × (GoodEndPermitted su.permitted → ⊥)
PulseFault su BadAction = ⊥
PulseFault su BadTime = ProperLimits su.low su.high × GoodEndPermitted su.permitted × (GoodTime su.travel → ⊥)

abbrev pub no_options : Options
no_options = record { fault_on_bad_input = false; track_pv = false; uncertain_usable = false }

abbrev pub end_settings : Limits → Permitted → Bool → Settings
end_settings l p out = record { sp_limits = l; out_limits = l; permitted = p; options = no_options; takes_output = out }

abbrev pub fresh_analog : Limits → Permitted → Thousand → Value → FaultAction → Analog
fresh_analog l p time value action = record { block = fresh_block (end_settings l p true) None false; fault_time = time; fault_value = value; fault_action = action; count = 0 }

abbrev pub fresh_pulse : Limits → Permitted → Thousand → Pulse
fresh_pulse l p travel = record { block = fresh_block (end_settings l p false) None true; travel = travel }

-- fresh, with one pair of limits, and every number and byte as given
pub record AnalogFrom (su : AnalogSetup) (a : Analog) : Type 0 where
  pub fresh : a ≡ fresh_analog a.block.settings.sp_limits a.block.settings.permitted a.fault_time a.fault_value a.fault_action
  pub low_end : a.block.settings.sp_limits.low.raw ≡ su.low
  pub high_end : a.block.settings.sp_limits.high.raw ≡ su.high
  pub permits : permitted_of su.permitted ≡ Some a.block.settings.permitted
  pub time : pos a.fault_time.number ≡ su.fault_time
  pub value : a.fault_value.raw ≡ su.fault_value
  pub action : action_of su.fault_action ≡ Some a.fault_action

pub record PulseFrom (su : PulseSetup) (p : Pulse) : Type 0 where
  pub fresh : p ≡ fresh_pulse p.block.settings.sp_limits p.block.settings.permitted p.travel
  pub low_end : p.block.settings.sp_limits.low.raw ≡ su.low
  pub high_end : p.block.settings.sp_limits.high.raw ≡ su.high
  pub permits : permitted_of su.permitted ≡ Some p.block.settings.permitted
  pub travels : pos p.travel.number ≡ su.travel
