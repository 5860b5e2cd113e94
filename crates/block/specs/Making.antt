-- Making a block: permitted and option bytes, the fresh state, and an end's faults. Assumes nothing.
--     fresh_block st input hides    a block as made: out of service, SP and OUT as near to 0 as their limits let them
--     not_connected                 the input that a control block is made with; an end is made with none
--     ProperAround a b z      a and b are limits, and z lies inside them
--     BoundedFrom a b z x     x holds those limits and that value
--     PermittedFrom b r       r is what the byte b permits, or b is the byte of no permitted modes
--     OptionsFrom b r         r are the options of the byte b, or b is the byte of no options
use Rattle.std.specs.Prelude.{◌≡◌, ℕ, ◌+◌, ◌/◌, ◌%◌, Bool, true, false, cond, ◌&&◌, ℤ, pos, ◌≤ℤ◌, Some, None, Ok, Err, Option, Result, ◌==◌, ◌≢◌, nat_lt}
use Rattle.signal.specs.Limits.{pulled, ProperLimits}
use Rattle.signal.specs.Mode.{mode_byte}
use Rattle.signal.specs.Value.{value_near}
use Rattle.signal.specs.declared.kinds.Value.{Value}
use Rattle.signal.specs.declared.mode.LoCause.TheVariants.{Switch}
use Rattle.signal.specs.declared.mode.Mode.TheVariants.{OutOfService, Man, Auto, Cas}
use Rattle.signal.specs.declared.status.Signal.{Signal}
use Rattle.block.specs.declared.fault.EndFault.{EndFault}
use Rattle.block.specs.declared.fault.EndFault.TheVariants.{BadLimits, BadPermitted, BadAction, BadTime}
use Rattle.block.specs.declared.fault.OptionsFault.{OptionsFault}
use Rattle.block.specs.declared.fault.PermittedFault.{PermittedFault}
use Rattle.block.specs.declared.kinds.Block.{Block}
use Rattle.block.specs.declared.kinds.Bounded.{Bounded}
use Rattle.block.specs.declared.kinds.Options.{Options}
use Rattle.block.specs.declared.kinds.Permitted.{Permitted}
use Rattle.block.specs.declared.kinds.Settings.{Settings}

abbrev pub end_fault_number : EndFault → ℕ
end_fault_number BadLimits = 12
end_fault_number BadPermitted = 13
end_fault_number BadAction = 14
end_fault_number BadTime = 15

abbrev pub ProperAround : ℤ → ℤ → ℤ → Type 0
ProperAround a b z = ProperLimits a b × (a ≤ℤ z) × (z ≤ℤ b)

pub record BoundedFrom (a b z : ℤ) (x : Bounded) : Type 0 where
  pub good : ProperAround a b z
  pub low : x.limits.low.raw ≡ a
  pub high : x.limits.high.raw ≡ b
  pub value : x.value.raw ≡ z

-- O/S, Man and Auto, and Cas where it is permitted
abbrev pub permitted_byte : Permitted → ℕ
permitted_byte p = mode_byte OutOfService + mode_byte Man + mode_byte Auto + cond p.cas (mode_byte Cas) 0

abbrev pub options_byte : Options → ℕ
options_byte o = cond o.fault_on_bad_input 0x01 0 + cond o.track_pv 0x04 0 + cond o.uncertain_usable 0x08 0

abbrev pub PermittedFrom : ℕ → Result Permitted PermittedFault → Type 0
PermittedFrom b (Ok p) = b ≡ permitted_byte p
PermittedFrom b (Err f) = (p : Permitted) → b ≢ permitted_byte p

abbrev pub OptionsFrom : ℕ → Result Options OptionsFault → Type 0
OptionsFrom b (Ok o) = b ≡ options_byte o
OptionsFrom b (Err f) = (o : Options) → b ≢ options_byte o

-- the same two as functions
abbrev pub permitted_of : ℕ → Option Permitted
permitted_of b = cond (b == 0x98) (Some (record { cas = false })) (cond (b == 0x9C) (Some (record { cas = true })) None)

abbrev pub options_of : ℕ → Option Options
options_of b =
    cond (nat_lt b 16 && b / 2 % 2 == 0)
    (Some (record { fault_on_bad_input = (b % 2 == 1); track_pv = (b / 4 % 2 == 1); uncertain_usable = (b / 8 % 2 == 1) })) None

abbrev pub zero_value : Value
zero_value = value_near (pos 0)

abbrev pub not_connected : Signal
not_connected = record { value = zero_value; status = record { 0 = 0x08 } }

abbrev pub fresh_block : Settings → Option Signal → Bool → Block
fresh_block st input hides = record { settings = st; target = OutOfService; actual = OutOfService; cause = Switch; switch = false; input = input; at = record { sp = pulled st.sp_limits zero_value; pv = zero_value; out = pulled st.out_limits zero_value }; hides_request = hides }
