-- Making a control block: which numbers are refused, and what is made of the others. Assumes nothing.
--     AllGood n size             a control block of the numbers n over an end of that size is made
--     FirstFault n size f        it is refused for f, the fault of the lowest number
--     NewControl l e n law d r   made or refused exactly so, and what is made is kept if the end below is
--     MadeInOrder l e n a d r    the same where law and end may have been refused before: the law's fault, then the end's
--     MadeControl l n law d c    c is the control block of the numbers n, fresh, with its law started there, over the end d
use Rattle.std.specs.Prelude.{◌≡◌, ℕ, ◌<◌, ◌≤◌, true, false, is_some, Some, Ok, Err, Result}
use Rattle.block.specs.Making.{ProperAround, permitted_of, options_of, end_fault_number, not_connected, fresh_block}
use Rattle.block.specs.Meaning.{EndModel}
use Rattle.block.specs.declared.fault.EndFault.{EndFault}
use Rattle.block.specs.declared.kinds.Settings.{Settings}
use Rattle.law.specs.Fault.{law_fault_number}
use Rattle.law.specs.Law.{LawModel}
use Rattle.law.specs.declared.fault.LawFault.{LawFault}
use Rattle.signal.specs.Limits.{ProperLimits}
use Rattle.signal.specs.declared.kinds.Limits.{Limits}
use Rattle.control.specs.Control.{ControlKept}
use Rattle.control.specs.declared.fault.ControlFault.{ControlFault}
use Rattle.control.specs.declared.fault.ControlFault.TheVariants.{Law, End, BadLimits, BadPermitted, BadOptions, TooManyBlocks}
use Rattle.control.specs.declared.kinds.Control.{Control}
use Rattle.control.specs.declared.kinds.ControlSetup.{ControlSetup}

abbrev pub control_fault_number : ControlFault → ℕ
control_fault_number (Law f) = law_fault_number f
control_fault_number (End f) = end_fault_number f
control_fault_number BadLimits = 12
control_fault_number BadPermitted = 13
control_fault_number BadOptions = 14
control_fault_number TooManyBlocks = 17

-- both pairs are limits, and the track value lies inside the output limits
pub record GoodLimits (n : ControlSetup) : Type 0 where
  pub of_sp : ProperLimits n.sp_low n.sp_high
  pub of_out : ProperAround n.out_low n.out_high n.track_value

abbrev pub GoodPermitted : ControlSetup → Type 0
GoodPermitted n = is_some (permitted_of n.permitted) ≡ true

abbrev pub GoodOptions : ControlSetup → Type 0
GoodOptions n = is_some (options_of n.options) ≡ true

abbrev pub AllGood : ControlSetup → ℕ → Type 0
AllGood n size = GoodLimits n × GoodPermitted n × GoodOptions n × (size ≤ 15)

-- this fault stands, and none of a lower number; a law's or an end's fault is not found here
abbrev pub FirstFault : ControlSetup → ℕ → ControlFault → Type 0
FirstFault n size (Law f) = ⊥
FirstFault n size (End f) = ⊥
FirstFault n size BadLimits = GoodLimits n → ⊥
FirstFault n size BadPermitted = GoodLimits n × (GoodPermitted n → ⊥)
FirstFault n size BadOptions = GoodLimits n × GoodPermitted n × (GoodOptions n → ⊥)
FirstFault n size TooManyBlocks = GoodLimits n × GoodPermitted n × GoodOptions n × (15 < size)

pub record LimitsOf (n : ControlSetup) (sp out : Limits) : Type 0 where
  pub sp_low_is : sp.low.raw ≡ n.sp_low
  pub sp_high_is : sp.high.raw ≡ n.sp_high
  pub out_low_is : out.low.raw ≡ n.out_low
  pub out_high_is : out.high.raw ≡ n.out_high

-- the settings are those of the numbers; a control block takes an output
pub record SettingsOf (n : ControlSetup) (st : Settings) : Type 0 where
  pub limits : LimitsOf n st.sp_limits st.out_limits
  pub permitted : Some st.permitted ≡ permitted_of n.permitted
  pub options : Some st.options ≡ options_of n.options
  pub output : st.takes_output ≡ true

pub record MadeControl {L E : Type 0} (l : LawModel L) (n : ControlSetup) (law : L) (d : E) (c : Control L E) : Type 0 where
  pub settings : SettingsOf n c.block.settings
  pub fresh : c.block ≡ fresh_block c.block.settings (Some not_connected) false
  pub track : c.track_value.raw ≡ n.track_value
  pub started : c.law ≡ l.started law c.block.at
  pub over : c.lower ≡ d

module _ {L E : Type 0} (l : LawModel L) (e : EndModel E) where
  abbrev pub NewControl : ControlSetup → L → E → Result (Control L E) ControlFault → Type 0
  NewControl n law d (Ok c) = AllGood n (e.size d) × MadeControl l n law d c × (e.kept d → ControlKept l e c)
  NewControl n law d (Err f) = FirstFault n (e.size d) f

  -- a fault from below is carried whole
  abbrev pub MadeInOrder : ControlSetup → Result L LawFault → Result E EndFault → Result (Control L E) ControlFault → Type 0
  MadeInOrder n (Err f) d r = r ≡ Err (Law f)
  MadeInOrder n (Ok law) (Err f) r = r ≡ Err (End f)
  MadeInOrder n (Ok law) (Ok d) r = NewControl n law d r
