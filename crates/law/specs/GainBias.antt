-- The gain and bias law. Assumes nothing.
--     gain_bias_model       what it does, over its gain and its bias
--     GainBiasFrom z r      the gain is taken as it is, or refused since it is out of range
--     FreshGainBias z s     s has this gain, and the bias that a start at 0, 0 and 0 sets
--     gained_by s sp        the setpoint times the gain, rounded down
use Rattle.std.specs.Prelude.{◌≡◌, ℤ, pos, ◌+ℤ◌, ◌-ℤ◌, ◌*ℤ◌, Ok, Err, Result}
use Rattle.law.specs.Fault.{law_fault_number}
use Rattle.law.specs.Gain.{GainNumber}
use Rattle.law.specs.Law.{LawModel}
use Rattle.law.specs.Quotient.{whole_of}
use Rattle.law.specs.declared.fault.LawFault.{LawFault}
use Rattle.law.specs.declared.gain_bias.GainBias.{GainBias}
use Rattle.signal.specs.Value.{value_near}
use Rattle.signal.specs.declared.kinds.OperatingPoint.{OperatingPoint}
use Rattle.signal.specs.declared.kinds.Value.{Value}

abbrev pub gained_by : GainBias → Value → ℤ
gained_by s sp = whole_of (pos s.gain.thousandths *ℤ sp.raw)

-- the bias is not pulled into the range of values, the answer is
abbrev pub gain_bias_started : GainBias → OperatingPoint → GainBias
gain_bias_started s p = record { gain = s.gain; bias = p.out.raw -ℤ gained_by s p.sp }

abbrev pub gain_bias_answer : GainBias → OperatingPoint → Value
gain_bias_answer s p = value_near (gained_by s p.sp +ℤ s.bias)

abbrev pub gain_bias_model : LawModel GainBias
gain_bias_model = record { started = gain_bias_started; stepped = λ s p. s; answer = gain_bias_answer }

pub record FreshGainBias (z : ℤ) (s : GainBias) : Type 0 where
  pub gain_is : pos s.gain.thousandths ≡ z
  pub bias_none : s.bias ≡ pos 0

abbrev pub GainBiasFrom : ℤ → Result GainBias LawFault → Type 0
GainBiasFrom z (Ok s) = FreshGainBias z s × GainNumber z
GainBiasFrom z (Err e) = (law_fault_number e ≡ 11) × (GainNumber z → ⊥)
