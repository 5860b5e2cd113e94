-- Worked cases of both laws, each of every law as it was just made. Assumes nothing.
--     Worked    all of them. PI laws are started at 0, 0 and 0
use Rattle.std.specs.Prelude.{◌≡◌, ℕ, ℤ, pos, negsuc}
use Rattle.law.specs.GainBias.{FreshGainBias, gain_bias_model}
use Rattle.law.specs.Pi.{FreshPi, pi_model}
use Rattle.law.specs.declared.gain_bias.GainBias.{GainBias}
use Rattle.law.specs.declared.pi.Pi.{Pi}
use Rattle.signal.specs.Value.{value_near}
use Rattle.signal.specs.declared.kinds.OperatingPoint.{OperatingPoint}
use Rattle.signal.specs.declared.kinds.Value.{Value}

abbrev pub zero_value : Value
zero_value = value_near (pos 0)

-- setpoint z, with process value and output at 0
abbrev pub at_setpoint : ℤ → OperatingPoint
at_setpoint z = record { sp = value_near z; pv = zero_value; out = zero_value }

abbrev pub pi_from_zero : Pi → Pi
pi_from_zero s = pi_model.started s (at_setpoint (pos 0))

-- after a step from there with setpoint z, and what it answers
abbrev pub pi_once : Pi → ℤ → Pi
pi_once s z = pi_model.stepped (pi_from_zero s) (at_setpoint z)

abbrev pub pi_first : Pi → ℤ → ℤ
pi_first s z = (pi_model.answer (pi_from_zero s) (at_setpoint z)).raw

-- the answer to a second step, again with setpoint z
abbrev pub pi_second : Pi → ℤ → ℤ
pi_second s z = (pi_model.answer (pi_once s z) (at_setpoint z)).raw

pub record Worked : Type 0 where
  -- a law that was just made is as one started at 0, 0 and 0
  pub pi_fresh_started : (s : Pi) (p i : ℤ) (a : ℕ) → FreshPi p i a s → pi_from_zero s ≡ s
  pub gain_bias_fresh_started : (s : GainBias) (g : ℤ) → FreshGainBias g s → gain_bias_model.started s (at_setpoint (pos 0)) ≡ s
  -- both gains on an error of 500: 500 and a tenth of it
  pub pi_both_gains : (s : Pi) → FreshPi (pos 1000) (pos 100) 0 s → pi_first s (pos 500) ≡ pos 550
  -- half a thousandth twice: nothing, then one
  pub pi_two_halves : (s : Pi) → FreshPi (pos 0) (pos 1) 0 s → (pi_first s (pos 500) ≡ pos 0) × (pi_second s (pos 500) ≡ pos 1)
  -- rounded down, and not toward zero
  pub pi_below_zero : (s : Pi) → FreshPi (pos 0) (pos 1) 0 s → (pi_first s (negsuc 0) ≡ negsuc 0) × ((pi_once s (negsuc 0)).rest ≡ 999)
  -- the other action turns the error round
  pub pi_turned : (s : Pi) → FreshPi (pos 0) (pos 1) 1 s → (pi_first s (pos 1) ≡ negsuc 0) × ((pi_once s (pos 1)).rest ≡ 999)
  -- 150 at the start, so the bias is -110; then 151
  pub gain_bias_moves : (s : GainBias) (pv out : Value) → FreshGainBias (pos 1500) s
      → (gain_bias_model.answer (gain_bias_model.started s (record { sp = value_near (pos 100); pv = pv; out = value_near (pos 40) })) (record { sp = value_near (pos 101); pv = pv; out = out })).raw ≡ pos 41
