-- Gains: which numbers are one. Assumes nothing.
--     GainNumber z     z can be a gain: 0 to 10,000 thousandths
--     GainFrom z r     z is taken as it is, or refused since it is out of range
use Rattle.std.specs.Prelude.{◌≡◌, ℤ, pos, ◌≤ℤ◌, Ok, Err, Result}
use Rattle.law.specs.Fault.{law_fault_number}
use Rattle.law.specs.declared.fault.LawFault.{LawFault}
use Rattle.law.specs.declared.gain.Gain.{Gain}

abbrev pub GainNumber : ℤ → Type 0
GainNumber z = (pos 0 ≤ℤ z) × (z ≤ℤ pos 10000)

abbrev pub GainFrom : ℤ → Result Gain LawFault → Type 0
GainFrom z (Ok g) = (pos g.thousandths ≡ z) × GainNumber z
GainFrom z (Err e) = (law_fault_number e ≡ 11) × (GainNumber z → ⊥)
