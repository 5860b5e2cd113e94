-- A law with a dead band. Assumes nothing.
--     dead_band_model    each step adds the error to the output, unless the error lies inside the band
use Rattle.std.specs.Prelude.{cond, ◌+ℤ◌, ◌-ℤ◌, nat_lt, unsigned_abs}
use Rattle.law.specs.Law.{LawModel}
use Rattle.signal.specs.Value.{value_near}
use Rattle.signal.specs.declared.kinds.OperatingPoint.{OperatingPoint}
use Rattle.signal.specs.declared.kinds.Value.{Value}
use Rattle.guests.specs.declared.dead_band.DeadBand.{DeadBand}

abbrev pub dead_band_answer : DeadBand → OperatingPoint → Value
dead_band_answer s p =
    cond (nat_lt s.band (unsigned_abs (p.sp.raw -ℤ p.pv.raw))) (value_near (p.out.raw +ℤ (p.sp.raw -ℤ p.pv.raw))) p.out

abbrev pub dead_band_model : LawModel DeadBand
dead_band_model = record { started = λ s p. s; stepped = λ s p. s; answer = dead_band_answer }
