use Rattle.std.proofs.Common.{arith}
use Rattle.std.proofs.lemmas.Int.{ints}
use Rattle.control.proofs.kinds.ControlSetup.limits.Goals as goal

pub returns : goal.returns
returns c =
    let s = c.in_ok-sp_limits.ensures in
    let o = c.in_ok-out.ensures in
    let good = o.good in
    let low = o.low in
    let high = o.high in
    let value = o.value in (
      record { of_sp = omega (arith, ints); of_out = omega (arith, ints) },
      record { sp_low_is = omega (arith, ints); sp_high_is = omega (arith, ints); out_low_is = omega (arith, ints); out_high_is = omega (arith, ints) },
      omega (arith, ints),
    )
