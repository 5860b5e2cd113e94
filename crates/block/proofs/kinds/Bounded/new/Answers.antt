-- What is made holds the three numbers as given.
use Rattle.std.proofs.Common.{arith}
use Rattle.std.proofs.lemmas.Int.{ints}
use Rattle.block.proofs.kinds.Bounded.new.Goals as goal

pub returns : goal.returns
returns c =
    let l = c.in_ok-limits.ensures in
    let v = c.in_ok-value.ensures.0 in
    record { good = omega (arith, ints); low = omega (arith, ints); high = omega (arith, ints); value = omega (arith, ints) }
