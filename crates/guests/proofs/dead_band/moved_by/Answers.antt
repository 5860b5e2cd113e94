-- The sum in 64 bits is the sum that the clause names.
use Rattle.std.proofs.Common.{◌≡◌, ◌+ℤ◌, ap, ◌∙◌, arith}
use Rattle.std.proofs.lemmas.Int.{ints}
use Rattle.signal.specs.Value.{value_near}
use Rattle.guests.proofs.dead_band.moved_by.Goals as goal

pub returns : goal.returns
returns c =
    let v = c.pulled_in.ensures in
    let e : v.0 ≡ c.args.out.raw +ℤ c.args.error = omega (arith, ints) in
    v.3 ∙ ap value_near e
