-- A travel down is the number that the definition names.
use Rattle.std.proofs.Common.{◌≡◌, pos, ◌-ℤ◌, arith, rules}
use Rattle.std.proofs.lemmas.Int.{ints}
use Rattle.ends.proofs.pulse.stepped.Goals as goal

pub returns-then-raw-down : goal.returns-then-raw-down
returns-then-raw-down c =
    let down : c.off-down.result ≡ c.args.from.raw -ℤ pos c.args.travel.number = omega (arith, ints) in search rules
