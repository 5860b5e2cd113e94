-- The numbers as given are those that the parts were made of.
use Rattle.std.proofs.Common.{true, false, refl, ap, is_some, arith}
use Rattle.std.proofs.lemmas.Int.{ints}
use Rattle.ends.specs.Rounds.{fresh_kept}
use Rattle.ends.proofs.pulse.Pulse.new.Goals as goal

pub returns-clause-from : goal.returns-clause-from
returns-clause-from c =
    let l = c.in_ok-limits.ensures in
    let p = c.in_ok-permitted.ensures.1 in
    let t = c.in_ok-travel.ensures in
    rw (c.fresh.ensures, c.end_settings.ensures) (
      (omega (arith, ints), ap is_some p, omega (arith, ints)),
      record { fresh = refl; low_end = omega (arith, ints); high_end = omega (arith, ints); permits = p; travels = omega (arith, ints) },
    )

pub returns-clause-kept : goal.returns-clause-kept
returns-clause-kept c =
    rw (c.fresh.ensures, c.end_settings.ensures) (record { block = fresh_kept c.in_ok-limits.limits c.in_ok-permitted.permitted false true })
