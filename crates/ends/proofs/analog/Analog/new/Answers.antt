-- The numbers as given are those that the parts were made of.
use Rattle.std.proofs.Common.{true, false, refl, ap, is_some, arith}
use Rattle.std.proofs.lemmas.Int.{ints}
use Rattle.ends.specs.Rounds.{fresh_kept}
use Rattle.ends.proofs.analog.Analog.new.Goals as goal

pub returns-clause-from : goal.returns-clause-from
returns-clause-from c =
    let b = c.in_ok-bounded.ensures in
    let p = c.in_ok-permitted.ensures.1 in
    let a = c.in_ok-fault_action.ensures in
    let t = c.in_ok-fault_time.ensures in
    rw (c.fresh.ensures, c.end_settings.ensures) (
      (b.good, ap is_some p, ap is_some a, omega (arith, ints)),
      record { fresh = refl; low_end = b.low; high_end = b.high; permits = p; time = omega (arith, ints); value = b.value; action = a },
    )

pub returns-clause-kept : goal.returns-clause-kept
returns-clause-kept c =
    rw (c.fresh.ensures, c.end_settings.ensures) (record {
      block = fresh_kept c.in_ok-bounded.bounded.limits c.in_ok-permitted.permitted true false;
      value_inside = c.in_ok-bounded.bounded.inside;
      shows_request = refl;
    })
