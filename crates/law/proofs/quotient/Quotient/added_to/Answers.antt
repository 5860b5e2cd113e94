use Rattle.std.proofs.Common.{◌≡◌, ◌+ℤ◌, ap, ◌∙◌, arith}
use Rattle.std.proofs.lemmas.Int.{ints}
use Rattle.signal.specs.Value.{in_range}
use Rattle.signal.proofs.Same.{same_value}
use Rattle.law.proofs.Saturated.{saturated_same}
use Rattle.law.proofs.quotient.Quotient.added_to.Goals as goal

pub returns : goal.returns
returns c =
    let v = c.pulled_in.ensures in
    let e : v.0 ≡ c.saturating_add.result = omega (arith, ints) in
    v.3
    ∙ same_value _ _ (ap in_range e ∙ saturated_same _ _ (c.args.out.raw +ℤ c.args.self.whole) c.saturating_add.ensures (omega (arith, ints)))
