use Rattle.std.proofs.Common.{◌≡◌, ◌+ℤ◌, ap, ◌∙◌, arith}
use Rattle.std.proofs.lemmas.Int.{ints}
use Rattle.signal.specs.Value.{value_near}
use Rattle.law.specs.GainBias.{gained_by}
use Rattle.law.proofs.gain_bias.GainBias.answer.Goals as goal

pub returns : goal.returns
returns c =
    let v = c.pulled_in.ensures in
    let e : v.0 ≡ gained_by c.args.self.now c.args.sp +ℤ c.args.self.now.bias = omega (arith, ints) in
    v.3 ∙ ap value_near e
