use Rattle.std.proofs.Common.{◌*◌, ◌≤◌, ℤ, unsigned_abs, sym, subst, arith}
use Rattle.std.proofs.lemmas.Grind.{common_steps}
use Rattle.law.proofs.Scaled.{scaled_bound}
use Rattle.law.proofs.gain.Gain.times.Goals as goal

pub returns-clause-value : goal.returns-clause-value
returns-clause-value c = grind (arith, common_steps)

pub returns-clause-bound : goal.returns-clause-bound
returns-clause-bound c =
    subst (λ (z : ℤ). unsigned_abs z ≤ 65536 * unsigned_abs c.args.number) (sym (returns-clause-value c))
    (scaled_bound c.args.self.thousandths c.args.number (omega arith))
