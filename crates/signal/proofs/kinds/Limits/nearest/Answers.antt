use Rattle.std.proofs.Common.{sym, subst, arith}
use Rattle.std.proofs.lemmas.Int.{ints, clamps}
use Rattle.signal.specs.Nearest.{Nearest}
use Rattle.signal.proofs.Nearest.{nearest_to_is}
use Rattle.signal.proofs.kinds.Limits.nearest.Goals as goal

pub returns-clause-value : goal.returns-clause-value
returns-clause-value c = grind (arith, ints, clamps)

pub returns-clause-nearest : goal.returns-clause-nearest
returns-clause-nearest c =
    subst (Nearest c.args.self.low.raw c.args.self.high.raw c.args.raw) (sym (returns-clause-value c))
    (nearest_to_is c.args.self.low.raw c.args.self.high.raw c.args.raw c.args.self.ordered)
