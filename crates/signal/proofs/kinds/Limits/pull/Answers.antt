use Rattle.std.proofs.Common.{rules}
use Rattle.signal.proofs.Nearest.{one_nearest}
use Rattle.signal.proofs.Same.{is_pulled}
use Rattle.signal.proofs.kinds.Limits.pull.Goals as goal

pub returns-clause-value : goal.returns-clause-value
returns-clause-value c = is_pulled c.args.self c.args.v _ (search rules)

pub returns-clause-only : goal.returns-clause-only
returns-clause-only c = one_nearest
