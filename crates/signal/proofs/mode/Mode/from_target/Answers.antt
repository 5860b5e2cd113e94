use Rattle.std.proofs.Common.{rules}
use Rattle.signal.proofs.Targets.{target_from}
use Rattle.signal.proofs.mode.Mode.from_target.Goals as goal

pub returns-clause-value : goal.returns-clause-value
returns-clause-value c = search rules

pub returns-clause-from : goal.returns-clause-from
returns-clause-from c = target_from _ _ (returns-clause-value c)
