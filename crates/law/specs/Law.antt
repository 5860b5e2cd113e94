-- What a control law means to the block that holds it. Assumes nothing.
--     LawMeaning m       the starting rule: started with setpoint and process value equal, a step right after, at the same
--                        three numbers, answers the output that it was started at
--     LawModel S         what a law does, over all that it is: its numbers and what it keeps, here one S.
--                        Nothing else fixes what comes next, and nothing is refused
use Rattle.std.specs.Prelude.{◌≡◌}
use Rattle.signal.specs.declared.kinds.OperatingPoint.{OperatingPoint}
use Rattle.signal.specs.declared.kinds.Value.{Value}

pub record LawModel (S : Type 0) : Type 0 where
  -- the law after a start at setpoint, process value and output
  pub started : S → OperatingPoint → S
  -- the law after a step with setpoint, process value and the last output, and what that step answers
  pub stepped : S → OperatingPoint → S
  pub answer : S → OperatingPoint → Value

pub record LawMeaning {S : Type 0} (m : LawModel S) : Type 0 where
  pub starting_rule : (s : S) (p : OperatingPoint) → p.sp ≡ p.pv → m.answer (m.started s p) p ≡ p.out
