-- Limits: which two numbers are limits, and the value nearest to another inside them. Assumes nothing.
--     pulled l v          the value inside the limits l that is nearest to v
--     Inside l v          v lies inside the limits l, its ends included
--     ProperLimits a b    a and b are values' numbers, and a is not above b
--     LimitsFrom a b r    the two are taken as they are, or refused since they are no limits
use Rattle.std.specs.Prelude.{◌≡◌, ℕ, cond, ℤ, ◌≤ℤ◌, Ok, Err, Result, int_lt}
use Rattle.signal.specs.Value.{WithinRange}
use Rattle.signal.specs.declared.kinds.Value.{Value}
use Rattle.signal.specs.declared.kinds.Limits.{Limits}
use Rattle.signal.specs.declared.limits.LimitsFault.{LimitsFault}
use Rattle.signal.specs.declared.limits.LimitsFault.TheVariants.{BadLimits}

abbrev pub pulled : Limits → Value → Value
pulled l v = cond (int_lt v.raw l.low.raw) l.low (cond (int_lt l.high.raw v.raw) l.high v)

abbrev pub Inside : Limits → Value → Type 0
Inside l v = (l.low.raw ≤ℤ v.raw) × (v.raw ≤ℤ l.high.raw)

abbrev pub ProperLimits : ℤ → ℤ → Type 0
ProperLimits a b = WithinRange a × WithinRange b × (a ≤ℤ b)

abbrev pub limits_fault_number : LimitsFault → ℕ
limits_fault_number BadLimits = 12

abbrev pub LimitsFrom : ℤ → ℤ → Result Limits LimitsFault → Type 0
LimitsFrom a b (Ok l) = (l.low.raw ≡ a) × (l.high.raw ≡ b) × ProperLimits a b
LimitsFrom a b (Err e) = (limits_fault_number e ≡ 12) × (ProperLimits a b → ⊥)
