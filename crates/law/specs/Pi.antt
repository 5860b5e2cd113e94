-- The PI law. Assumes nothing.
--     pi_model             what it does, over its numbers, the last error and the remainder
--     PiFrom p i a r       the numbers are taken as they are, or refused since one is out of range
--     FreshPi p i a s      s has these numbers, and keeps what a start at 0, 0 and 0 leaves
--     error_of a p         the error: setpoint less process value, or the reverse
--     sum_at s e           thousandths to add to the output at the error e: the gain P on the change of the error, the gain I
--                          on the error, and the remainder
--     pi_sum s p           the same at the error of the operating point p
use Rattle.std.specs.Prelude.{◌≡◌, ℕ, ◌≤◌, ℤ, pos, ◌+ℤ◌, ◌-ℤ◌, ◌*ℤ◌, Ok, Err, Result}
use Rattle.law.specs.Fault.{law_fault_number}
use Rattle.law.specs.Gain.{GainNumber}
use Rattle.law.specs.Law.{LawModel}
use Rattle.law.specs.Quotient.{whole_of, rest_of}
use Rattle.law.specs.declared.fault.LawFault.{LawFault}
use Rattle.law.specs.declared.pi.Action.{Action}
use Rattle.law.specs.declared.pi.Action.TheVariants.{Reverse, Direct}
use Rattle.law.specs.declared.pi.Pi.{Pi}
use Rattle.signal.specs.Value.{value_near}
use Rattle.signal.specs.declared.kinds.OperatingPoint.{OperatingPoint}
use Rattle.signal.specs.declared.kinds.Value.{Value}

abbrev pub error_of : Action → OperatingPoint → ℤ
error_of Reverse p = p.sp.raw -ℤ p.pv.raw
error_of Direct p = p.pv.raw -ℤ p.sp.raw

abbrev pub sum_at : Pi → ℤ → ℤ
sum_at s e = pos s.p.thousandths *ℤ (e -ℤ s.last_error) +ℤ pos s.i.thousandths *ℤ e +ℤ pos s.rest

abbrev pub pi_sum : Pi → OperatingPoint → ℤ
pi_sum s p = sum_at s (error_of s.action p)

-- the law with its numbers, and other keeps
abbrev pub pi_keeping : Pi → ℤ → ℕ → Pi
pi_keeping s e n = record { p = s.p; i = s.i; action = s.action; last_error = e; rest = n }

abbrev pub pi_started : Pi → OperatingPoint → Pi
pi_started s p = pi_keeping s (error_of s.action p) 0

abbrev pub pi_stepped : Pi → OperatingPoint → Pi
pi_stepped s p = pi_keeping s (error_of s.action p) (rest_of (pi_sum s p))

-- only the answer is pulled into the range of values
abbrev pub pi_answer : Pi → OperatingPoint → Value
pi_answer s p = value_near (p.out.raw +ℤ whole_of (pi_sum s p))

abbrev pub pi_model : LawModel Pi
pi_model = record { started = pi_started; stepped = pi_stepped; answer = pi_answer }

abbrev pub action_number : Action → ℕ
action_number Reverse = 0
action_number Direct = 1

abbrev pub ActionFrom : ℕ → Result Action LawFault → Type 0
ActionFrom n (Ok a) = action_number a ≡ n
ActionFrom n (Err e) = (law_fault_number e ≡ 11) × (n ≤ 1 → ⊥)

pub record FreshPi (p i : ℤ) (a : ℕ) (s : Pi) : Type 0 where
  pub p_is : pos s.p.thousandths ≡ p
  pub i_is : pos s.i.thousandths ≡ i
  pub action_is : action_number s.action ≡ a
  pub last_error_none : s.last_error ≡ pos 0
  pub rest_none : s.rest ≡ 0

abbrev pub PiNumbers : ℤ → ℤ → ℕ → Type 0
PiNumbers p i a = GainNumber p × GainNumber i × (a ≤ 1)

abbrev pub PiFrom : ℤ → ℤ → ℕ → Result Pi LawFault → Type 0
PiFrom p i a (Ok s) = FreshPi p i a s × PiNumbers p i a
PiFrom p i a (Err e) = (law_fault_number e ≡ 11) × (PiNumbers p i a → ⊥)
