-- A number divided by 1,000 and rounded down, below zero too. Assumes nothing.
--     Floored t q r      t is 1,000 times q and r over, with r from 0 to 999
--     OneQuotient        there is only one such q and r
--     whole_of t         that q: 0 at 999, -1 at -1
--     rest_of t          that r: 999 at 999 and at -1
use Rattle.std.specs.Prelude.{◌≡◌, ℕ, ◌-◌, ◌/◌, ◌%◌, ◌≤◌, ℤ, pos, negsuc, ◌+ℤ◌, ◌*ℤ◌}

pub record Floored (t q : ℤ) (r : ℕ) : Type 0 where
  pub parts : t ≡ pos 1000 *ℤ q +ℤ pos r
  pub small : r ≤ 999

abbrev pub OneQuotient : Type 0
OneQuotient = (t q q' : ℤ) (r r' : ℕ) → Floored t q r → Floored t q' r' → (q ≡ q') × (r ≡ r')

abbrev pub whole_of : ℤ → ℤ
whole_of (pos n) = pos (n / 1000)
whole_of (negsuc n) = negsuc (n / 1000)

abbrev pub rest_of : ℤ → ℕ
rest_of (pos n) = n % 1000
rest_of (negsuc n) = 999 - n % 1000
