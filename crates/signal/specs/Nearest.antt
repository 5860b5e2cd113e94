-- The number nearest to another between two ends. Assumes nothing.
--     Nearest low high v r     r is the number nearest to v from low to high
--     OneNearest               there is only one such number
--     nearest_to low high v    that number
use Rattle.std.specs.Prelude.{◌≡◌, cond, ◌⊎◌, ℤ, ◌≤ℤ◌, int_lt}

-- whichever x is picked inside, r stands between v and x: no number inside is nearer to v
pub record Nearest (low high v r : ℤ) : Type 0 where
  pub inside : (low ≤ℤ r) × (r ≤ℤ high)
  pub itself : low ≤ℤ v → v ≤ℤ high → r ≡ v
  pub between : (x : ℤ) → low ≤ℤ x → x ≤ℤ high → ((v ≤ℤ r) × (r ≤ℤ x)) ⊎ ((x ≤ℤ r) × (r ≤ℤ v))

abbrev pub OneNearest : Type 0
OneNearest = (low high v r s : ℤ) → Nearest low high v r → Nearest low high v s → r ≡ s

abbrev pub nearest_to : ℤ → ℤ → ℤ → ℤ
nearest_to low high v = cond (int_lt v low) low (cond (int_lt high v) high v)
