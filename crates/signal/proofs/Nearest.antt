-- Only one number from low to high is nearest to v; `nearest_to` is it. Assumes nothing.
use Rattle.std.proofs.Common.{◌≡◌, ◌⊎◌, ℤ, ◌≤ℤ◌, inl, inr, arith}
use Rattle.std.proofs.lemmas.Int.{ints}
use Rattle.signal.specs.Nearest.{Nearest, OneNearest, nearest_to}

between_both : (v r s : ℤ)
    → ((v ≤ℤ r) × (r ≤ℤ s)) ⊎ ((s ≤ℤ r) × (r ≤ℤ v))
    → ((v ≤ℤ s) × (s ≤ℤ r)) ⊎ ((r ≤ℤ s) × (s ≤ℤ v))
    → r ≡ s
between_both v r s (inl a) (inl b) = omega (arith, ints)
between_both v r s (inl a) (inr b) = omega (arith, ints)
between_both v r s (inr a) (inl b) = omega (arith, ints)
between_both v r s (inr a) (inr b) = omega (arith, ints)

pub one_nearest : OneNearest
one_nearest low high v r s p q =
    between_both v r s (p.between s q.inside.0 q.inside.1) (q.between r p.inside.0 p.inside.1)

side : (low high z x : ℤ) → low ≤ℤ x → x ≤ℤ high
    → ((z ≤ℤ nearest_to low high z) × (nearest_to low high z ≤ℤ x)) ⊎ ((x ≤ℤ nearest_to low high z) × (nearest_to low high z ≤ℤ z))
side low high z x p q = grind (arith, ints)

pub nearest_to_is : (low high z : ℤ) → low ≤ℤ high → Nearest low high z (nearest_to low high z)
nearest_to_is low high z o = record {
  inside = (grind (arith, ints), grind (arith, ints));
  itself = λ p q. grind (arith, ints);
  between = side low high z;
}
