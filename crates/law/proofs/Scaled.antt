-- A gain times a number: how far it goes, what it makes of a difference, and the sum of such products. Assumes nothing.
use Rattle.std.proofs.Common.{◌≡◌, ℕ, zero, suc, ◌*◌, ◌^◌, ◌<◌, ◌≤◌, ℤ, pos, ◌-ℤ◌, ◌*ℤ◌, mul-le-mul, unsigned_abs, w64, SFits, to_z, of_z, ◌+ℤ◌, ap, ◌∙◌, arith}
use Rattle.std.specs.Int.Signed.{mag}
use Rattle.std.proofs.Math.IntN.{zero-*ℤ, suc_ℤ-*ℤ}
use Rattle.std.proofs.lemmas.Int.{ints, unsigned_abs-mul}

pub scaled_bound : (g : ℕ) (z : ℤ) → g < 2 ^ 16 → unsigned_abs (pos g *ℤ z) ≤ 65536 * unsigned_abs z
scaled_bound g z h =
    let m : g * unsigned_abs z ≤ 65536 * unsigned_abs z = mul-le-mul {n₂ = 65536} {m₂ = unsigned_abs z} (omega arith) (omega arith) in
    omega (arith, unsigned_abs-mul (pos g) z)

pub scaled_difference : (g : ℕ) (a b : ℤ) → pos g *ℤ (a -ℤ b) ≡ pos g *ℤ a -ℤ pos g *ℤ b
scaled_difference zero a b = omega (arith, ints, zero-*ℤ (a -ℤ b), zero-*ℤ a, zero-*ℤ b)
scaled_difference (suc g) a b =
    omega (arith, ints, scaled_difference g a b, suc_ℤ-*ℤ (pos g) (a -ℤ b), suc_ℤ-*ℤ (pos g) a, suc_ℤ-*ℤ (pos g) b)

-- a law's sum, each part of it narrow enough
module _ (a b c : ℤ) (ha : mag a < 2 ^ 57) (hb : mag b < 2 ^ 57) (hc : mag c < 2 ^ 57) where
  pub parts_fit : SFits w64 (to_z w64 (of_z w64 (to_z w64 (of_z w64 a) -ℤ to_z w64 (of_z w64 b))) +ℤ to_z w64 (of_z w64 c))
  parts_fit = omega (arith, ints)

  pub sum_fits : (r : ℤ) → mag r < 2 ^ 16
      → SFits w64 (to_z w64 (of_z w64 (to_z w64 (of_z w64 (to_z w64 (of_z w64 a) -ℤ to_z w64 (of_z w64 b))) +ℤ to_z w64 (of_z w64 c))) +ℤ to_z w64 (of_z w64 r))
  sum_fits r h = omega (arith, ints)

  pub summed : (r : ℤ) → mag r < 2 ^ 16
      → to_z w64 (of_z w64 (to_z w64 (of_z w64 (to_z w64 (of_z w64 (to_z w64 (of_z w64 a) -ℤ to_z w64 (of_z w64 b))) +ℤ to_z w64 (of_z w64 c))) +ℤ to_z w64 (of_z w64 r)))
      ≡ a -ℤ b +ℤ c +ℤ r
  summed r h = omega (arith, ints)

pub scaled_same : (r z z' : ℤ) (g : ℕ) → r ≡ pos g *ℤ z → z ≡ z' → r ≡ pos g *ℤ z'
scaled_same r z z' g e h = e ∙ ap (λ (x : ℤ). pos g *ℤ x) h

-- the gain on a change, the other gain on what was reached, and a rest
pub sum_is : (p i n : ℕ) (e l a b c r : ℤ) → a ≡ pos p *ℤ e → b ≡ pos p *ℤ l → c ≡ pos i *ℤ e → r ≡ pos n
    → a -ℤ b +ℤ c +ℤ r ≡ pos p *ℤ (e -ℤ l) +ℤ pos i *ℤ e +ℤ pos n
sum_is p i n e l a b c r ha hb hc hr = omega (arith, ints, scaled_difference p e l)
