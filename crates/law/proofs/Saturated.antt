-- A sum that stops at the ends of 64 bits is as near to the range of values as the sum itself. Assumes nothing.
use Rattle.std.proofs.Common.{◌≡◌, ℤ, ap, ◌∙◌, w64, arith}
use Rattle.std.specs.Int.{saturate_signed}
use Rattle.std.proofs.lemmas.Int.{ints}
use Rattle.signal.specs.Value.{in_range}

saturated : (z : ℤ) → in_range (saturate_signed w64 z) ≡ in_range z
saturated z = grind (arith, ints)

pub saturated_same : (r a z : ℤ) → r ≡ saturate_signed w64 a → a ≡ z → in_range r ≡ in_range z
saturated_same r a z e h = ap in_range e ∙ saturated a ∙ ap in_range h
