-- What stands at the front of a byte string. Assumes nothing.
use Rattle.std.proofs.Common.{◌≡◌, ℕ, ◌+◌, ◌*◌, ◌/◌, ◌%◌, ◌<◌, List, [], ◌∷◌, ◌++◌, append_assoc, arith, w32, to_z, of_z}
use Rattle.std.proofs.lemmas.Int.{of_z-to_z}
use Rattle.sheet.specs.Bytes.{number_bytes}

-- four bytes are those of the number that they write
pub number_of_bytes : (a b c d : ℕ) → a < 256 → b < 256 → c < 256 → d < 256
    → number_bytes (to_z w32 (a * 16777216 + b * 65536 + c * 256 + d)) ≡ a ∷ b ∷ c ∷ d ∷ []
number_of_bytes a b c d ha hb hc hd =
    let n : ℕ = a * 16777216 + b * 65536 + c * 256 + d in
    let e : of_z w32 (to_z w32 n) ≡ n = of_z-to_z w32 n (omega arith) in
    let ea : n / 16777216 % 256 ≡ a = omega arith in
    let eb : n / 65536 % 256 ≡ b = omega arith in
    let ec : n / 256 % 256 ≡ c = omega arith in
    let ed : n % 256 ≡ d = omega arith in
    rw (e, ea, eb, ec, ed)

-- six parts, each at the front of what the one before it left
pub six_fronts : (a b c d e f xs r₁ r₂ r₃ r₄ r₅ r₆ : List ℕ) → xs ≡ a ++ r₁ → r₁ ≡ b ++ r₂ → r₂ ≡ c ++ r₃ → r₃ ≡ d ++ r₄ → r₄ ≡ e ++ r₅
    → r₅ ≡ f ++ r₆ → xs ≡ (a ++ (b ++ (c ++ (d ++ (e ++ f))))) ++ r₆
six_fronts a b c d e f xs r₁ r₂ r₃ r₄ r₅ r₆ p q r s t u = simp append_assoc (cc)
