-- Bit maps and their bits: each law is one test that is computed at every bit map. Assumes nothing.
use Rattle.std.proofs.Common.{◌≡◌, ℕ, zero, suc, ◌+◌, ◌%◌, ◌<◌, Bool, true, false, cond, not, ◌&&◌, eqb, ltb, sym, refl}
use Rattle.std.proofs.lemmas.Bool.{eqb-true, ltb-true, and_parts, not-true}
use Rattle.std.proofs.lemmas.Bool.Decides.{Decides-below_and, Decides-eqb}
use Rattle.sheet.specs.Bytes.{map_of, stands, promised_length}

-- the bit map of the bits of a byte
abbrev rebuilt : ℕ → ℕ
rebuilt b = map_of (stands 0 b) (stands 1 b) (stands 2 b) (stands 3 b) (stands 4 b) (stands 5 b) (stands 6 b)

-- two functions of a byte agree at each byte below n
abbrev agree : (ℕ → ℕ) → (ℕ → ℕ) → ℕ → Bool
agree f g zero = true
agree f g (suc n) = eqb (f n) (g n) && agree f g n

agree_at : (f g : ℕ → ℕ) → agree f g 256 ≡ true → (b : ℕ) → b < 256 → f b ≡ g b
agree_at f g t =
    (Decides-below_and (λ n. eqb (f n) (g n)) (λ n. f n ≡ g n) (agree f g) (λ n. Decides-eqb (f n) (g n)) refl (λ _. refl) 256).0 t

pub map_from_bits : (b t s i p o r : Bool) (m : ℕ) → m < 256 → b ≡ stands 0 m → t ≡ stands 1 m → s ≡ stands 2 m → i ≡ stands 3 m
    → p ≡ stands 4 m → o ≡ stands 5 m → r ≡ stands 6 m → map_of b t s i p o r ≡ m % 128
map_from_bits b t s i p o r m h e0 e1 e2 e3 e4 e5 e6 = rw (e0, e1, e2, e3, e4, e5, e6) (agree_at rebuilt (λ n. n % 128) refl m h)

-- bit 7 promises no field
pub promised_length_seven : (m : ℕ) → m < 256 → promised_length (m % 128) ≡ promised_length m
promised_length_seven m h = agree_at (λ n. promised_length (n % 128)) promised_length refl m h

abbrev both : (Bool → Bool) → Bool
both f = f true && f false

both_at : (f : Bool → Bool) → both f ≡ true → (b : Bool) → f b ≡ true
both_at f t true = (and_parts (f true) (f false) t).0
both_at f t false = (and_parts (f true) (f false) t).1

-- a test of the seven bits
abbrev pub Bits : Type 0
Bits = Bool → Bool → Bool → Bool → Bool → Bool → Bool → Bool

abbrev pub all_bits : Bits → Bool
all_bits f = both (λ b. both (λ t. both (λ s. both (λ i. both (λ p. both (λ o. both (λ r. f b t s i p o r)))))))

all_bits_at : (f : Bits) → all_bits f ≡ true → (b t s i p o r : Bool) → f b t s i p o r ≡ true
all_bits_at f e b t s i p o r =
    let e₁ = both_at (λ b. both (λ t. both (λ s. both (λ i. both (λ p. both (λ o. both (λ r. f b t s i p o r))))))) e b in
    let e₂ = both_at (λ t. both (λ s. both (λ i. both (λ p. both (λ o. both (λ r. f b t s i p o r)))))) e₁ t in
    let e₃ = both_at (λ s. both (λ i. both (λ p. both (λ o. both (λ r. f b t s i p o r))))) e₂ s in
    let e₄ = both_at (λ i. both (λ p. both (λ o. both (λ r. f b t s i p o r)))) e₃ i in
    let e₅ = both_at (λ p. both (λ o. both (λ r. f b t s i p o r))) e₄ p in
    let e₆ = both_at (λ o. both (λ r. f b t s i p o r)) e₅ o in
    both_at (λ r. f b t s i p o r) e₆ r

abbrev pub same : Bool → Bool → Bool
same true b = b
same false b = not b

same_true : (a b : Bool) → same a b ≡ true → a ≡ b
same_true true b e = sym e
same_true false b e = sym (not-true b e)

-- each bit of a map is the one that it was made of
pub stands_map : (k : ℕ) (f : Bits) → all_bits (λ b t s i p o r. same (stands k (map_of b t s i p o r)) (f b t s i p o r)) ≡ true
    → (b t s i p o r : Bool) → stands k (map_of b t s i p o r) ≡ f b t s i p o r
stands_map k f e b t s i p o r = same_true _ _ (all_bits_at (λ b t s i p o r. same (stands k (map_of b t s i p o r)) (f b t s i p o r)) e b t s i p o r)

-- how many bytes the fields take that are there
abbrev pub sizes : Bool → Bool → Bool → Bool → Bool → Bool → ℕ
sizes b t s i p o = cond b 1 0 + cond t 1 0 + cond s 1 0 + cond i 5 0 + cond p 4 0 + cond o 4 0

pub promised_length_map : (b t s i p o r : Bool) → promised_length (map_of b t s i p o r) ≡ sizes b t s i p o
promised_length_map b t s i p o r = eqb-true _ _ (all_bits_at (λ b t s i p o r. eqb (promised_length (map_of b t s i p o r)) (sizes b t s i p o)) refl b t s i p o r)

pub map_small : (b t s i p o r : Bool) → map_of b t s i p o r < 128
map_small b t s i p o r = ltb-true _ _ (all_bits_at (λ b t s i p o r. ltb (map_of b t s i p o r) 128) refl b t s i p o r)
