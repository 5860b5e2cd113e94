-- Two records, or two lists of records, never have the same bytes. Assumes nothing.
use Rattle.std.proofs.Common.{◌≡◌, ℕ, ◌/◌, ◌%◌, ◌<◌, ◌≤◌, Bool, true, ◌⊎◌, List, [], ◌∷◌, ◌++◌, length, ℤ, is_some, IfSome, Some, None, Option, sym, refl, ap, ◌∙◌, subst, inl, inr, arith, w32, SFits, to_z, of_z}
use mir.Facts.{Fits-of_z}
use Rattle.std.specs.List.{AllByRecursion}
use Rattle.std.proofs.lemmas.List.{append_assoc, length-append}
use Rattle.std.proofs.lemmas.Int.{to_z-of_z}
use Rattle.std.proofs.lemmas.Bool.{false≢true, true≢false}
use Rattle.sheet.specs.declared.record.Record.{Record}
use Rattle.sheet.specs.Bytes.{field, number_bytes, input_bytes, fields, map_of, bit_map, record_bytes, sheet_bytes, stands, promised_length, Sound}
use Rattle.sheet.proofs.Maps.{Bits, all_bits, same, stands_map, map_small}
use Rattle.sheet.proofs.Places.{length_fields}

-- what is at the front and what follows it are told apart
abbrev Front : {X : Type 0} → (X → List ℕ) → (X → Type 0) → Type 0
Front {X} bytes Fit = (x y : X) (s t : List ℕ) → Fit x → Fit y → bytes x ++ s ≡ bytes y ++ t → (x ≡ y) × (s ≡ t)

field_front : {X : Type 0} (bytes : X → List ℕ) (Fit : X → Type 0) → Front bytes Fit
    → (o q : Option X) (s t : List ℕ) → IfSome o Fit → IfSome q Fit → is_some o ≡ is_some q → field bytes o ++ s ≡ field bytes q ++ t → (o ≡ q) × (s ≡ t)
field_front bytes Fit front None None s t _ _ _ e = (refl, e)
field_front bytes Fit front None (Some y) s t _ _ h e = absurd (false≢true h)
field_front bytes Fit front (Some x) None s t _ _ h e = absurd (true≢false h)
field_front bytes Fit front (Some x) (Some y) s t f g _ e = let b = front x y s t f g e in (ap Some b.0, b.1)

byte_front : Front {X = ℕ} (λ b. b ∷ []) (λ _. Unit {0})
byte_front x y s t _ _ e = (cc, cc)

same_number : (x y : ℤ) → SFits w32 x → SFits w32 y → of_z w32 x / 16777216 % 256 ≡ of_z w32 y / 16777216 % 256 → of_z w32 x / 65536 % 256 ≡ of_z w32 y / 65536 % 256
    → of_z w32 x / 256 % 256 ≡ of_z w32 y / 256 % 256 → of_z w32 x % 256 ≡ of_z w32 y % 256 → x ≡ y
same_number x y f g a b c d =
    let m : of_z w32 x < 4294967296 = (Fits-of_z f).fits in
    let n : of_z w32 y < 4294967296 = (Fits-of_z g).fits in
    let e : of_z w32 x ≡ of_z w32 y = omega arith in
    sym (to_z-of_z w32 x f) ∙ ap (to_z w32) e ∙ to_z-of_z w32 y g

number_front : Front number_bytes (SFits w32)
number_front x y s t f g e = (same_number x y f g (cc) (cc) (cc) (cc), cc)

input_front : Front input_bytes (λ i. SFits w32 i.value)
input_front x y s t f g e =
    let n = number_front x.value y.value (x.status.0 ∷ s) (y.status.0 ∷ t) f g e in
    let b = byte_front x.status.0 y.status.0 s t tt tt n.1 in (
      ap (λ v. record { value = v; status = x.status }) n.0 ∙ ap (λ w. record { value = y.value; status = record { 0 = w } }) b.0,
      b.1,
    )

cases_unit : {X : Type 0} (o : Option X) → IfSome o (λ _. Unit {0})
cases_unit None = tt
cases_unit (Some x) = tt

same_record : (x y : Record) → x.block ≡ y.block → x.target ≡ y.target → x.switch ≡ y.switch → x.input ≡ y.input → x.setpoint ≡ y.setpoint
    → x.output ≡ y.output → x.round ≡ y.round → x ≡ y
same_record x y b t s i p o r =
    let e : ◌≡◌ {A = Record} (record { block = x.block; target = x.target; switch = x.switch; input = x.input; setpoint = x.setpoint; output = x.output; round = x.round }) (record { block = y.block; target = y.target; switch = y.switch; input = y.input; setpoint = y.setpoint; output = y.output; round = y.round }) = cc in e

-- a function of the bits, at those of a record
abbrev of_bits : (Bool → Bool → Bool → Bool → Bool → Bool → Bool → Bool) → Record → Bool
of_bits f r = f (is_some r.block) (is_some r.target) (is_some r.switch) (is_some r.input) (is_some r.setpoint) (is_some r.output) r.round

bit_of : (k : ℕ) (f : Bits) → all_bits (λ b t s i p o r. same (stands k (map_of b t s i p o r)) (f b t s i p o r)) ≡ true → (r : Record) → stands k (bit_map r) ≡ of_bits f r
bit_of k f e r = stands_map k f e (is_some r.block) (is_some r.target) (is_some r.switch) (is_some r.input) (is_some r.setpoint) (is_some r.output) r.round

pub record_front : (x y : Record) (s t : List ℕ) → Sound x → Sound y → record_bytes x ++ s ≡ record_bytes y ++ t → (x ≡ y) × (s ≡ t)
record_front x y s t f g e =
    let m : bit_map x ≡ bit_map y = cc in
    let u : fields x ++ s ≡ fields y ++ t = cc in
    let h₀ = sym (bit_of 0 (λ b t s i p o r. b) refl x) ∙ ap (stands 0) m ∙ bit_of 0 (λ b t s i p o r. b) refl y in
    let h₁ = sym (bit_of 1 (λ b t s i p o r. t) refl x) ∙ ap (stands 1) m ∙ bit_of 1 (λ b t s i p o r. t) refl y in
    let h₂ = sym (bit_of 2 (λ b t s i p o r. s) refl x) ∙ ap (stands 2) m ∙ bit_of 2 (λ b t s i p o r. s) refl y in
    let h₃ = sym (bit_of 3 (λ b t s i p o r. i) refl x) ∙ ap (stands 3) m ∙ bit_of 3 (λ b t s i p o r. i) refl y in
    let h₄ = sym (bit_of 4 (λ b t s i p o r. p) refl x) ∙ ap (stands 4) m ∙ bit_of 4 (λ b t s i p o r. p) refl y in
    let h₅ = sym (bit_of 5 (λ b t s i p o r. o) refl x) ∙ ap (stands 5) m ∙ bit_of 5 (λ b t s i p o r. o) refl y in
    let h₆ = sym (bit_of 6 (λ b t s i p o r. r) refl x) ∙ ap (stands 6) m ∙ bit_of 6 (λ b t s i p o r. r) refl y in
    let a₀ = field_front (λ b. b ∷ []) (λ _. Unit {0}) byte_front x.block y.block _ _ (cases_unit x.block) (cases_unit y.block) h₀ (simp append_assoc at u) in
    let a₁ = field_front (λ b. b ∷ []) (λ _. Unit {0}) byte_front x.target y.target _ _ (cases_unit x.target) (cases_unit y.target) h₁ a₀.1 in
    let a₂ = field_front (λ b. b ∷ []) (λ _. Unit {0}) byte_front x.switch y.switch _ _ (cases_unit x.switch) (cases_unit y.switch) h₂ a₁.1 in
    let a₃ = field_front input_bytes (λ i. SFits w32 i.value) input_front x.input y.input _ _ f.0 g.0 h₃ a₂.1 in
    let a₄ = field_front number_bytes (SFits w32) number_front x.setpoint y.setpoint _ _ f.1 g.1 h₄ a₃.1 in
    let a₅ = field_front number_bytes (SFits w32) number_front x.output y.output _ _ f.2 g.2 h₅ a₄.1 in
    (same_record x y a₀.0 a₁.0 a₂.0 a₃.0 a₄.0 a₅.0 h₆, a₅.1)

-- what cannot begin with a record
abbrev pub Stuck : List ℕ → Type 0
Stuck [] = Unit {0}
Stuck (b ∷ more) = (length more < promised_length b) ⊎ (128 ≤ b)

pub not_stuck : (r : Record) (s : List ℕ) → Stuck (record_bytes r ++ s) → ⊥
not_stuck r s (inl h) = let l = length-append (fields r) s in omega (arith, length_fields r)
not_stuck r s (inr h) = omega (arith, map_small (is_some r.block) (is_some r.target) (is_some r.switch) (is_some r.input) (is_some r.setpoint) (is_some r.output) r.round)

pub sheet_front : (rs qs : List Record) (s t : List ℕ) → AllByRecursion Sound rs → AllByRecursion Sound qs → Stuck s → Stuck t → sheet_bytes rs ++ s ≡ sheet_bytes qs ++ t → (rs ≡ qs) × (s ≡ t)
sheet_front [] [] s t _ _ _ _ e = (refl, e)
sheet_front [] (q ∷ qs) s t _ _ h k e = absurd (not_stuck q (sheet_bytes qs ++ t) (subst Stuck (e ∙ append_assoc (record_bytes q) (sheet_bytes qs) t) h))
sheet_front (r ∷ rs) [] s t _ _ h k e = absurd (not_stuck r (sheet_bytes rs ++ s) (subst Stuck (sym e ∙ append_assoc (record_bytes r) (sheet_bytes rs) s) k))
sheet_front (r ∷ rs) (q ∷ qs) s t f g h k e =
    let a = record_front r q (sheet_bytes rs ++ s) (sheet_bytes qs ++ t) f.0 g.0 (sym (append_assoc (record_bytes r) (sheet_bytes rs) s) ∙ e ∙ append_assoc (record_bytes q) (sheet_bytes qs) t) in
    let b = sheet_front rs qs s t f.1 g.1 h k a.1 in
    (cc, b.1)
