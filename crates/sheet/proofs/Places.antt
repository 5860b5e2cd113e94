-- What stands at a place of a byte string: a record, or a refusal. Assumes nothing.
use Rattle.std.proofs.Common.{◌≡◌, ℕ, ◌+◌, ◌-◌, ◌%◌, ◌<◌, ◌≤◌, cond, List, [], ◌∷◌, ◌++◌, length, get_or, take, drop, is_some, Some, None, Option, sym, refl, ap, ◌∙◌, arith}
use Rattle.std.proofs.lemmas.List.{drop-drop, drop_at, take_rest, length-append, length-drop}
use Rattle.std.proofs.lemmas.Slice.{first_rest}
use Rattle.sheet.specs.declared.record.Record.{Record}
use Rattle.sheet.specs.Bytes.{field, number_bytes, input_bytes, fields, bit_map, record_bytes, promised_length, Sound}
use Rattle.sheet.specs.OneWay.{NotTooLong, Seventh, RecordAt}
use Rattle.sheet.proofs.Maps.{sizes, promised_length_map, promised_length_seven}

length_field : {X : Type 0} (bytes : X → List ℕ) (n : ℕ) → ((x : X) → length (bytes x) ≡ n) → (o : Option X) → length (field bytes o) ≡ cond (is_some o) n 0
length_field bytes n h None = refl
length_field bytes n h (Some x) = h x

-- how many bytes a record's fields take
length_sum : (r : Record) → length (fields r) ≡ sizes (is_some r.block) (is_some r.target) (is_some r.switch) (is_some r.input) (is_some r.setpoint) (is_some r.output)
length_sum r =
    let b = length_field (λ x. x ∷ []) 1 (λ _. refl) r.block in
    let t = length_field (λ x. x ∷ []) 1 (λ _. refl) r.target in
    let s = length_field (λ x. x ∷ []) 1 (λ _. refl) r.switch in
    let i = length_field input_bytes 5 (λ _. refl) r.input in
    let p = length_field number_bytes 4 (λ _. refl) r.setpoint in
    let o = length_field number_bytes 4 (λ _. refl) r.output in
    simp length-append (omega arith)

-- as many as its bit map promises
pub length_fields : (r : Record) → length (fields r) ≡ promised_length (bit_map r)
length_fields r =
    length_sum r ∙ sym (promised_length_map (is_some r.block) (is_some r.target) (is_some r.switch) (is_some r.input) (is_some r.setpoint) (is_some r.output) r.round)

-- x is the rest of bs from p on: a bit map, and behind it the fields that it promises
module _ (bs x : List ℕ) (p : ℕ) (r : Record) (rest : List ℕ) (s : x ≡ take (length bs - p) (drop p bs)) (h : 1 ≤ length x)
    (m : bit_map r ≡ get_or x 0 0 % 128) (e : take (length x - 1) (drop 1 x) ≡ fields r ++ rest) where
  here : drop p bs ≡ get_or x 0 0 ∷ (fields r ++ rest)
  here = sym (take_rest bs p) ∙ sym s ∙ first_rest x 0 h ∙ ap (λ t. get_or x 0 0 ∷ t) e

  long : length bs ≡ p + length (record_bytes r) + length rest
  long = let a = length-drop p bs in let b = ap length here in let d = length-append (fields r) rest in omega arith

  pub seventh_here : get_or x 0 0 < 256 → 128 ≤ get_or x 0 0 → Seventh (drop p bs)
  seventh_here w g =
      let f : promised_length (get_or x 0 0) ≡ length (fields r) = sym (promised_length_seven (get_or x 0 0) w) ∙ ap promised_length (sym m) ∙ sym (length_fields r) in
      rw here (g, let d = length-append (fields r) rest in omega arith)

  pub record_here : NotTooLong bs → Sound r → get_or x 0 0 < 128 → RecordAt bs p r (length bs - length rest)
  record_here few sound g =
      let low : get_or x 0 0 ≡ bit_map r = omega arith in
      let all : drop p bs ≡ record_bytes r ++ rest = here ∙ ap (λ n. n ∷ (fields r ++ rest)) low in
      let n = length (record_bytes r) in
      let q : length bs - length rest ≡ p + n = omega (arith, long) in
      let tail : drop (length bs - length rest) bs ≡ rest = ap (λ n. drop n bs) q ∙ sym (drop-drop n p bs) ∙ ap (drop n) all ∙ drop_at (record_bytes r) rest n refl in
      record {
        fits = few;
        sound = sound;
        here = all ∙ ap (λ t. record_bytes r ++ t) (sym tail);
        next = omega (arith, long);
        within = omega arith;
      }
