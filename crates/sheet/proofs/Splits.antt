-- Every byte string is records and then something that no record begins. Assumes nothing.
use Rattle.std.proofs.Common.{◌≡◌, ℕ, zero, suc, ◌+◌, ◌*◌, ◌%◌, ◌<◌, ◌≤◌, Bool, true, false, cond, List, [], ◌∷◌, ◌++◌, length, is_some, IfSome, Some, None, Option, sym, refl, ap, ◌∙◌, inl, inr, arith, w32, SFits, to_z}
use mir.ValLaws.{to_z-Fits}
use Rattle.std.specs.List.{AllByRecursion}
use Rattle.std.proofs.lemmas.List.{append_assoc}
use Rattle.std.proofs.lemmas.Bool.{cases_lt}
use Rattle.sheet.specs.declared.record.Record.{Record}
use Rattle.sheet.specs.Bytes.{field, byte_field, number_field, input_field, bit_map, number_bytes, input_bytes, fields, record_bytes, sheet_bytes, stands, promised_length, Sound}
use Rattle.sheet.proofs.Apart.{Stuck}
use Rattle.sheet.proofs.Fronts.{number_of_bytes, six_fronts}
use Rattle.sheet.proofs.Maps.{map_from_bits}

abbrev Bytes : List ℕ → Type 0
Bytes = AllByRecursion (λ b. b < 256)

-- something of n bytes stands at the front of xs
record Taken {X : Type 0} (bytes : X → List ℕ) (Fit : X → Type 0) (n : ℕ) (xs : List ℕ) : Type 0 where
  what : X
  rest : List ℕ
  fit : Fit what
  front : xs ≡ bytes what ++ rest
  long : length xs ≡ n + length rest
  bounded : Bytes rest

-- and does so in each byte string that is long enough
abbrev Takes : {X : Type 0} → (X → List ℕ) → (X → Type 0) → ℕ → Type 0
Takes bytes Fit n = (xs : List ℕ) → n ≤ length xs → Bytes xs → Taken bytes Fit n xs

takes_byte : Takes {X = ℕ} (λ b. b ∷ []) (λ _. Unit {0}) 1
takes_byte [] h b = absurd (omega arith)
takes_byte (x ∷ xs) h b = record { what = x; rest = xs; fit = tt; front = refl; long = omega arith; bounded = b.1 }

takes_number : Takes number_bytes (SFits w32) 4
takes_number [] h _ = absurd (omega arith)
takes_number (a ∷ []) h _ = absurd (omega arith)
takes_number (a ∷ b ∷ []) h _ = absurd (omega arith)
takes_number (a ∷ b ∷ c ∷ []) h _ = absurd (omega arith)
takes_number (a ∷ b ∷ c ∷ d ∷ xs) h (ha, (hb, (hc, (hd, hs)))) =
    record {
      what = to_z w32 (a * 16777216 + b * 65536 + c * 256 + d);
      rest = xs;
      fit = to_z-Fits w32 _ (record { fits = omega arith });
      front = sym (ap (λ t. t ++ xs) (number_of_bytes a b c d ha hb hc hd));
      long = omega arith;
      bounded = hs;
    }

takes_input_bytes : Takes input_bytes (λ i. SFits w32 i.value) 5
takes_input_bytes xs h b =
    let n = takes_number xs (omega arith) b in
    let s = takes_byte n.rest (omega (arith, n.long)) n.bounded in
    record {
      what = record { value = n.what; status = record { 0 = s.what } };
      rest = s.rest;
      fit = n.fit;
      front = n.front ∙ ap (λ t. number_bytes n.what ++ t) s.front;
      long = omega (arith, n.long, s.long);
      bounded = s.bounded;
    }

-- a field stands at the front where its bit stands
record Field {X : Type 0} (bytes : X → List ℕ) (Fit : X → Type 0) (n : ℕ) (there : Bool) (xs : List ℕ) : Type 0 where
  what : Option X
  rest : List ℕ
  flag : is_some what ≡ there
  fit : IfSome what Fit
  front : xs ≡ field bytes what ++ rest
  long : length xs ≡ cond there n 0 + length rest
  bounded : Bytes rest

takes_field : {X : Type 0} (bytes : X → List ℕ) (Fit : X → Type 0) (n : ℕ) → Takes bytes Fit n → (there : Bool) (xs : List ℕ) → cond there n 0 ≤ length xs → Bytes xs → Field bytes Fit n there xs
takes_field bytes Fit n t false xs h b = record { what = None; rest = xs; flag = refl; fit = tt; front = refl; long = omega arith; bounded = b }
takes_field bytes Fit n t true xs h b =
    let k = t xs h b in
    record { what = Some k.what; rest = k.rest; flag = refl; fit = k.fit; front = k.front; long = k.long; bounded = k.bounded }

-- a record stands at the front
record Leads (xs : List ℕ) : Type 0 where
  what : Record
  rest : List ℕ
  sound : Sound what
  front : xs ≡ record_bytes what ++ rest
  bounded : Bytes rest
  shorter : length rest < length xs

falling : (x a b c d e f k₁ k₂ k₃ k₄ k₅ k₆ : ℕ) → x ≡ k₁ + a → a ≡ k₂ + b → b ≡ k₃ + c → c ≡ k₄ + d → d ≡ k₅ + e → e ≡ k₆ + f → f < suc x
falling x a b c d e f k₁ k₂ k₃ k₄ k₅ k₆ h₁ h₂ h₃ h₄ h₅ h₆ = omega arith

abbrev ByteAt : Bool → List ℕ → Type 0
ByteAt = Field {X = ℕ} (λ b. b ∷ []) (λ _. Unit {0}) 1

abbrev InputAt : Bool → List ℕ → Type 0
InputAt = Field input_bytes (λ i. SFits w32 i.value) 5

abbrev NumberAt : Bool → List ℕ → Type 0
NumberAt = Field number_bytes (SFits w32) 4

-- six fields, each behind the one before it, are a record
assembled : (m : ℕ) (xs : List ℕ) → m < 128 → (b : ByteAt (stands 0 m) xs) (t : ByteAt (stands 1 m) b.rest) (s : ByteAt (stands 2 m) t.rest)
    (i : InputAt (stands 3 m) s.rest) (p : NumberAt (stands 4 m) i.rest) (o : NumberAt (stands 5 m) p.rest) → Leads (m ∷ xs)
assembled m xs h b t s i p o =
    let r : Record = record { block = b.what; target = t.what; switch = s.what; input = i.what; setpoint = p.what; output = o.what; round = stands 6 m } in
    let e : bit_map r ≡ m % 128 =
    map_from_bits (is_some b.what) (is_some t.what) (is_some s.what) (is_some i.what) (is_some p.what) (is_some o.what) (stands 6 m) m (omega arith)
    b.flag t.flag s.flag i.flag p.flag o.flag refl in
    let low : m % 128 ≡ m = omega arith in
    let f : xs ≡ fields r ++ o.rest =
    six_fronts (byte_field b.what) (byte_field t.what) (byte_field s.what) (input_field i.what) (number_field p.what) (number_field o.what)
    xs b.rest t.rest s.rest i.rest p.rest o.rest b.front t.front s.front i.front p.front o.front in
    record {
      what = r;
      rest = o.rest;
      sound = (i.fit, p.fit, o.fit);
      front = ap (λ n. n ∷ xs) (sym (e ∙ low)) ∙ ap (λ t. bit_map r ∷ t) f;
      bounded = o.bounded;
      shorter = falling (length xs) (length b.rest) (length t.rest) (length s.rest) (length i.rest) (length p.rest) (length o.rest) _ _ _ _ _ _ b.long t.long s.long i.long p.long o.long;
    }

module _ (m : ℕ) (xs : List ℕ) (h : m < 128) (l : promised_length m ≤ length xs) (a : Bytes xs) where
  leads_from_setpoint : (b : ByteAt (stands 0 m) xs) (t : ByteAt (stands 1 m) b.rest) (s : ByteAt (stands 2 m) t.rest) (i : InputAt (stands 3 m) s.rest) → Leads (m ∷ xs)
  leads_from_setpoint b t s i =
      let p = takes_field number_bytes (SFits w32) 4 takes_number (stands 4 m) i.rest (omega (arith, b.long, t.long, s.long, i.long)) i.bounded in
      let o = takes_field number_bytes (SFits w32) 4 takes_number (stands 5 m) p.rest (omega (arith, b.long, t.long, s.long, i.long, p.long)) p.bounded in
      assembled m xs h b t s i p o

  leads_from_switch : (b : ByteAt (stands 0 m) xs) (t : ByteAt (stands 1 m) b.rest) → Leads (m ∷ xs)
  leads_from_switch b t =
      let s = takes_field (λ b. b ∷ []) (λ _. Unit {0}) 1 takes_byte (stands 2 m) t.rest (omega (arith, b.long, t.long)) t.bounded in
      let i = takes_field input_bytes (λ i. SFits w32 i.value) 5 takes_input_bytes (stands 3 m) s.rest (omega (arith, b.long, t.long, s.long)) s.bounded in
      leads_from_setpoint b t s i

  leads : Leads (m ∷ xs)
  leads =
      let b = takes_field (λ b. b ∷ []) (λ _. Unit {0}) 1 takes_byte (stands 0 m) xs (omega arith) a in
      let t = takes_field (λ b. b ∷ []) (λ _. Unit {0}) 1 takes_byte (stands 1 m) b.rest (omega (arith, b.long)) b.bounded in
      leads_from_switch b t

pub record Split (bs : List ℕ) : Type 0 where
  pub rs : List Record
  pub rest : List ℕ
  pub sound : AllByRecursion Sound rs
  pub stuck : Stuck rest
  pub front : bs ≡ sheet_bytes rs ++ rest

split_within : (n : ℕ) (bs : List ℕ) → length bs ≤ n → Bytes bs → Split bs
split_within n [] h b = record { rs = []; rest = []; sound = tt; stuck = tt; front = refl }
split_within zero (m ∷ xs) h b = absurd (omega arith)
split_within (suc n) (m ∷ xs) h b =
    elim (cases_lt (length xs) (promised_length m)) [
      | inl cut ↦ record { rs = []; rest = m ∷ xs; sound = tt; stuck = inl cut; front = refl }
      | inr full ↦ elim (cases_lt m 128) [
        | inr seven ↦ record { rs = []; rest = m ∷ xs; sound = tt; stuck = inr seven; front = refl }
        | inl low ↦
            let r = leads m xs low full b.1 in
            let k = split_within n r.rest (omega (arith, r.shorter)) r.bounded in
            record {
              rs = r.what ∷ k.rs;
              rest = k.rest;
              sound = (r.sound, k.sound);
              stuck = k.stuck;
              front = r.front ∙ ap (λ t. record_bytes r.what ++ t) k.front ∙ sym (append_assoc (record_bytes r.what) (sheet_bytes k.rs) k.rest);
            }
      ]
    ]

pub split : (bs : List ℕ) → AllByRecursion (λ b. b < 256) bs → Split bs
split bs b = split_within (length bs) bs (omega arith) b
