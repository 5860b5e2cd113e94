-- A sheet reads one way only. Assumes nothing.
use Rattle.std.proofs.Common.{◌≡◌, ℕ, ◌+◌, ◌<◌, ◌≤◌, cond, ltb, List, [], ◌∷◌, ◌++◌, length, drop, Ok, Err, sym, refl, ap, ◌∙◌, subst, inl, inr, arith}
use Rattle.std.specs.List.{AllByRecursion}
use Rattle.std.proofs.lemmas.List.{append-nil}
use Rattle.std.proofs.lemmas.Bool.{cases_lt, cond_below, cond_above}
use Rattle.sheet.specs.declared.record.Record.{Record}
use Rattle.sheet.specs.declared.record.SheetFault.{SheetFault}
use Rattle.sheet.specs.declared.record.SheetFault.TheVariants.{CutShort, BitSeven, TooLong, Memory}
use Rattle.sheet.specs.Bytes.{record_bytes, sheet_bytes, promised_length, Sound}
use Rattle.sheet.specs.OneWay.{NotTooLong, Cut, Seventh, Ending, Reads, whole, cut_short, bit_seven, too_long, RecordAt, BadAt, OneWay}
use Rattle.sheet.proofs.Apart.{Stuck, record_front, not_stuck, sheet_front}
use Rattle.sheet.proofs.Splits.{split}

-- how a sheet ends that has come to the place p, with this rest
abbrev ending : ℕ → List ℕ → Ending
ending p [] = Ok tt
ending p (b ∷ more) = cond (ltb (length more) (promised_length b)) (Err (CutShort p)) (Err (BitSeven p))

-- a reading of a sheet that is not too long: records, and a rest that fixes the ending
record Read (bs : List ℕ) (rs : List Record) (e : Ending) : Type 0 where
  rest : List ℕ
  sound : AllByRecursion Sound rs
  stuck : Stuck rest
  front : bs ≡ sheet_bytes rs ++ rest
  ends : e ≡ ending (length (sheet_bytes rs)) rest

read_seven : (bs : List ℕ) (rs : List Record) (rest : List ℕ) → AllByRecursion Sound rs → bs ≡ sheet_bytes rs ++ rest → Seventh rest → Read bs rs (Err (BitSeven (length (sheet_bytes rs))))
read_seven bs rs [] s f h = absurd h
read_seven bs rs (b ∷ more) s f h = record { rest = b ∷ more; sound = s; stuck = inr h.0; front = f; ends = cond_above (length more) (promised_length b) _ _ _ h.1 refl }

read_of : (bs : List ℕ) (rs : List Record) (e : Ending) → NotTooLong bs → Reads bs rs e → Read bs rs e
read_of bs rs e few (whole _ s f) = record { rest = []; sound = s; stuck = tt; front = f ∙ sym (append-nil (sheet_bytes rs)); ends = refl }
read_of bs rs e few (cut_short b more _ s f h) = record { rest = b ∷ more; sound = s; stuck = inl h; front = f; ends = cond_below (length more) (promised_length b) _ _ h }
read_of bs rs e few (bit_seven rest _ s f h) = read_seven bs rs rest s f h
read_of bs rs e few (too_long h) = absurd (omega arith)

long_read : (bs : List ℕ) (rs : List Record) (e : Ending) → 65536 < length bs → Reads bs rs e → (rs ≡ []) × (e ≡ Err TooLong)
long_read bs rs e h (whole few _ _) = absurd (omega arith)
long_read bs rs e h (cut_short _ _ few _ _ _) = absurd (omega arith)
long_read bs rs e h (bit_seven _ few _ _ _) = absurd (omega arith)
long_read bs rs e h (too_long _) = (refl, refl)

reads_once : (bs : List ℕ) (rs qs : List Record) (e f : Ending) → Reads bs rs e → Reads bs qs f → (rs ≡ qs) × (e ≡ f)
reads_once bs rs qs e f r q =
    elim (cases_lt 65536 (length bs)) [
      | inl long ↦ (let a = long_read bs rs e long r in let b = long_read bs qs f long q in (cc, cc))
      | inr few ↦
          (let a = read_of bs rs e few r in
          let b = read_of bs qs f few q in
          let w = sheet_front rs qs a.rest b.rest a.sound b.sound a.stuck b.stuck (sym a.front ∙ b.front) in
          (w.0, a.ends ∙ ap (λ t. ending (length (sheet_bytes t)) a.rest) w.0 ∙ ap (ending (length (sheet_bytes qs))) w.1 ∙ sym b.ends))
    ]

abbrev Somehow : List ℕ → Type 0
Somehow bs = (rs : List Record) × (e : Ending) × Reads bs rs e

reads_rest : (bs : List ℕ) (rs : List Record) (rest : List ℕ) → NotTooLong bs → AllByRecursion Sound rs → Stuck rest → bs ≡ sheet_bytes rs ++ rest → Somehow bs
reads_rest bs rs [] few s k f = (rs, Ok tt, whole few s (f ∙ append-nil (sheet_bytes rs)))
reads_rest bs rs (b ∷ more) few s k f =
    elim (cases_lt (length more) (promised_length b)) [
      | inl h ↦ (rs, Err (CutShort (length (sheet_bytes rs))), cut_short b more few s f h)
      | inr h ↦ (rs, Err (BitSeven (length (sheet_bytes rs))), bit_seven (b ∷ more) few s f (seven k h, h))
    ]
  where
    seven : Stuck (b ∷ more) → promised_length b ≤ length more → 128 ≤ b
    seven (inl c) h = absurd (omega arith)
    seven (inr c) h = c

reads_somehow : (bs : List ℕ) → AllByRecursion (λ b. b < 256) bs → Somehow bs
reads_somehow bs b =
    elim (cases_lt 65536 (length bs)) [
      | inl long ↦ ([], Err TooLong, too_long long)
      | inr few ↦ (let k = split bs b in reads_rest bs k.rs k.rest few k.sound k.stuck k.front)
    ]

written_again : (bs : List ℕ) (rs : List Record) → Reads bs rs (Ok tt) → sheet_bytes rs ≡ bs
written_again bs rs (whole _ _ f) = sym f

one_record : (bs : List ℕ) (p : ℕ) (r t : Record) (q u : ℕ) → RecordAt bs p r q → RecordAt bs p t u → (r ≡ t) × (q ≡ u)
one_record bs p r t q u a b =
    let e = record_front r t (drop q bs) (drop u bs) a.sound b.sound (sym a.here ∙ b.here) in
    (e.0, a.next ∙ ap (λ x. p + length (record_bytes x)) e.0 ∙ sym b.next)

stuck_seven : (bs : List ℕ) → Seventh bs → Stuck bs
stuck_seven [] h = tt
stuck_seven (b ∷ more) h = inr h.0

stuck_cut : (r : Record) (s : List ℕ) → Cut (record_bytes r ++ s) → ⊥
stuck_cut r s h = not_stuck r s (inl h)

not_both : (bs : List ℕ) (p : ℕ) (r : Record) (q : ℕ) (f : SheetFault) → RecordAt bs p r q → BadAt bs p f → ⊥
not_both bs p r q (CutShort k) a (_, _, c) = stuck_cut r (drop q bs) (subst Cut a.here c)
not_both bs p r q (BitSeven k) a (_, _, c) = not_stuck r (drop q bs) (stuck_seven (record_bytes r ++ drop q bs) (subst Seventh a.here c))
not_both bs p r q TooLong a c = (let z : 65536 < length bs = c in omega (arith, a.fits))
not_both bs p r q Memory a c = c

pub one_way : OneWay
one_way =
    record {
      every = reads_somehow;
      one = reads_once;
      back = λ rs s few. whole few s refl;
      again = written_again;
      apart = λ rs qs s q e. (sheet_front rs qs [] [] s q tt tt (ap (λ t. t ++ []) e)).0;
      one_record = one_record;
      not_both = not_both;
    }
