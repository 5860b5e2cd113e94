-- A sheet reads one way only. Assumes nothing.
--     OneWay              every byte string reads, and in one way; writing and reading undo each other
--     Reads bs rs e       read as a sheet, bs is the records rs, and then its end or one refusal at one place
--     Outcome bs rs e     the same, or the records so far where memory was wanting
--     Begins bs rs        the records rs stand at the front of bs, and one more behind them
--     RecordAt bs p r q   the record r stands at the place p of bs, and the next place is q
--     BadAt bs p f        no record stands at the place p of bs, for the reason f
use Rattle.std.specs.Prelude.{◌≡◌, ℕ, ◌+◌, ◌<◌, ◌≤◌, List, [], ◌∷◌, ◌++◌, length, drop, Ok, Err, Result}
use Rattle.std.specs.List.{AllByRecursion}
use Rattle.sheet.specs.declared.record.Record.{Record}
use Rattle.sheet.specs.declared.record.SheetFault.{SheetFault}
use Rattle.sheet.specs.declared.record.SheetFault.TheVariants.{CutShort, BitSeven, TooLong, Memory}
use Rattle.sheet.specs.Bytes.{record_bytes, sheet_bytes, promised_length, Sound}

-- a sheet has at most 65,536 bytes
abbrev pub NotTooLong : List ℕ → Type 0
NotTooLong bs = length bs ≤ 65536

-- what is left is too short for the record that its bit map promises
abbrev pub Cut : List ℕ → Type 0
Cut [] = Unit {0}
Cut (b ∷ more) = length more < promised_length b

-- a record is there, and bit 7 of its bit map stands
abbrev pub Seventh : List ℕ → Type 0
Seventh [] = ⊥
Seventh (b ∷ more) = (128 ≤ b) × (promised_length b ≤ length more)

-- how a sheet ends: whole, or at a refusal
abbrev pub Ending : Type 0
Ending = Result (Unit {0}) SheetFault

pub data Reads (bs : List ℕ) : List Record → Ending → Type 0 where
  -- the records' bytes, and nothing more
  whole : {rs : List Record} → NotTooLong bs → AllByRecursion Sound rs → bs ≡ sheet_bytes rs → Reads bs rs (Ok tt)
  -- the records, and then one that ends too soon: refused at its bit map
  cut_short : {rs : List Record} (b : ℕ) (more : List ℕ) → NotTooLong bs → AllByRecursion Sound rs → bs ≡ sheet_bytes rs ++ b ∷ more
      → Cut (b ∷ more) → Reads bs rs (Err (CutShort (length (sheet_bytes rs))))
  -- the records, and then one whose bit 7 stands: refused at its bit map
  bit_seven : {rs : List Record} (rest : List ℕ) → NotTooLong bs → AllByRecursion Sound rs → bs ≡ sheet_bytes rs ++ rest
      → Seventh rest → Reads bs rs (Err (BitSeven (length (sheet_bytes rs))))
  -- more bytes than a sheet may have: nothing is read
  too_long : 65536 < length bs → Reads bs [] (Err TooLong)

pub record Begins (bs : List ℕ) (rs : List Record) : Type 0 where
  pub fits : NotTooLong bs
  pub sound : AllByRecursion Sound rs
  pub next : Record
  pub rest : List ℕ
  pub front : bs ≡ sheet_bytes rs ++ (record_bytes next ++ rest)

abbrev pub Outcome : List ℕ → List Record → Ending → Type 0
Outcome bs rs (Ok u) = Reads bs rs (Ok u)
Outcome bs rs (Err (CutShort p)) = Reads bs rs (Err (CutShort p))
Outcome bs rs (Err (BitSeven p)) = Reads bs rs (Err (BitSeven p))
Outcome bs rs (Err TooLong) = Reads bs rs (Err TooLong)
Outcome bs rs (Err Memory) = Begins bs rs

pub record RecordAt (bs : List ℕ) (p : ℕ) (r : Record) (q : ℕ) : Type 0 where
  pub fits : NotTooLong bs
  pub sound : Sound r
  pub here : drop p bs ≡ record_bytes r ++ drop q bs
  pub next : q ≡ p + length (record_bytes r)
  pub within : q ≤ length bs

abbrev pub BadAt : List ℕ → ℕ → SheetFault → Type 0
BadAt bs p (CutShort k) = NotTooLong bs × (k ≡ p) × Cut (drop p bs)
BadAt bs p (BitSeven k) = NotTooLong bs × (k ≡ p) × Seventh (drop p bs)
BadAt bs p TooLong = 65536 < length bs
BadAt bs p Memory = ⊥

pub record OneWay : Type 0 where
  -- every byte string is a sheet, or records and then one refusal at one place
  pub every : (bs : List ℕ) → AllByRecursion (λ b. b < 256) bs → (rs : List Record) × (e : Ending) × Reads bs rs e
  -- and it is so in one way
  pub one : (bs : List ℕ) (rs rs' : List Record) (e e' : Ending) → Reads bs rs e → Reads bs rs' e' → (rs ≡ rs') × (e ≡ e')
  -- what is written reads back as the same records
  pub back : (rs : List Record) → AllByRecursion Sound rs → NotTooLong (sheet_bytes rs) → Reads (sheet_bytes rs) rs (Ok tt)
  -- what was read, written again, is the same bytes
  pub again : (bs : List ℕ) (rs : List Record) → Reads bs rs (Ok tt) → sheet_bytes rs ≡ bs
  -- two different lists of records never have the same bytes
  pub apart : (rs rs' : List Record) → AllByRecursion Sound rs → AllByRecursion Sound rs' → sheet_bytes rs ≡ sheet_bytes rs' → rs ≡ rs'
  -- at one place stands one record
  pub one_record : (bs : List ℕ) (p : ℕ) (r r' : Record) (q q' : ℕ) → RecordAt bs p r q → RecordAt bs p r' q' → (r ≡ r') × (q ≡ q')
  -- and no record is refused
  pub not_both : (bs : List ℕ) (p : ℕ) (r : Record) (q : ℕ) (f : SheetFault) → RecordAt bs p r q → BadAt bs p f → ⊥
