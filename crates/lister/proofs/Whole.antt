-- Where there is room for a sheet, memory is not wanting. Assumes nothing.
use Rattle.std.proofs.Common.{◌≡◌, ℕ, ◌≤◌, List, [], ◌∷◌, ◌++◌, length, Ok, Err, refl, ap, subst, arith}
use Rattle.std.proofs.lemmas.List.{length-append}
use Rattle.sheet.specs.Bytes.{record_bytes, sheet_bytes}
use Rattle.sheet.specs.OneWay.{Ending, Reads, Begins, Outcome}
use Rattle.sheet.specs.declared.record.Record.{Record}
use Rattle.sheet.specs.declared.record.SheetFault.TheVariants.{CutShort, BitSeven, TooLong, Memory}

-- a record takes a byte at least
fewer : (rs : List Record) → length rs ≤ length (sheet_bytes rs)
fewer [] = omega arith
fewer (r ∷ rs) = let l = length-append (record_bytes r) (sheet_bytes rs) in omega (arith, fewer rs)

no_room : (bs : List ℕ) (rs : List Record) (room : ℕ) → Begins bs rs → room ≤ length rs → length bs ≤ room → ⊥
no_room bs rs room b full h =
    let a = ap length b.front in
    let l = length-append (sheet_bytes rs) (record_bytes b.next ++ b.rest) in
    let k = length-append (record_bytes b.next) b.rest in
    omega (arith, fewer rs)

read : (bs : List ℕ) (rs : List Record) (e : Ending) → Outcome bs rs e → (e ≡ Err Memory → ⊥) → Reads bs rs e
read bs rs (Ok u) o h = o
read bs rs (Err (CutShort p)) o h = o
read bs rs (Err (BitSeven p)) o h = o
read bs rs (Err TooLong) o h = o
read bs rs (Err Memory) o h = absurd (h refl)

module _ (bs : List ℕ) (rs : List Record) (e : Ending) (room : ℕ) (o : Outcome bs rs e) (full : e ≡ Err Memory → room ≤ length rs) (h : length bs ≤ room) where
  pub not_wanting : e ≡ Err Memory → ⊥
  not_wanting m = no_room bs rs room (subst (Outcome bs rs) m o) (full m) h

  pub reads_whole : Reads bs rs e
  reads_whole = read bs rs e o not_wanting
