-- What the reading of a sheet has come to at a place. Assumes nothing.
use Rattle.std.proofs.Common.{◌≡◌, ℕ, ◌+◌, ◌<◌, ◌≤◌, List, ◌++◌, length, get_or, drop, Ok, Err, sym, ap, ◌∙◌, subst, arith}
use Rattle.std.specs.List.{AllByRecursion}
use Rattle.std.proofs.lemmas.List.{append-nil, drop_all, drop_more}
use Rattle.sheet.specs.declared.record.Record.{Record}
use Rattle.sheet.specs.declared.record.SheetFault.{SheetFault}
use Rattle.sheet.specs.declared.record.SheetFault.TheVariants.{CutShort, BitSeven, TooLong, Memory}
use Rattle.sheet.specs.Bytes.{sheet_bytes, Sound}
use Rattle.sheet.specs.OneWay.{NotTooLong, Cut, Reads, whole, cut_short, bit_seven, Ending, Outcome, BadAt}

-- new is old and the records that stand before the place
pub record Sofar (bs : List ℕ) (old new : List Record) (place : ℕ) : Type 0 where
  pub rs : List Record
  pub added : new ≡ old ++ rs
  pub sound : AllByRecursion Sound rs
  pub front : bs ≡ sheet_bytes rs ++ drop place bs
  pub here : place ≡ length (sheet_bytes rs)

-- new is old and records with this outcome
abbrev pub Ended : List ℕ → List Record → List Record → Ending → Type 0
Ended bs old new e = (rs : List Record) × (new ≡ old ++ rs) × Outcome bs rs e

module _ (bs : List ℕ) (old new : List Record) (p : ℕ) (few : NotTooLong bs) (s : Sofar bs old new p) where
  pub sofar_all : length bs ≤ p → Ended bs old new (Ok tt)
  sofar_all h = (s.rs, s.added, whole few s.sound (s.front ∙ ap (λ t. sheet_bytes s.rs ++ t) (drop_all p bs h) ∙ append-nil (sheet_bytes s.rs)))

  pub sofar_bad : (f : SheetFault) → p < length bs → BadAt bs p f → Ended bs old new (Err f)
  sofar_bad (CutShort k) h (_, e, c) =
      let d = drop_more bs p 0 h in
      let read = cut_short (get_or bs p 0) (drop (p + 1) bs) few s.sound (s.front ∙ ap (λ t. sheet_bytes s.rs ++ t) d) (subst Cut d c) in
      (s.rs, s.added, subst (λ n. Reads bs s.rs (Err (CutShort n))) (sym (e ∙ s.here)) read)
  sofar_bad (BitSeven k) h (_, e, c) =
      (s.rs, s.added, subst (λ n. Reads bs s.rs (Err (BitSeven n))) (sym (e ∙ s.here)) (bit_seven (drop p bs) few s.sound s.front c))
  sofar_bad TooLong h b = absurd (let z : ◌<◌ 65536 (length bs) = b in omega (arith, few))
  sofar_bad Memory h b = absurd b
