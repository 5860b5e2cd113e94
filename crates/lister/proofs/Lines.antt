-- The lines of a sheet, one record after the other. Assumes nothing.
use Rattle.std.proofs.Common.{◌≡◌, ℕ, ◌+◌, ◌<◌, ◌≤◌, false, List, [], ◌++◌, length, get_or, drop, None, sym, ap, ◌∙◌}
use Rattle.std.proofs.lemmas.List.{at_drop_more, at_drop_all, length-append}
use Rattle.sheet.specs.Bytes.{record_bytes, sheet_bytes}
use Rattle.sheet.specs.declared.record.Record.{Record}
use Rattle.lister.specs.Listing.{record_line, lines_from}

-- a record with no field, which stands past the end of a list
abbrev pub blank : Record
blank = record { block = None; target = None; switch = None; input = None; setpoint = None; output = None; round = false }

module _ (rs : List Record) (i p : ℕ) (h : i < length rs) where
  pub lines_more : (n : ℕ) → n ≡ length (record_bytes (get_or rs i blank)) → lines_from p (drop i rs) ≡ record_line p (get_or rs i blank) ++ lines_from (p + n) (drop (i + 1) rs)
  lines_more n e = at_drop_more (lines_from p) rs i blank h ∙ ap (λ t. record_line p (get_or rs i blank) ++ lines_from (p + t) (drop (i + 1) rs)) (sym e)

  pub bytes_more : length (sheet_bytes (drop i rs)) ≡ length (record_bytes (get_or rs i blank)) + length (sheet_bytes (drop (i + 1) rs))
  bytes_more = ap length (at_drop_more sheet_bytes rs i blank h) ∙ length-append (record_bytes (get_or rs i blank)) (sheet_bytes (drop (i + 1) rs))

pub lines_all : (rs : List Record) (i p : ℕ) → length rs ≤ i → lines_from p (drop i rs) ≡ []
lines_all rs i p h = at_drop_all (lines_from p) rs i h
