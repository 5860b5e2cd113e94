-- The status byte: 2 bits of quality, 4 of sub-status and 2 of limits, from the top. Assumes nothing.
--     JoinAfterSplit     for every byte, the joined parts are the byte again, and the parts fit
--     SplitAfterJoin     for all parts that fit, the joined byte is split into the same parts
--     JoinedFrom p r     the parts p make the byte r, or the first of them that is too wide is named
--     same_code a b      a status a is the code b: the whole bytes are equal
--     quality_of b       the quality of the byte b
use Rattle.std.specs.Prelude.{◌≡◌, ℕ, ◌+◌, ◌*◌, ◌/◌, ◌%◌, ◌<◌, ◌≤◌, Bool, cond, Ok, Err, Result, ◌==◌, nat_lt}
use Rattle.signal.specs.declared.status.Status.{Status}
use Rattle.signal.specs.declared.status.Quality.{Quality}
use Rattle.signal.specs.declared.status.Quality.TheVariants.{Bad, Uncertain, Good, GoodCascade}
use Rattle.signal.specs.declared.status.Parts.{Parts}
use Rattle.signal.specs.declared.status.Part.{Part}
use Rattle.signal.specs.declared.status.Part.TheVariants.{Quality as QualityPart, SubStatus as SubStatusPart, Limits as LimitsPart}
use Rattle.signal.specs.declared.status.PartFault.{PartFault}
use Rattle.signal.specs.declared.status.PartFault.TheVariants.{TooWide}

abbrev pub same_code : ℕ → ℕ → Bool
same_code a b = a == b

abbrev pub quality_number : Quality → ℕ
quality_number Bad = 0
quality_number Uncertain = 1
quality_number Good = 2
quality_number GoodCascade = 3

abbrev pub quality_of : ℕ → Quality
quality_of b = cond (nat_lt b 64) Bad (cond (nat_lt b 128) Uncertain (cond (nat_lt b 192) Good GoodCascade))

abbrev pub joined_byte : Parts → ℕ
joined_byte p = 64 * p.quality + 4 * p.sub_status + p.limits

abbrev pub split_byte : ℕ → Parts
split_byte b = record { quality = b / 64; sub_status = b / 4 % 16; limits = b % 4 }

pub record PartsFit (p : Parts) : Type 0 where
  pub quality_fits : p.quality ≤ 3
  pub sub_status_fits : p.sub_status ≤ 15
  pub limits_fit : p.limits ≤ 3

abbrev pub JoinAfterSplit : Type 0
JoinAfterSplit = (b : ℕ) → b < 256 → PartsFit (split_byte b) × (joined_byte (split_byte b) ≡ b)

abbrev pub SplitAfterJoin : Type 0
SplitAfterJoin = (p : Parts) → PartsFit p → (joined_byte p < 256) × (split_byte (joined_byte p) ≡ p)

-- this part is too wide, and none before it is
abbrev pub FirstTooWide : Parts → Part → Type 0
FirstTooWide p QualityPart = 3 < p.quality
FirstTooWide p SubStatusPart = (p.quality ≤ 3) × (15 < p.sub_status)
FirstTooWide p LimitsPart = (p.quality ≤ 3) × (p.sub_status ≤ 15) × (3 < p.limits)

abbrev pub JoinedFrom : Parts → Result Status PartFault → Type 0
JoinedFrom p (Ok s) = PartsFit p × (s.0 ≡ joined_byte p)
JoinedFrom p (Err (TooWide part)) = FirstTooWide p part

abbrev pub part_place : Part → ℕ
part_place QualityPart = 0
part_place SubStatusPart = 1
part_place LimitsPart = 2

abbrev pub part_fault_number : PartFault → ℕ
part_fault_number (TooWide part) = 9

abbrev pub part_fault_place : PartFault → ℕ
part_fault_place (TooWide part) = part_place part
