-- What a buffer holds behind what it held before. Assumes nothing.
--     Listed bs p q       what q holds more than p is the listing of the sheet bs
--     Roomy bs room p     there is room for all that is on the sheet bs: for its records, and in the buffer p
use Rattle.std.specs.Prelude.{◌≡◌, ℕ, ◌+◌, ◌≤◌, List, ◌++◌, length, vec_items, vec_len, vec_capacity, Vec}
use Rattle.sheet.specs.OneWay.{Ending, Reads}
use Rattle.sheet.specs.declared.record.Record.{Record}
use Rattle.lister.specs.Listing.{listing}

abbrev pub Listed : {Z : Type 0} → List ℕ → Vec ℕ Z → Vec ℕ Z → Type 0
Listed bs p q = (rs : List Record) (e : Ending) → Reads bs rs e → vec_items q ≡ vec_items p ++ listing rs e

pub record Roomy {Z : Type 0} (bs : List ℕ) (room : ℕ) (p : Vec ℕ Z) : Type 0 where
  pub for_records : length bs ≤ room
  pub for_text : (rs : List Record) (e : Ending) → Reads bs rs e → vec_len p + length (listing rs e) ≤ vec_capacity p
