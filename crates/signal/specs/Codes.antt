-- The published status codes, and the words for the qualities. Assumes nothing.
--     code_name b    the published name of the byte b, its limit bits left out; none where none is published
use Rattle.std.specs.Borrow.{Bor}
use Rattle.std.specs.Prelude.{ℕ, ◌/◌, ◌%◌, cond, ◌&&◌, List, [], ◌∷◌, Some, None, codes, Option, ◌==◌}
use Rattle.signal.specs.Status.{quality_number}
use Rattle.signal.specs.declared.status.Quality.{Quality}
use Rattle.signal.specs.declared.status.Quality.TheVariants.{Bad, Uncertain, Good, GoodCascade}

abbrev pub quality_word : Quality → List ℕ
quality_word Bad = codes "Bad"
quality_word Uncertain = codes "Uncertain"
quality_word Good = codes "Good"
quality_word GoodCascade = codes "Good-cascade"

-- quality, sub-status, name
abbrev pub published : List (ℕ × ℕ × List ℕ)
published =
    (0, 0, codes "Non-specific")
    ∷ (0, 1, codes "Configuration Error")
    ∷ (0, 2, codes "Not Connected")
    ∷ (0, 3, codes "Device Failure")
    ∷ (0, 4, codes "Sensor Failure")
    ∷ (0, 5, codes "No Communication, last usable value")
    ∷ (0, 6, codes "No Communication, no usable value")
    ∷ (0, 7, codes "Out of Service")
    ∷ (1, 0, codes "Non-specific")
    ∷ (1, 1, codes "Last Usable Value")
    ∷ (1, 2, codes "Substitute")
    ∷ (1, 3, codes "Initial Value")
    ∷ (1, 4, codes "Sensor Conversion not Accurate")
    ∷ (1, 5, codes "Engineering Unit Range Violation")
    ∷ (1, 6, codes "Sub-normal")
    ∷ (2, 0, codes "Non-specific")
    ∷ (2, 1, codes "Active Block Alarm")
    ∷ (2, 2, codes "Active Advisory Alarm")
    ∷ (2, 3, codes "Active Critical Alarm")
    ∷ (2, 4, codes "Unacknowledged Block Alarm")
    ∷ (2, 5, codes "Unacknowledged Advisory Alarm")
    ∷ (2, 6, codes "Unacknowledged Critical Alarm")
    ∷ (3, 0, codes "Non-specific")
    ∷ (3, 1, codes "Initialization Acknowledge")
    ∷ (3, 2, codes "Initialization Request")
    ∷ (3, 3, codes "Not Invited")
    ∷ (3, 4, codes "Not Selected")
    ∷ (3, 6, codes "Local Override")
    ∷ (3, 7, codes "Fault State Active")
    ∷ (3, 8, codes "Initiate Fault State")
    ∷ []

-- the name in the first row that has this quality and sub-status
abbrev pub name_in : List (ℕ × ℕ × List ℕ) → ℕ → ℕ → Option (List ℕ)
name_in [] q s = None
name_in (row ∷ rows) q s = cond (row.0 == q && row.1 == s) (Some row.2) (name_in rows q s)

-- a row of the program's table
abbrev pub row_of : (Quality × ℕ × Bor (List ℕ)) → (ℕ × ℕ × List ℕ)
row_of row = (quality_number row.0, row.1, row.2.now)

unfoldable pub code_name : ℕ → Option (List ℕ)
code_name b = name_in published (b / 64) (b / 4 % 16)
