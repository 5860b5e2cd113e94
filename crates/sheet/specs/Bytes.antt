-- The bytes of a record and of a sheet. Assumes nothing.
--     record_bytes r      the bit map, then only the fields that are there, lowest bit first
--     sheet_bytes rs      the records' bytes, one after the other
--     promised_length b     how many bytes must follow a bit map b
use Rattle.std.specs.Prelude.{ℕ, ◌+◌, ◌/◌, ◌%◌, ◌^◌, Bool, cond, List, [], ◌∷◌, ◌++◌, ℤ, is_some, IfSome, Some, None, Option, FitsSigned, ◌==◌}
use Rattle.std.specs.Int.{w32}
use Rattle.std.proofs.Common.{of_z}
use Rattle.std.specs.List.{flat_map}
use Rattle.sheet.specs.declared.record.Record.{Record}
use Rattle.sheet.specs.declared.record.Input.{Input}

-- a number of 32 bits in two's complement, high byte first
abbrev pub number_bytes : ℤ → List ℕ
number_bytes z = (of_z w32 z / 16777216 % 256) ∷ (of_z w32 z / 65536 % 256) ∷ (of_z w32 z / 256 % 256) ∷ (of_z w32 z % 256) ∷ []

-- a field's bytes, or none where the field is absent
abbrev pub field : {X : Type 0} → (X → List ℕ) → Option X → List ℕ
field bytes None = []
field bytes (Some x) = bytes x

abbrev pub byte_field : Option ℕ → List ℕ
byte_field = field (λ b. b ∷ [])

abbrev pub number_field : Option ℤ → List ℕ
number_field = field number_bytes

-- an input's value, and then its status
abbrev pub input_bytes : Input → List ℕ
input_bytes i = number_bytes i.value ++ i.status.0 ∷ []

abbrev pub input_field : Option Input → List ℕ
input_field = field input_bytes

abbrev pub fields : Record → List ℕ
fields r = byte_field r.block ++ (byte_field r.target ++ (byte_field r.switch ++ (input_field r.input ++ (number_field r.setpoint ++ number_field r.output))))

-- bit 0 block, 1 target, 2 switch, 3 input, 4 setpoint, 5 output, 6 round
abbrev pub map_of : Bool → Bool → Bool → Bool → Bool → Bool → Bool → ℕ
map_of b t s i p o r = cond b 1 0 + cond t 2 0 + cond s 4 0 + cond i 8 0 + cond p 16 0 + cond o 32 0 + cond r 64 0

abbrev pub bit_map : Record → ℕ
bit_map r = map_of (is_some r.block) (is_some r.target) (is_some r.switch) (is_some r.input) (is_some r.setpoint) (is_some r.output) r.round

abbrev pub record_bytes : Record → List ℕ
record_bytes r = bit_map r ∷ fields r

abbrev pub sheet_bytes : List Record → List ℕ
sheet_bytes = flat_map record_bytes

-- bit k of the byte b stands
abbrev pub stands : ℕ → ℕ → Bool
stands k b = b / 2 ^ k % 2 == 1

abbrev pub bytes_length : ℕ → ℕ
bytes_length b = cond (stands 0 b) 1 0 + cond (stands 1 b) 1 0 + cond (stands 2 b) 1 0

abbrev pub numbers_length : ℕ → ℕ
numbers_length b = cond (stands 3 b) 5 0 + cond (stands 4 b) 4 0 + cond (stands 5 b) 4 0

abbrev pub promised_length : ℕ → ℕ
promised_length b = bytes_length b + numbers_length b

-- each number fits 32 bits
abbrev pub NumbersFit : Option Input → Option ℤ → Option ℤ → Type 0
NumbersFit i p o = IfSome i (λ x. FitsSigned w32 x.value) × IfSome p (FitsSigned w32) × IfSome o (FitsSigned w32)

abbrev pub Sound : Record → Type 0
Sound r = NumbersFit r.input r.setpoint r.output
