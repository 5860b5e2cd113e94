-- What the lister prints. Assumes nothing.
--     listing rs e        a line for each record of a sheet, and one for the refusal that ends it
--     record_line p r     the place p of a record, its block, and its calls in bit order
--     call_text c         a call's word and its value
--     status_text s       a status: its byte, its three parts, and its published name where it has one
use Rattle.std.specs.Prelude.{ℕ, ◌+◌, ◌/◌, ◌%◌, cond, List, [], ◌∷◌, ◌++◌, length, Some, None, Ok, Err, codes, decimal, Option, ◌==◌}
use Rattle.std.specs.Option.{unwrap_or}
use Rattle.std.specs.Fmt.{signed_decimal}
use Rattle.std.specs.List.{flat_map}
use Rattle.line.specs.Hex.{hex_pair}
use Rattle.signal.specs.Codes.{code_name, quality_word}
use Rattle.signal.specs.Mode.{mode_byte, mode_word}
use Rattle.signal.specs.Status.{quality_of}
use Rattle.signal.specs.declared.mode.Mode.TheVariants.{OutOfService, Man, Auto, Cas}
use Rattle.sheet.specs.Bytes.{record_bytes}
use Rattle.sheet.specs.Calls.{calls_of, call_word}
use Rattle.sheet.specs.OneWay.{Ending}
use Rattle.sheet.specs.Refusals.{fault_number, fault_place}
use Rattle.sheet.specs.declared.record.Call.{Call}
use Rattle.sheet.specs.declared.record.Call.TheVariants.{Target, Switch, Input, Setpoint, Output, Round}
use Rattle.sheet.specs.declared.record.Record.{Record}

-- a space, and then a text
abbrev pub after_space : List ℕ → List ℕ
after_space text = 32 ∷ text

-- a target by its mode's word, or the byte where it is no target
abbrev pub target_text : ℕ → List ℕ
target_text b =
    cond (b == mode_byte OutOfService) (mode_word OutOfService)
    (cond (b == mode_byte Man) (mode_word Man) (cond (b == mode_byte Auto) (mode_word Auto) (cond (b == mode_byte Cas) (mode_word Cas) (hex_pair b))))

abbrev pub named : ℕ → Option (List ℕ) → List ℕ
named s None = []
named s (Some name) = after_space (quality_word (quality_of s)) ++ after_space name

abbrev pub parts_text : ℕ → List ℕ
parts_text s = codes " (" ++ (decimal (s / 64) ++ (after_space (decimal (s / 4 % 16)) ++ (after_space (decimal (s % 4)) ++ codes ")")))

abbrev pub status_text : ℕ → List ℕ
status_text s = hex_pair s ++ (parts_text s ++ named s (code_name s))

abbrev pub call_value : Call → List ℕ
call_value (Target b) = after_space (target_text b)
call_value (Switch b) = after_space (decimal b)
call_value (Input i) = after_space (signed_decimal i.value) ++ (codes " status " ++ status_text i.status.0)
call_value (Setpoint v) = after_space (signed_decimal v)
call_value (Output v) = after_space (signed_decimal v)
call_value Round = []

abbrev pub call_text : Call → List ℕ
call_text c = codes ", " ++ (call_word c ++ call_value c)

abbrev pub record_line : ℕ → Record → List ℕ
record_line p r = decimal p ++ (codes " block " ++ (decimal (unwrap_or r.block 0) ++ (flat_map call_text (calls_of r) ++ 10 ∷ [])))

abbrev pub lines_from : ℕ → List Record → List ℕ
lines_from p [] = []
lines_from p (r ∷ rs) = record_line p r ++ lines_from (p + length (record_bytes r)) rs

abbrev pub refusal_line : Option ℕ → ℕ → List ℕ
refusal_line None place = []
refusal_line (Some n) place = codes "sheet" ++ (after_space (decimal n) ++ (after_space (decimal place) ++ 10 ∷ []))

abbrev pub end_line : Ending → List ℕ
end_line (Ok u) = []
end_line (Err f) = refusal_line (fault_number f) (fault_place f)

abbrev pub listing : List Record → Ending → List ℕ
listing rs e = lines_from 0 rs ++ end_line e
