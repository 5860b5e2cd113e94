-- The calls that a record gives, and their words. Assumes nothing.
--     calls_of r      the calls of r, in the order of their bits
--     calls_left s    the calls that an iterator over them has still to give
--     call_word c     the word by which a call is printed
use Rattle.std.specs.Prelude.{ℕ, cond, List, [], ◌∷◌, ◌++◌, codes}
use Rattle.std.specs.Option.{option_to_list, option_map}
use Rattle.sheet.specs.declared.calls.Calls.{Calls}
use Rattle.sheet.specs.declared.record.Record.{Record}
use Rattle.sheet.specs.declared.record.Call.{Call}
use Rattle.sheet.specs.declared.record.Call.TheVariants.{Target, Switch, Input, Setpoint, Output, Round}

abbrev pub calls_of : Record → List Call
calls_of r =
    option_to_list (option_map Target r.target) ++ (option_to_list (option_map Switch r.switch) ++ (option_to_list (option_map Input r.input)
    ++ (option_to_list (option_map Setpoint r.setpoint) ++ (option_to_list (option_map Output r.output) ++ cond r.round (Round ∷ []) []))))

-- the calls that are still to come
abbrev pub calls_left : Calls → List Call
calls_left c = calls_of c.rest

abbrev pub call_word : Call → List ℕ
call_word (Target b) = codes "target"
call_word (Switch b) = codes "switch"
call_word (Input i) = codes "input"
call_word (Setpoint v) = codes "setpoint"
call_word (Output v) = codes "output"
call_word Round = codes "round"
