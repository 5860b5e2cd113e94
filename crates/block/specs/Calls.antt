-- The five calls on a block: which are turned down, and what an accepted one changes. Assumes nothing.
--     refusal_of b a    why b turns the call a down: whether it has the call comes first, then what was given, then its state
--     after_ask b a     the block afterwards: only the named thing is changed, and nothing where it was turned down
--     answer_of b a     the answer
use Rattle.std.specs.Prelude.{ℕ, Bool, true, false, cond, ◌&&◌, ℤ, pos, negsuc, is_some, Some, None, Ok, Err, Option, Result, ◌==◌, int_le, nat_lt}
use Rattle.signal.specs.Limits.{pulled}
use Rattle.signal.specs.Mode.{target_of}
use Rattle.signal.specs.Value.{value_near}
use Rattle.signal.specs.declared.kinds.Value.{Value}
use Rattle.signal.specs.declared.mode.Mode.{Mode}
use Rattle.signal.specs.declared.mode.Mode.TheVariants.{OutOfService, IMan, Lo, Man, Auto, Cas}
use Rattle.signal.specs.declared.status.Signal.{Signal}
use Rattle.block.specs.Modes.{is_man, is_auto}
use Rattle.block.specs.declared.kinds.Ask.{Ask}
use Rattle.block.specs.declared.kinds.Ask.TheVariants.{Target, Switch, Input, Setpoint, Output}
use Rattle.block.specs.declared.kinds.Block.{Block}
use Rattle.block.specs.declared.kinds.Permitted.{Permitted}
use Rattle.block.specs.declared.kinds.Refusal.{Refusal}
use Rattle.block.specs.declared.kinds.Refusal.TheVariants.{NoSuchBlock, OutOfRange, NotATarget, NotASwitch, NotHere, NotPermitted, NotAuto, NotMan}

abbrev pub refusal_number : Refusal → ℕ
refusal_number NoSuchBlock = 1
refusal_number OutOfRange = 2
refusal_number NotATarget = 3
refusal_number NotASwitch = 4
refusal_number NotHere = 5
refusal_number NotPermitted = 6
refusal_number NotAuto = 7
refusal_number NotMan = 8

abbrev pub permits : Permitted → Mode → Bool
permits p OutOfService = true
permits p IMan = false
permits p Lo = false
permits p Man = true
permits p Auto = true
permits p Cas = p.cas

-- the number is a value's
abbrev pub is_value : ℤ → Bool
is_value z = int_le (negsuc 999999) z && int_le z (pos 1000000)

abbrev pub refusal_of : Block → Ask → Option Refusal
refusal_of b (Target t) =
    elim (target_of t) [ None ↦ Some NotATarget | Some m ↦ cond (permits b.settings.permitted m) None (Some NotPermitted) ]
refusal_of b (Switch n) = cond (nat_lt n 2) None (Some NotASwitch)
refusal_of b (Input z s) = cond (is_some b.input) (cond (is_value z) None (Some OutOfRange)) (Some NotHere)
refusal_of b (Setpoint z) = cond (is_value z) (cond (is_auto b.actual) None (Some NotAuto)) (Some OutOfRange)
refusal_of b (Output z) =
    cond b.settings.takes_output (cond (is_value z) (cond (is_man b.actual) None (Some NotMan)) (Some OutOfRange)) (Some NotHere)

-- a block with one thing put in the place of what it had
abbrev pub with_target : Block → Mode → Block
with_target b m = record { settings = b.settings; target = m; actual = b.actual; cause = b.cause; switch = b.switch; input = b.input; at = b.at; hides_request = b.hides_request }

abbrev pub with_switch : Block → Bool → Block
with_switch b on = record { settings = b.settings; target = b.target; actual = b.actual; cause = b.cause; switch = on; input = b.input; at = b.at; hides_request = b.hides_request }

abbrev pub with_input : Block → Option Signal → Block
with_input b i = record { settings = b.settings; target = b.target; actual = b.actual; cause = b.cause; switch = b.switch; input = i; at = b.at; hides_request = b.hides_request }

-- a new input in the place of the one that there was, if there was one
abbrev pub put_input : Option Signal → Signal → Option Signal
put_input None i = None
put_input (Some j) i = Some i

abbrev pub with_sp : Block → Value → Block
with_sp b v = record { settings = b.settings; target = b.target; actual = b.actual; cause = b.cause; switch = b.switch; input = b.input; at = record { sp = v; pv = b.at.pv; out = b.at.out }; hides_request = b.hides_request }

abbrev pub with_out : Block → Value → Block
with_out b v = record { settings = b.settings; target = b.target; actual = b.actual; cause = b.cause; switch = b.switch; input = b.input; at = record { sp = b.at.sp; pv = b.at.pv; out = v }; hides_request = b.hides_request }

-- a block after a call that it accepts; what is written is pulled into the limits of what it is written to
abbrev pub changed : Block → Ask → Block
changed b (Target t) = elim (target_of t) [ None ↦ b | Some m ↦ with_target b m ]
changed b (Switch n) = with_switch b (n == 1)
changed b (Input z s) = with_input b (put_input b.input (record { value = value_near z; status = s }))
changed b (Setpoint z) = with_sp b (pulled b.settings.sp_limits (value_near z))
changed b (Output z) = with_out b (pulled b.settings.out_limits (value_near z))

abbrev pub after_ask : Block → Ask → Block
after_ask b a = elim (refusal_of b a) [ None ↦ changed b a | Some r ↦ b ]

abbrev pub answer_of : Block → Ask → Result (Unit {0}) Refusal
answer_of b a = elim (refusal_of b a) [ None ↦ Ok tt | Some r ↦ Err r ]
