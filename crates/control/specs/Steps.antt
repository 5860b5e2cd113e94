-- The steps of a control block's round, one by one. Assumes nothing.
--     next_pv b                     1: a usable input becomes the process value, else that stands
--     next_sp b m above             3: the setpoint in the mode m that the round brings
--     next_out b m below track law  4: the output in that mode, with what the law's step answers
--     sent_status b m below above   6: the status that goes down with the output
use Rattle.std.specs.Prelude.{ℕ, Bool, cond, not, ◌&&◌, ◌||◌, Some, None, Option}
use Rattle.signal.specs.Limits.{pulled}
use Rattle.signal.specs.Status.{same_code, quality_of}
use Rattle.signal.specs.declared.kinds.Value.{Value}
use Rattle.signal.specs.declared.mode.Mode.{Mode}
use Rattle.signal.specs.declared.mode.Mode.TheVariants.{OutOfService, IMan, Lo, Man, Auto, Cas}
use Rattle.signal.specs.declared.status.Quality.{Quality}
use Rattle.signal.specs.declared.status.Quality.TheVariants.{Bad, Uncertain, Good, GoodCascade}
use Rattle.signal.specs.declared.status.Signal.{Signal}
use Rattle.block.specs.Lines.{usable}
use Rattle.block.specs.Modes.{is_os, is_iman, is_cas, runs}
use Rattle.block.specs.declared.kinds.Block.{Block}

abbrev pub taken_in : Option Signal → Bool → Value → Value
taken_in None usable pv = pv
taken_in (Some i) usable pv = cond usable i.value pv

abbrev pub next_pv : Block → Value
next_pv b = taken_in b.input (usable b) b.at.pv

-- with the option that the setpoint tracks the process value
abbrev pub tracked_sp : Block → Value
tracked_sp b = cond b.settings.options.track_pv (pulled b.settings.sp_limits (next_pv b)) b.at.sp

abbrev pub next_sp : Block → Mode → Value → Value
next_sp b OutOfService above = b.at.sp
next_sp b IMan above = tracked_sp b
next_sp b Lo above = tracked_sp b
next_sp b Man above = tracked_sp b
next_sp b Auto above = b.at.sp
next_sp b Cas above = pulled b.settings.sp_limits above

-- what is shown below, save that nothing is taken from a Bad one
abbrev pub taken_back : Quality → Value → Value → Value
taken_back Bad below out = out
taken_back Uncertain below out = below
taken_back Good below out = below
taken_back GoodCascade below out = below

abbrev pub next_out : Block → Mode → Signal → Value → Value → Value
next_out b OutOfService below track law = b.at.out
next_out b IMan below track law = taken_back (quality_of below.status.0) below.value b.at.out
next_out b Lo below track law = track
next_out b Man below track law = b.at.out
next_out b Auto below track law = pulled b.settings.out_limits law
next_out b Cas below track law = pulled b.settings.out_limits law

-- the fault state goes down from above to a block that is to follow it, and by option from an unusable input
abbrev pub sends_fault : Block → ℕ → Bool
sends_fault b above =
    (is_cas b.target && same_code above 0xE0)
    || (not (usable b) && (runs b.target && b.settings.options.fault_on_bad_input))

abbrev pub sent_status : Block → Mode → ℕ → ℕ → ℕ
sent_status b m below above =
    cond (is_os m) 0x1C (cond (sends_fault b above) 0xE0 (cond (is_iman m && same_code below 0xC8) 0xC4 0xC0))
