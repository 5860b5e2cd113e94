-- The lines that choose a block's mode in a round, the first that fits, and what a round may move. Assumes nothing.
--     next_mode b below fault above    the mode that the round brings b to, with the status below it, its fault line and the
--                                      status from above. An end has nothing below: it counts as linked
--     usable b                         b's input is usable: good, or uncertain where b takes that. A block without input has
--                                      nothing that is unusable
--     moved b m p hides                b as a round leaves it: target, switch, input and settings stand
use Rattle.std.specs.Prelude.{ℕ, Bool, true, false, cond, not, ◌&&◌, ◌||◌, Some, None, Option}
use Rattle.signal.specs.Status.{same_code, quality_of}
use Rattle.signal.specs.declared.kinds.OperatingPoint.{OperatingPoint}
use Rattle.signal.specs.declared.mode.LoCause.{LoCause}
use Rattle.signal.specs.declared.mode.LoCause.TheVariants.{Switch, Fault}
use Rattle.signal.specs.declared.mode.Mode.{Mode}
use Rattle.signal.specs.declared.mode.Mode.TheVariants.{OutOfService, IMan, Lo, Man, Auto, Cas}
use Rattle.signal.specs.declared.status.Quality.{Quality}
use Rattle.signal.specs.declared.status.Quality.TheVariants.{Bad, Uncertain, Good, GoodCascade}
use Rattle.signal.specs.declared.status.Signal.{Signal}
use Rattle.block.specs.Modes.{is_os, is_man, is_auto, is_cas}
use Rattle.block.specs.Shown.{shown_status}
use Rattle.block.specs.declared.kinds.Block.{Block}

abbrev pub good_enough : Quality → Bool → Bool
good_enough Bad uncertain = false
good_enough Uncertain uncertain = uncertain
good_enough Good uncertain = true
good_enough GoodCascade uncertain = true

abbrev pub usable_input : Option Signal → Bool → Bool
usable_input None uncertain = true
usable_input (Some i) uncertain = good_enough (quality_of i.status.0) uncertain

abbrev pub usable : Block → Bool
usable b = usable_input b.input b.settings.options.uncertain_usable

-- what keeps a block in Cas: linked, acknowledged, or told to go to its fault state
abbrev pub keeps_cas : ℕ → Bool
keeps_cas above = same_code above 0xC0 || (same_code above 0xC4 || same_code above 0xE0)

-- where the block was in Cas, the target is Cas by then; that it is asked once more spares a premise on targets
abbrev pub next_mode : Block → ℕ → Bool → ℕ → Mode
next_mode b below fault above =
    cond (is_os b.target) OutOfService
    (cond (not (same_code below 0xC0)) IMan
    (cond b.switch Lo
    (cond fault Lo
    (cond (is_man b.target || not (usable b)) Man
    (cond (is_auto b.target) Auto
    (cond (is_cas b.actual && (is_cas b.target && keeps_cas above)) Cas
    (cond (same_code (shown_status b) 0xC8 && same_code above 0xC4) Cas
    Auto)))))))

-- what LO came by, if the round brought LO: the switch wins over the fault
abbrev pub cause_of : Bool → LoCause
cause_of true = Switch
cause_of false = Fault

abbrev pub moved : Block → Mode → OperatingPoint → Bool → Block
moved b m p hides = record { settings = b.settings; target = b.target; actual = m; cause = cause_of b.switch; switch = b.switch; input = b.input; at = p; hides_request = hides }
