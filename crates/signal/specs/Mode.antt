-- The modes of a block: byte, word and shown status of each, and which bytes are targets. Assumes nothing.
--     mode_byte m           the byte of the mode m
--     mode_word m           the word that is printed for it
--     mode_shows m to by    the status that it shows upward, with the target `to`, and in LO by the cause `by`
--     may_target m          m can be asked for
--     TargetFrom b r        r is the mode that b asks for, or b is the byte of none that can be asked for
--     target_of b           the mode that b asks for, as a function
use Rattle.std.specs.Prelude.{◌≡◌, ℕ, Bool, true, false, cond, List, Some, None, Ok, Err, codes, Option, Result, ◌==◌, ◌≢◌}
use Rattle.signal.specs.declared.mode.Mode.{Mode}
use Rattle.signal.specs.declared.mode.Mode.TheVariants.{OutOfService, IMan, Lo, Man, Auto, Cas}
use Rattle.signal.specs.declared.mode.LoCause.{LoCause}
use Rattle.signal.specs.declared.mode.LoCause.TheVariants.{Switch, Fault}
use Rattle.signal.specs.declared.mode.TargetFault.{TargetFault}
use Rattle.signal.specs.declared.mode.TargetFault.TheVariants.{NotATarget}

abbrev pub mode_byte : Mode → ℕ
mode_byte OutOfService = 0x80
mode_byte IMan = 0x40
mode_byte Lo = 0x20
mode_byte Man = 0x10
mode_byte Auto = 0x08
mode_byte Cas = 0x04

abbrev pub mode_word : Mode → List ℕ
mode_word OutOfService = codes "OS"
mode_word IMan = codes "IMAN"
mode_word Lo = codes "LO"
mode_word Man = codes "MAN"
mode_word Auto = codes "AUTO"
mode_word Cas = codes "CAS"

-- LO shows what brought it; AUTO asks from above only where it is to come into CAS
abbrev pub lo_shows : LoCause → ℕ
lo_shows Switch = 0xD8
lo_shows Fault = 0xDC

abbrev pub auto_shows : Mode → ℕ
auto_shows OutOfService = 0xCC
auto_shows IMan = 0xCC
auto_shows Lo = 0xCC
auto_shows Man = 0xCC
auto_shows Auto = 0xCC
auto_shows Cas = 0xC8

abbrev pub mode_shows : Mode → Mode → LoCause → ℕ
mode_shows OutOfService to by = 0x1C
mode_shows IMan to by = 0xCC
mode_shows Lo to by = lo_shows by
mode_shows Man to by = 0xCC
mode_shows Auto to by = auto_shows to
mode_shows Cas to by = 0xC0

abbrev pub target_fault_number : TargetFault → ℕ
target_fault_number NotATarget = 3

abbrev pub may_target : Mode → Bool
may_target OutOfService = true
may_target IMan = false
may_target Lo = false
may_target Man = true
may_target Auto = true
may_target Cas = true

abbrev pub TargetFrom : ℕ → Result Mode TargetFault → Type 0
TargetFrom b (Ok m) = (may_target m ≡ true) × (b ≡ mode_byte m)
TargetFrom b (Err e) = (target_fault_number e ≡ 3) × ((m : Mode) → may_target m ≡ true → b ≢ mode_byte m)

abbrev pub target_of : ℕ → Option Mode
target_of b =
    cond (b == mode_byte OutOfService) (Some OutOfService)
    (cond (b == mode_byte Man) (Some Man)
    (cond (b == mode_byte Auto) (Some Auto)
    (cond (b == mode_byte Cas) (Some Cas) None)))
