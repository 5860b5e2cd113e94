-- Tests on modes. Assumes nothing.
--     is_os, is_iman, is_man, is_auto, is_cas m    m is that mode
--     runs m                                       m is Auto or Cas: the block works its output out
use Rattle.std.specs.Prelude.{Bool, true, false}
use Rattle.signal.specs.declared.mode.Mode.{Mode}
use Rattle.signal.specs.declared.mode.Mode.TheVariants.{OutOfService, IMan, Lo, Man, Auto, Cas}

abbrev pub is_os : Mode → Bool
is_os OutOfService = true
is_os IMan = false
is_os Lo = false
is_os Man = false
is_os Auto = false
is_os Cas = false

abbrev pub is_iman : Mode → Bool
is_iman OutOfService = false
is_iman IMan = true
is_iman Lo = false
is_iman Man = false
is_iman Auto = false
is_iman Cas = false

abbrev pub is_man : Mode → Bool
is_man OutOfService = false
is_man IMan = false
is_man Lo = false
is_man Man = true
is_man Auto = false
is_man Cas = false

abbrev pub is_auto : Mode → Bool
is_auto OutOfService = false
is_auto IMan = false
is_auto Lo = false
is_auto Man = false
is_auto Auto = true
is_auto Cas = false

abbrev pub is_cas : Mode → Bool
is_cas OutOfService = false
is_cas IMan = false
is_cas Lo = false
is_cas Man = false
is_cas Auto = false
is_cas Cas = true

abbrev pub runs : Mode → Bool
runs OutOfService = false
runs IMan = false
runs Lo = false
runs Man = false
runs Auto = true
runs Cas = true
