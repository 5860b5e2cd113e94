-- Why a law was not made. Assumes nothing.
--     law_fault_number e    the number given out for e
use Rattle.std.specs.Prelude.{ℕ}
use Rattle.law.specs.declared.fault.LawFault.{LawFault}
use Rattle.law.specs.declared.fault.LawFault.TheVariants.{NumberOutOfRange}

abbrev pub law_fault_number : LawFault → ℕ
law_fault_number NumberOutOfRange = 11
