-- The numbers and places of a sheet's refusals. Assumes nothing.
use Rattle.std.specs.Prelude.{ℕ, Some, None, Option}
use Rattle.sheet.specs.declared.record.SheetFault.{SheetFault}
use Rattle.sheet.specs.declared.record.SheetFault.TheVariants.{CutShort, BitSeven, TooLong, Memory}

-- want of memory is no refusal of the sheet's, and has no number
abbrev pub fault_number : SheetFault → Option ℕ
fault_number (CutShort p) = Some 20
fault_number (BitSeven p) = Some 21
fault_number TooLong = Some 22
fault_number Memory = None

abbrev pub fault_place : SheetFault → ℕ
fault_place (CutShort p) = p
fault_place (BitSeven p) = p
fault_place TooLong = 0
fault_place Memory = 0
