use Rattle.std.proofs.Common.{◌≡◌, ◌+◌, length, drop}
use Rattle.sheet.specs.Bytes.{sheet_bytes}
use Rattle.lister.specs.Listing.{lines_from}
use Rattle.lister.proofs.Parts.{Part}
use Rattle.lister.proofs.listing.LinesText.put.Given as goal

abbrev pub invariant-loop-record : goal.invariant-loop-record
invariant-loop-record l =
    Part l.initial.out l.out (lines_from l.place (drop l.record-index l.self.records.now)) (lines_from 0 l.self.records.now)
    × (l.place + length (sheet_bytes (drop l.record-index l.self.records.now)) ≡ length (sheet_bytes l.self.records.now))
