use Rattle.std.specs.List.{flat_map}
use Rattle.sheet.specs.Calls.{calls_of, calls_left}
use Rattle.lister.specs.Listing.{call_text}
use Rattle.lister.proofs.Parts.{Part}
use Rattle.lister.proofs.listing.CallsText.put.Given as goal

abbrev pub invariant-loop-call : goal.invariant-loop-call
invariant-loop-call l = Part l.initial.out l.out (flat_map call_text (calls_left l.call-iterator)) (flat_map call_text (calls_of l.self.0.now))
