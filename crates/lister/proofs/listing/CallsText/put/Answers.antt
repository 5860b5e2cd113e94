use Rattle.std.proofs.Common.{[], refl, ap, ◌∙◌}
use Rattle.std.proofs.lemmas.Result.{err_from_is_err_and}
use Rattle.std.specs.List.{flat_map}
use Rattle.sheet.specs.Calls.{calls_left}
use Rattle.lister.specs.Listing.{call_text}
use Rattle.lister.proofs.Parts.{part_none, part_more, part_stop, part_all}
use Rattle.lister.proofs.listing.CallsText.put.Goals as goal

pub loop-call-init : goal.loop-call-init
loop-call-init c = part_none c.args.out.now c.args.out.now c.args.out.now _ [] _ (ap (flat_map call_text) (ap calls_left c.into_iter-call-iterator.ensures.into_iter_gives ∙ c.calls-call-items.ensures))

pub loop-call-preserved : goal.loop-call-preserved
loop-call-preserved c = part_more c.args.out.now c.loop-call.out c.put.new.out _ (flat_map call_text (calls_left c.next.new.self)) _ (call_text c.in-Some.call) (ap (flat_map call_text) c.in-Some.ensures.steps) c.loop-call.invariant c.in_ok-put.ensures

pub returns-in_err-put : goal.returns-in_err-put
returns-in_err-put c =
    let p = err_from_is_err_and c.from_residual.result c.from_residual.ensures.1 in
    rw p.1 (part_stop c.args.out.now c.loop-call.out c.put.new.out _ (flat_map call_text (calls_left c.next.new.self)) _ (call_text c.in-Some.call) _ (ap (flat_map call_text) c.in-Some.ensures.steps) c.loop-call.invariant refl c.in_err-put.ensures)

pub returns : goal.returns
returns c = part_all c.args.out.now c.loop-call.out c.loop-call.out _ [] _ (ap (flat_map call_text) c.in-None.ensures.steps.0) c.loop-call.invariant
