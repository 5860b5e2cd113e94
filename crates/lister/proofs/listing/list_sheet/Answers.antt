use Rattle.std.proofs.Common.{◌≡◌, ◌≤◌, ◌++◌, length, is_ok, Err, vec_capacity, ap, ◌∙◌, arith}
use Rattle.std.proofs.lemmas.Bool.{both_ways}
use Rattle.sheet.specs.declared.record.SheetFault.TheVariants.{Memory}
use Rattle.lister.specs.Listing.{listing}
use Rattle.lister.proofs.Whole.{not_wanting, reads_whole}
use Rattle.lister.proofs.listing.list_sheet.Goals as goal

pub returns-in_err-done-clause-roomy : goal.returns-in_err-done-clause-roomy
returns-in_err-done-clause-roomy c k =
    let end = c.read_sheet-end.result in
    let r = c.read_sheet-end.ensures.reads in
    let same = r.1 ∙ ap (λ t. t ++ r.0) c.clear.ensures.items in
    let n = ap length same in
    let full = λ (m : end ≡ Err Memory). (let z : vec_capacity c.args.records.now ≤ length r.0 = omega (arith, c.read_sheet-end.ensures.full m, c.clear.ensures.capacity, c.read_sheet-end.new.records.ok.0) in z) in
    let room = k.for_text r.0 end (reads_whole c.args.bytes.now r.0 end (vec_capacity c.args.records.now) r.2 full k.for_records) in
    let text = ap (λ t. length (listing t end)) (c.as_slice.ensures.value ∙ same) in
    absurd (both_ways _ (ap is_ok c.in_err-done.was) (c.put-done.ensures.roomy (omega arith)))

pub returns-in-Err-Memory-clause-roomy : goal.returns-in-Err-Memory-clause-roomy
returns-in-Err-Memory-clause-roomy c k =
    let end = c.read_sheet-end.result in
    let r = c.read_sheet-end.ensures.reads in
    let n = ap length (r.1 ∙ ap (λ t. t ++ r.0) c.clear.ensures.items) in
    let m = c.in-Err-Memory.is ∙ ap Err (rw c.in-Err-Memory.is at c.in-Err-Memory.field-0-is) in
    let full = λ (m : end ≡ Err Memory). (let z : vec_capacity c.args.records.now ≤ length r.0 = omega (arith, c.read_sheet-end.ensures.full m, c.clear.ensures.capacity, c.read_sheet-end.new.records.ok.0) in z) in
    absurd (not_wanting c.args.bytes.now r.0 end (vec_capacity c.args.records.now) r.2 full k.for_records m)
