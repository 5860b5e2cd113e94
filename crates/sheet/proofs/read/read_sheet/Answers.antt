use Rattle.std.proofs.Common.{[], vec_items, sym, append-nil, subst}
use Rattle.std.proofs.lemmas.Result.{err_from_is_err_and}
use Rattle.sheet.specs.OneWay.{NotTooLong, BadAt, too_long}
use Rattle.sheet.proofs.Sofar.{sofar_all, sofar_bad}
use Rattle.sheet.proofs.read.read_sheet.Goals as goal

pub returns-in_err-sheet-clause-reads : goal.returns-in_err-sheet-clause-reads
returns-in_err-sheet-clause-reads c =
    let p = err_from_is_err_and c.from_residual.result c.from_residual.ensures.1 in
    let e = c.in_err-sheet.ensures in
    rw (p.1, p.2, e.0) ([], sym (append-nil _), too_long e.1)

pub returns-in_err-record-clause-reads : goal.returns-in_err-record-clause-reads
returns-in_err-record-clause-reads c =
    let p = err_from_is_err_and c.from_residual-in_err-record.result c.from_residual-in_err-record.ensures.1 in
    let e = c.in_ok-sheet.ensures in
    let at = c.loop-place.place in
    let f = c.in_err-record.field-0.0 in
    rw (p.1, p.2)
    (sofar_bad c.args.bytes.now (vec_items c.args.records.now) (vec_items c.loop-place.records) at (subst NotTooLong e c.in_ok-sheet.sheet.short) c.loop-place.invariant.0 f
    c.loop-place-test.true (subst (λ b. BadAt b at f) e c.in_err-record.ensures))

pub returns-clause-reads : goal.returns-clause-reads
returns-clause-reads c =
    sofar_all c.args.bytes.now (vec_items c.args.records.now) (vec_items c.loop-place.records) c.loop-place.place
    (subst NotTooLong c.in_ok-sheet.ensures c.in_ok-sheet.sheet.short) c.loop-place.invariant.0 c.loop-place-test.false
