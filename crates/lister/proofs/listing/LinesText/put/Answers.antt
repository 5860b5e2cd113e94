use Rattle.std.proofs.Common.{[], get_or, refl, arith}
use Rattle.std.proofs.lemmas.Result.{err_from_is_err_and}
use Rattle.lister.specs.Listing.{record_line}
use Rattle.lister.proofs.Lines.{blank, lines_more, lines_all, bytes_more}
use Rattle.lister.proofs.Parts.{part_more, part_stop, part_all}
use Rattle.lister.proofs.listing.LinesText.put.Goals as goal

pub returns-in_err-put : goal.returns-in_err-put
returns-in_err-put c =
    let p = err_from_is_err_and c.from_residual.result c.from_residual.ensures.1 in
    let l = c.loop-record in
    rw p.1
    (part_stop c.args.out.now l.out c.put.new.out _ _ _ (record_line l.place (get_or c.args.self.records.now l.record-index blank)) _
    (lines_more c.args.self.records.now l.record-index l.place c.loop-record-test.true _ refl) l.invariant.0 refl c.in_err-put.ensures)

pub loop-record-preserved : goal.loop-record-preserved
loop-record-preserved c =
    let l = c.loop-record in
    let rs = c.args.self.records.now in (
      part_more c.args.out.now l.out c.put.new.out _ _ _ (record_line l.place (get_or rs l.record-index blank))
          (lines_more rs l.record-index l.place c.loop-record-test.true c.len-place.result c.len-place.ensures) l.invariant.0 c.in_ok-put.ensures,
      omega (arith, l.invariant.1, c.len-place.ensures, bytes_more rs l.record-index l.place c.loop-record-test.true),
    )

pub returns : goal.returns
returns c =
    let l = c.loop-record in
    part_all c.args.out.now l.out l.out _ [] _ (lines_all c.args.self.records.now l.record-index l.place c.loop-record-test.false) l.invariant.0
