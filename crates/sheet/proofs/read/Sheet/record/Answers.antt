use Rattle.std.proofs.Common.{◌<◌, get_or, refl, rules}
use Rattle.sheet.proofs.Places.{seventh_here, record_here}
use Rattle.sheet.proofs.read.Sheet.record.Goals as goal

pub returns-then-map-ge128 : goal.returns-then-map-ge128
returns-then-map-ge128 c =
    let x = c.in-Some-len1-up in
    let e = c.in-Some.ensures in
    let w : get_or x.field-0.now 0 0 < 256 = search rules in
    (c.args.self.now.short, refl, seventh_here c.args.self.now.bytes.now x.field-0.now c.args.place c.in-Some.record c.in-Some.rest.now x.ensures.lookup.0.2 x.len_at_least e.0 e.1 w c.if-map-ge128.true)

pub returns : goal.returns
returns c =
    let x = c.in-Some-len1-up in
    let e = c.in-Some.ensures in
    record_here c.args.self.now.bytes.now x.field-0.now c.args.place c.in-Some.record c.in-Some.rest.now x.ensures.lookup.0.2 x.len_at_least e.0 e.1 c.args.self.now.short e.2 c.if-map-ge128.false
