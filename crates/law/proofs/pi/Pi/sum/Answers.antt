use Rattle.std.proofs.Common.{◌∙◌, arith, w32, SFits, rules}
use Rattle.std.proofs.lemmas.Int.{ints}
use Rattle.law.proofs.Scaled.{parts_fit, scaled_same, sum_fits, sum_is, summed}
use Rattle.law.proofs.pi.Pi.sum.Goals as goal

pub overflow_add-result : goal.overflow_add-result
overflow_add-result c =
    parts_fit c.times.result c.times-2.result c.times-3.result c.times.ensures.fits c.times-2.ensures.fits c.times-3.ensures.fits

pub overflow_add-result-2 : goal.overflow_add-result-2
overflow_add-result-2 c =
    sum_fits c.times.result c.times-2.result c.times-3.result c.times.ensures.fits c.times-2.ensures.fits c.times-3.ensures.fits c.from.result
    (omega (arith, ints))

pub returns : goal.returns
returns c =
    let s = c.args.self.now in
    let e = c.args.error in
    let f : SFits w32 s.last_error = search rules in
    let p = scaled_same c.times.result _ e s.p.thousandths c.times.ensures.value (omega (arith, ints)) in
    let l = scaled_same c.times-2.result _ s.last_error s.p.thousandths c.times-2.ensures.value (omega (arith, ints)) in
    let i = scaled_same c.times-3.result _ e s.i.thousandths c.times-3.ensures.value (omega (arith, ints)) in
    summed c.times.result c.times-2.result c.times-3.result c.times.ensures.fits c.times-2.ensures.fits c.times-3.ensures.fits c.from.result (omega (arith, ints))
    ∙ sum_is s.p.thousandths s.i.thousandths s.rest e s.last_error _ _ _ _ p l i c.from.ensures
