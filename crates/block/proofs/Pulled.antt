-- Values pulled into limits: inside, and the value itself where it lies inside; the low end lies inside too. Assumes nothing.
use Rattle.std.proofs.Common.{◌≡◌, false, ◌∙◌, arith}
use Rattle.std.specs.Prelude.{int_lt}
use Rattle.std.proofs.lemmas.Int.{ints}
use Rattle.std.proofs.lemmas.Bool.{cond_both, cond-false}
use Rattle.signal.specs.Limits.{pulled, Inside}
use Rattle.signal.specs.declared.kinds.Limits.{Limits}
use Rattle.signal.specs.declared.kinds.Value.{Value}

pub pulled_same : (l : Limits) (v : Value) → Inside l v → pulled l v ≡ v
pulled_same l v h =
    let low : int_lt v.raw l.low.raw ≡ false = grind (arith, ints) in
    let high : int_lt l.high.raw v.raw ≡ false = grind (arith, ints) in
    cond-false _ _ _ low ∙ cond-false _ _ _ high

pub pulled_inside : (l : Limits) (v : Value) → Inside l (pulled l v)
pulled_inside l v =
    let o = l.ordered in
    cond_both (int_lt v.raw l.low.raw) _ _ (Inside l) (λ _. (omega (arith, ints), omega (arith, ints)))
    (λ low. cond_both (int_lt l.high.raw v.raw) _ _ (Inside l) (λ _. (omega (arith, ints), omega (arith, ints)))
    (λ high. (grind (arith, ints), grind (arith, ints))))

pub low_inside : (l : Limits) → Inside l l.low
low_inside l = let o = l.ordered in (omega (arith, ints), omega (arith, ints))
