-- Two values of one number are equal: that it lies in the range is no more than a fact. Assumes nothing.
use Rattle.std.proofs.Common.{◌≡◌, Bool, true, false, cond, ℤ, pos, negsuc, ◌≤ℤ◌, sym, refl, ap, ◌∙◌, arith}
use mathlib.Core.HLevel.{is_prop→PathP}
use lib.Dec.{T_prop}
use lib.Signed.{le_z, lt_z}
use Rattle.std.proofs.lemmas.Int.{ints}
use Rattle.signal.specs.Limits.{pulled}
use Rattle.signal.specs.Nearest.{nearest_to}
use Rattle.signal.specs.Value.{in_range, value_near}
use Rattle.signal.specs.declared.kinds.Limits.{Limits}
use Rattle.signal.specs.declared.kinds.Value.{Value}

le_same : (a b : ℤ) → IsProp (a ≤ℤ b)
le_same a b p q = λ i. record { le = T_prop (le_z a b) p.le q.le i }

pub same_value : (a b : Value) → a.raw ≡ b.raw → a ≡ b
same_value a b e = λ i. record {
  raw = e i;
  low = is_prop→PathP (λ j. negsuc 999999 ≤ℤ e j) (λ j. le_same (negsuc 999999) (e j)) a.low b.low i;
  high = is_prop→PathP (λ j. e j ≤ℤ pos 1000000) (λ j. le_same (e j) (pos 1000000)) a.high b.high i;
}

pub near_itself : (v : Value) → v ≡ value_near v.raw
near_itself v = let e : v.raw ≡ in_range v.raw = grind (arith, ints) in same_value v (value_near v.raw) e

cond_raw : (b : Bool) (x y : Value) → (cond b x y).raw ≡ cond b x.raw y.raw
cond_raw true x y = refl
cond_raw false x y = refl

pub is_pulled : (l : Limits) (v r : Value) → r.raw ≡ nearest_to l.low.raw l.high.raw v.raw → r ≡ pulled l v
is_pulled l v r e =
    let above : Bool = lt_z l.high.raw v.raw in
    let below : Bool = lt_z v.raw l.low.raw in
    same_value r (pulled l v)
    (e ∙ sym (cond_raw below l.low (cond above l.high v) ∙ ap (λ (z : ℤ). cond below l.low.raw z) (cond_raw above l.high v)))
