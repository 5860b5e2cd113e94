-- The starting rule of both laws: the first step after a start answers the output. Assumes nothing.
use Rattle.std.specs.Prelude.{◌≡◌, ℕ, ℤ, pos, ◌+ℤ◌, ◌-ℤ◌, ◌*ℤ◌}
use Rattle.std.proofs.Common.{sym, ◌∙◌, ap, arith}
use Rattle.std.proofs.Math.IntN.{*ℤ-zero}
use Rattle.std.proofs.lemmas.Int.{ints}
use Rattle.signal.specs.Value.{value_near}
use Rattle.signal.specs.declared.kinds.OperatingPoint.{OperatingPoint}
use Rattle.signal.specs.declared.kinds.Value.{Value}
use Rattle.signal.proofs.Same.{near_itself}
use Rattle.law.specs.GainBias.{gain_bias_model, gained_by}
use Rattle.law.specs.Law.{LawMeaning}
use Rattle.law.specs.Pi.{error_of, pi_model, pi_started, pi_sum}
use Rattle.law.specs.Quotient.{whole_of}
use Rattle.law.specs.declared.pi.Action.{Action}
use Rattle.law.specs.declared.pi.Action.TheVariants.{Reverse, Direct}

answers_output : (out : Value) (z : ℤ) → z ≡ out.raw → value_near z ≡ out
answers_output out z e = sym (near_itself out ∙ ap value_near (sym e))

error_none : (a : Action) (p : OperatingPoint) → p.sp ≡ p.pv → error_of a p ≡ pos 0
error_none Reverse p e = let r = ap (λ (v : Value). v.raw) e in omega (arith, ints)
error_none Direct p e = let r = ap (λ (v : Value). v.raw) e in omega (arith, ints)

-- no change of the error, no error and no remainder: nothing to add
sum_none : (p i : ℕ) (e : ℤ) → e ≡ pos 0 → pos p *ℤ (e -ℤ e) +ℤ pos i *ℤ e +ℤ pos 0 ≡ pos 0
sum_none p i e h =
    ap (λ (z : ℤ). pos p *ℤ (z -ℤ z) +ℤ pos i *ℤ z +ℤ pos 0) h ∙ omega (arith, ints, *ℤ-zero (pos p), *ℤ-zero (pos i))

pub pi_meaning : LawMeaning pi_model
pi_meaning = record {
  starting_rule = λ s p e.
      let err = error_of s.action p in
      let none : pi_sum (pi_started s p) p ≡ pos 0 = sum_none s.p.thousandths s.i.thousandths err (error_none s.action p e) in
      answers_output p.out _ (ap (λ (z : ℤ). p.out.raw +ℤ whole_of z) none ∙ omega (arith, ints));
}

pub gain_bias_meaning : LawMeaning gain_bias_model
gain_bias_meaning = record { starting_rule = λ s p e. answers_output p.out (gained_by s p.sp +ℤ (p.out.raw -ℤ gained_by s p.sp)) (omega (arith, ints)) }
