-- The worked cases: a law that was just made is one record, and the rest computes. Assumes nothing.
use Rattle.std.proofs.Common.{◌≡◌, ℕ, ℤ, pos, negsuc, ◌-ℤ◌, sym, refl, ap, ◌∙◌, subst, arith}
use Rattle.std.proofs.Math.IntN.{*ℤ-zero}
use Rattle.std.proofs.lemmas.Int.{ints}
use Rattle.law.specs.GainBias.{FreshGainBias, gain_bias_model, gained_by}
use Rattle.law.specs.Pi.{FreshPi, action_number, error_of}
use Rattle.law.specs.Quotient.{whole_of}
use Rattle.law.specs.Worked.{Worked, pi_first, pi_once, pi_second, zero_value, at_setpoint}
use Rattle.law.specs.declared.gain_bias.GainBias.{GainBias}
use Rattle.law.specs.declared.pi.Action.{Action}
use Rattle.law.specs.declared.pi.Action.TheVariants.{Reverse, Direct}
use Rattle.law.specs.declared.pi.Pi.{Pi}
use Rattle.signal.specs.Value.{value_near}

same_action : (a b : Action) → action_number a ≡ action_number b → a ≡ b
same_action Reverse Reverse e = refl
same_action Reverse Direct e = absurd (omega arith)
same_action Direct Reverse e = absurd (omega arith)
same_action Direct Direct e = refl

abbrev pi_made : ℕ → ℕ → Action → Pi
pi_made p i a = record { p = record { thousandths = p }; i = record { thousandths = i }; action = a; last_error = pos 0; rest = 0 }

pi_fresh : (s : Pi) (p i : ℕ) (a : Action) → FreshPi (pos p) (pos i) (action_number a) s → pi_made p i a ≡ s
pi_fresh s p i a f =
    let ep : p ≡ s.p.thousandths = omega (arith, ints) in
    let ei : i ≡ s.i.thousandths = omega (arith, ints) in
    let ea : a ≡ s.action = same_action a s.action (sym f.action_is) in
    λ j. record {
      p = record { thousandths = ep j };
      i = record { thousandths = ei j };
      action = ea j;
      last_error = sym f.last_error_none j;
      rest = sym f.rest_none j;
    }

abbrev gain_bias_made : ℕ → GainBias
gain_bias_made g = record { gain = record { thousandths = g }; bias = pos 0 }

gain_bias_fresh : (s : GainBias) (g : ℕ) → FreshGainBias (pos g) s → gain_bias_made g ≡ s
gain_bias_fresh s g f =
    let eg : g ≡ s.gain.thousandths = omega (arith, ints) in
    λ j. record { gain = record { thousandths = eg j }; bias = sym f.bias_none j }

no_error : (a : Action) → error_of a (at_setpoint (pos 0)) ≡ pos 0
no_error Reverse = refl
no_error Direct = refl

pub worked : Worked
worked = record {
  pi_fresh_started = λ s p i a f j. record {
    p = s.p;
    i = s.i;
    action = s.action;
    last_error = (no_error s.action ∙ sym f.last_error_none) j;
    rest = sym f.rest_none j;
  };
  gain_bias_fresh_started = λ s g f.
      let e : pos 0 -ℤ gained_by s zero_value ≡ s.bias = ap (λ (z : ℤ). pos 0 -ℤ whole_of z) (*ℤ-zero (pos s.gain.thousandths)) ∙ sym f.bias_none in
      λ j. record { gain = s.gain; bias = e j };
  pi_both_gains = λ s f. subst (λ (x : Pi). pi_first x (pos 500) ≡ pos 550) (pi_fresh s 1000 100 Reverse f) refl;
  pi_two_halves = λ s f. subst (λ (x : Pi). (pi_first x (pos 500) ≡ pos 0) × (pi_second x (pos 500) ≡ pos 1)) (pi_fresh s 0 1 Reverse f) (refl, refl);
  pi_below_zero = λ s f. subst (λ (x : Pi). (pi_first x (negsuc 0) ≡ negsuc 0) × ((pi_once x (negsuc 0)).rest ≡ 999)) (pi_fresh s 0 1 Reverse f) (refl, refl);
  pi_turned = λ s f. subst (λ (x : Pi). (pi_first x (pos 1) ≡ negsuc 0) × ((pi_once x (pos 1)).rest ≡ 999)) (pi_fresh s 0 1 Direct f) (refl, refl);
  gain_bias_moves = λ s pv out f.
      subst (λ (x : GainBias). (gain_bias_model.answer (gain_bias_model.started x (record { sp = value_near (pos 100); pv = pv; out = value_near (pos 40) })) (record { sp = value_near (pos 101); pv = pv; out = out })).raw ≡ pos 41)
      (gain_bias_fresh s 1500 f) refl;
}
