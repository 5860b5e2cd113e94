-- The worked cases hold. Assumes nothing.
use Rattle.std.proofs.Common.{◌≡◌, ℕ, true, false, pos, ◌+ℤ◌, ◌-ℤ◌, refl, ap, ◌∙◌, arith}
use Rattle.std.specs.Prelude.{int_le}
use Rattle.std.proofs.lemmas.Int.{ints}
use Rattle.std.proofs.lemmas.Bool.{cond-true, cond-false}
use Rattle.signal.specs.declared.kinds.Value.{Value}
use Rattle.signal.specs.declared.status.Signal.{Signal}
use Rattle.ends.specs.PulseFacts.{in_range_same}
use Rattle.ends.specs.Analog.{AnalogKept}
use Rattle.ends.specs.Pulse.{stepped, pulse_own, PulseKept}
use Rattle.ends.specs.Worked.{InCas, InAuto, ThirdFaults, Worked}
use Rattle.ends.specs.declared.analog.Analog.{Analog}
use Rattle.ends.specs.declared.pulse.Pulse.{Pulse}

third_faults : (a : Analog) (u v w : Value) → AnalogKept a → InCas a → a.fault_time.number ≡ 3 → a.count ≡ 0 → ThirdFaults a u v w
third_faults a u v w k i t n =
    let target = i.target in
    let actual = i.actual in
    let off = i.off in
    let input = k.block.no_input in
    record {
      first = simp (target, actual, off, input, t, n);
      second = simp (target, actual, off, input, t, n);
      third = simp (target, actual, off, input, t, n);
      shows = simp (target, actual, off, input, t, n);
    }

auto_out : (p : Pulse) (c : Signal) → PulseKept p → InAuto p → (pulse_own.rounded p c).block.at.out ≡ stepped p.block.at.out p.travel.number p.block.at.sp
auto_out p c k i =
    let target = i.target in
    let off = i.off in
    let input = k.block.no_input in
    simp (target, off, input)

module _ (from aim : Value) (travel : ℕ) where
  rests : travel ≡ 100 → aim.raw ≡ from.raw +ℤ pos 99 → stepped from travel aim ≡ from
  rests t e =
      let up : int_le (from.raw +ℤ pos travel) aim.raw ≡ false = grind (arith, ints) in
      let down : int_le aim.raw (from.raw -ℤ pos travel) ≡ false = grind (arith, ints) in
      cond-false _ _ _ up ∙ cond-false _ _ _ down

  raises : travel ≡ 100 → aim.raw ≡ from.raw +ℤ pos 100 → (stepped from travel aim).raw ≡ from.raw +ℤ pos 100
  raises t e =
      let up : int_le (from.raw +ℤ pos travel) aim.raw ≡ true = grind (arith, ints) in
      let low = aim.low in
      let high = aim.high in
      let same = in_range_same (from.raw +ℤ pos travel) (omega (arith, ints)) (omega (arith, ints)) in
      ap (λ (x : Value). x.raw) (cond-true _ _ _ up) ∙ (same ∙ ap (λ (n : ℕ). from.raw +ℤ pos n) t)

pub worked : Worked
worked = record {
  analog_settles_in_2 = λ a. refl;
  pulse_settles_in_3 = λ p. refl;
  fault_time_3 = third_faults;
  rests_at_99 = λ p c k i t e. auto_out p c k i ∙ rests p.block.at.out p.block.at.sp p.travel.number t e;
  raises_at_100 = λ p c k i t e. ap (λ (x : Value). x.raw) (auto_out p c k i) ∙ raises p.block.at.out p.block.at.sp p.travel.number t e;
}
