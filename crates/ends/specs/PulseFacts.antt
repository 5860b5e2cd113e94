-- A pulse end shows all that an end of one block owes. Assumes nothing.
use Rattle.std.specs.Prelude.{◌≡◌, ℕ, ◌<◌, ◌≤◌, Bool, true, false, not, ◌⊎◌, ℤ, pos, negsuc, ◌+ℤ◌, ◌-ℤ◌, ◌≤ℤ◌, int_le, int_lt, refl}
use Rattle.std.proofs.Common.{◌∙◌, inl, inr, arith, lit<, lit≤}
use Rattle.std.proofs.lemmas.Int.{ints}
use Rattle.std.proofs.lemmas.Bool.{cond_both, cond-false}
use Rattle.signal.specs.Limits.{Inside}
use Rattle.signal.specs.Value.{in_range, value_near}
use Rattle.signal.specs.declared.kinds.Limits.{Limits}
use Rattle.signal.specs.declared.kinds.Value.{Value}
use Rattle.signal.specs.declared.mode.Mode.{Mode}
use Rattle.signal.specs.declared.mode.Mode.TheVariants.{OutOfService, IMan, Lo, Man, Auto, Cas}
use Rattle.signal.specs.declared.status.Signal.{Signal}
use Rattle.block.specs.Alone.{AloneFacts}
use Rattle.block.specs.Modes.{runs}
use Rattle.ends.specs.Rounds.{fresh_kept, block_asked, block_rounded, round_owes, aim_inside, led, invited_mode}
use Rattle.ends.specs.Making.{fresh_pulse}
use Rattle.ends.specs.Pulse.{stepped, pulse_out, pulse_hides, pulse_rounded, PulseKept, pulse_away, pulse_own}
use Rattle.ends.specs.Round.{end_mode, end_aim}
use Rattle.ends.specs.declared.pulse.Pulse.{Pulse}

off : (a b : ℤ) → int_le a b ≡ true → a ≤ℤ b
off a b e = grind (arith, ints)

-- a number in the range of values is its own nearest
pub in_range_same : (z : ℤ) → negsuc 999999 ≤ℤ z → z ≤ℤ pos 1000000 → in_range z ≡ z
in_range_same z low high =
    let below : int_lt z (negsuc 999999) ≡ false = grind (arith, ints) in
    let above : int_lt (pos 1000000) z ≡ false = grind (arith, ints) in
    cond-false _ _ _ below ∙ cond-false _ _ _ above

near_inside : (l : Limits) (z : ℤ) → l.low.raw ≤ℤ z → z ≤ℤ l.high.raw → Inside l (value_near z)
near_inside l z low high =
    let least = l.low.low in
    let most = l.high.high in
    let e = in_range_same z (omega (arith, ints)) (omega (arith, ints)) in
    (rw e low, rw e high)

module _ (l : Limits) (from aim : Value) (travel : ℕ) (inside : Inside l from) (aim_in : Inside l aim) where
  raised_inside : int_le (from.raw +ℤ pos travel) aim.raw ≡ true → Inside l (value_near (from.raw +ℤ pos travel))
  raised_inside e =
      let far = off (from.raw +ℤ pos travel) aim.raw e in
      near_inside l (from.raw +ℤ pos travel) (omega (arith, ints)) (omega (arith, ints))

  lowered_inside : int_le aim.raw (from.raw -ℤ pos travel) ≡ true → Inside l (value_near (from.raw -ℤ pos travel))
  lowered_inside e =
      let far = off aim.raw (from.raw -ℤ pos travel) e in
      near_inside l (from.raw -ℤ pos travel) (omega (arith, ints)) (omega (arith, ints))

  stepped_inside : Inside l (stepped from travel aim)
  stepped_inside =
      cond_both (int_le (from.raw +ℤ pos travel) aim.raw) _ _ (Inside l) raised_inside
      (λ _. cond_both (int_le aim.raw (from.raw -ℤ pos travel)) _ _ (Inside l) lowered_inside (λ _. inside))

out_inside : (p : Pulse) (m : Mode) (aim : Value) → PulseKept p → Inside p.block.settings.sp_limits aim
    → Inside p.block.settings.sp_limits (pulse_out p m aim)
out_inside p OutOfService aim k h = k.block.out_inside
out_inside p IMan aim k h = k.block.out_inside
out_inside p Lo aim k h = k.block.out_inside
out_inside p Man aim k h = k.block.out_inside
out_inside p Auto aim k h = stepped_inside p.block.settings.sp_limits p.block.at.out aim p.travel.number k.block.out_inside h
out_inside p Cas aim k h = stepped_inside p.block.settings.sp_limits p.block.at.out aim p.travel.number k.block.out_inside h

kept_rounded : (p : Pulse) (c : Signal) → PulseKept p → PulseKept (pulse_rounded p c)
kept_rounded p c k = record {
  block = block_rounded p.block false c _ (pulse_hides p) k.block
      (out_inside p (end_mode p.block false c) (end_aim p.block false c) k
      (aim_inside p.block c.value (end_mode p.block false c) k.block.sp_inside));
}

nearer : (m : Mode) (hides : Bool)
    → (pulse_away (led m hides) (not (runs m)) < pulse_away m hides) ⊎ ((pulse_away m hides ≡ 0) × (pulse_away (led m hides) (not (runs m)) ≡ 0))
nearer OutOfService hides = inl (lit< tt)
nearer IMan hides = inl (lit< tt)
nearer Lo hides = inl (lit< tt)
nearer Man hides = inl (lit< tt)
nearer Auto true = inl (lit< tt)
nearer Auto false = inl (lit< tt)
nearer Cas hides = inr (refl, refl)

falls_at : (m n : Mode) (hides : Bool) → n ≡ led m hides
    → (pulse_away n (not (runs m)) < pulse_away m hides) ⊎ ((pulse_away m hides ≡ 0) × (pulse_away n (not (runs m)) ≡ 0))
falls_at m n hides e = rw e (nearer m hides)

near : (m : Mode) (hides : Bool) → pulse_away m hides ≤ 3
near OutOfService hides = lit≤ tt
near IMan hides = lit≤ tt
near Lo hides = lit≤ tt
near Man hides = lit≤ tt
near Auto true = lit≤ tt
near Auto false = lit≤ tt
near Cas hides = lit≤ tt

there : (m : Mode) (hides : Bool) → pulse_away m hides ≡ 0 → m ≡ Cas
there OutOfService hides e = absurd (omega arith)
there IMan hides e = absurd (omega arith)
there Lo hides e = absurd (omega arith)
there Man hides e = absurd (omega arith)
there Auto true e = absurd (omega arith)
there Auto false e = absurd (omega arith)
there Cas hides e = refl

some_kept : Pulse → (p : Pulse) × PulseKept p
some_kept p =
    let l : Limits = p.block.settings.sp_limits in (
      fresh_pulse l p.block.settings.permitted p.travel,
      record { block = fresh_kept l p.block.settings.permitted false true },
    )

pub pulse_facts : AloneFacts pulse_own
pulse_facts = record {
  some_kept = some_kept;
  put = λ p b. refl;
  over = λ p b d. refl;
  same = λ p. refl;
  kept_asked = λ p x k. record { block = block_asked p.block x k.block };
  kept_rounded = kept_rounded;
  no_input = λ p k. k.block.no_input;
  round = λ p c k. round_owes p.block false c _ (pulse_hides p) k.block;
  number_range = (lit≤ tt, lit≤ tt);
  near = near;
  there = there;
  only_there = λ hides. refl;
  falls = λ p c k t s e. falls_at p.block.actual (end_mode p.block false c) p.block.hides_request (invited_mode p.block false c k.block t s refl e);
}
