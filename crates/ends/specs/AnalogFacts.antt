-- An analog end shows all that an end of one block owes. Assumes nothing.
use Rattle.std.specs.Prelude.{◌≡◌, ℕ, ◌<◌, ◌≤◌, Bool, true, false, cond, not, ◌&&◌, ◌⊎◌, refl}
use Rattle.std.proofs.Common.{◌∙◌, inl, inr, arith, lit<, lit≤}
use Rattle.std.proofs.lemmas.Bool.{cond_both}
use Rattle.std.proofs.lemmas.Bool.Decides.{nat_tests}
use Rattle.signal.specs.Limits.{Inside}
use Rattle.signal.specs.Status.{same_code}
use Rattle.signal.specs.declared.kinds.Limits.{Limits}
use Rattle.signal.specs.declared.kinds.Value.{Value}
use Rattle.signal.specs.declared.mode.Mode.{Mode}
use Rattle.signal.specs.declared.mode.Mode.TheVariants.{OutOfService, IMan, Lo, Man, Auto, Cas}
use Rattle.signal.specs.declared.status.Signal.{Signal}
use Rattle.block.specs.Asks.{standing}
use Rattle.block.proofs.Pulled.{low_inside}
use Rattle.block.specs.Alone.{AloneFacts, alone_model}
use Rattle.block.specs.Calls.{after_ask}
use Rattle.block.specs.Shown.{shown_status}
use Rattle.block.specs.declared.kinds.Ask.{Ask}
use Rattle.ends.specs.Rounds.{fresh_kept, block_asked, block_rounded, round_owes, aim_inside, led, invited_mode}
use Rattle.ends.specs.Analog.{brings_fault, analog_faulty, analog_out, analog_mode, analog_aim, analog_rounded, AnalogKept, analog_away, analog_own, sets_value, analog_with}
use Rattle.ends.specs.Making.{fresh_analog}
use Rattle.ends.specs.declared.analog.Analog.{Analog}

out_inside : (a : Analog) (m : Mode) (aim : Value) → AnalogKept a → Inside a.block.settings.sp_limits aim
    → Inside a.block.settings.sp_limits (analog_out a m aim)
out_inside a OutOfService aim k h = k.block.out_inside
out_inside a IMan aim k h = k.block.out_inside
out_inside a Lo aim k h =
    cond_both (not a.block.switch && sets_value a.fault_action) _ _ (Inside a.block.settings.sp_limits) (λ _. k.value_inside) (λ _. k.block.out_inside)
out_inside a Man aim k h = k.block.out_inside
out_inside a Auto aim k h = h
out_inside a Cas aim k h = h

some_kept : Analog → (a : Analog) × AnalogKept a
some_kept a =
    let l : Limits = a.block.settings.sp_limits in (
      fresh_analog l a.block.settings.permitted a.fault_time l.low a.fault_action,
      record { block = fresh_kept l a.block.settings.permitted true false; value_inside = low_inside l; shows_request = refl },
    )

kept_asked : (a : Analog) (x : Ask) → AnalogKept a → AnalogKept (analog_with a (after_ask a.block x))
kept_asked a x k = record {
  block = block_asked a.block x k.block;
  value_inside = rw (standing a.block x).settings k.value_inside;
  shows_request = (standing a.block x).hides ∙ k.shows_request;
}

kept_rounded : (a : Analog) (c : Signal) → AnalogKept a → AnalogKept (analog_rounded a c)
kept_rounded a c k = record {
  block = block_rounded a.block (analog_faulty a c.status.0) c _ false k.block
      (out_inside a (analog_mode a c) (analog_aim a c) k (aim_inside a.block c.value (analog_mode a c) k.block.sp_inside));
  value_inside = k.value_inside;
  shows_request = refl;
}

-- a status that invites is no fault
invited_whole : (asks : Bool) → brings_fault (cond asks 0xC4 0xC0) ≡ false
invited_whole true = refl
invited_whole false = refl

no_fault : (a : Analog) (s : ℕ) → brings_fault s ≡ false → analog_faulty a s ≡ false
no_fault a s e = let least = a.fault_time.least in grind (arith, nat_tests)

nearer : (m : Mode) → (analog_away (led m false) false < analog_away m false) ⊎ ((analog_away m false ≡ 0) × (analog_away (led m false) false ≡ 0))
nearer OutOfService = inl (lit< tt)
nearer IMan = inl (lit< tt)
nearer Lo = inl (lit< tt)
nearer Man = inl (lit< tt)
nearer Auto = inl (lit< tt)
nearer Cas = inr (refl, refl)

pub falls_at : (m n : Mode) (hides : Bool) → hides ≡ false → n ≡ led m hides
    → (analog_away n false < analog_away m hides) ⊎ ((analog_away m hides ≡ 0) × (analog_away n false ≡ 0))
falls_at m n hides e f = rw (f, e) (nearer m)

falls : (a : Analog) (c : Signal) → AnalogKept a → a.block.target ≡ Cas → a.block.switch ≡ false
    → c.status.0 ≡ cond (same_code (shown_status a.block) 0xC8) 0xC4 0xC0
    → ((alone_model analog_own).distance (analog_rounded a c) < (alone_model analog_own).distance a)
    ⊎ (((alone_model analog_own).distance a ≡ 0) × ((alone_model analog_own).distance (analog_rounded a c) ≡ 0))
falls a c k t s e =
    let whole : brings_fault c.status.0 ≡ false = rw e (invited_whole (same_code (shown_status a.block) 0xC8)) in
    falls_at a.block.actual (analog_mode a c) a.block.hides_request k.shows_request
    (invited_mode a.block (analog_faulty a c.status.0) c k.block t s (no_fault a c.status.0 whole) e)

pub near : (m : Mode) (hides : Bool) → analog_away m hides ≤ 2
near OutOfService hides = lit≤ tt
near IMan hides = lit≤ tt
near Lo hides = lit≤ tt
near Man hides = lit≤ tt
near Auto hides = lit≤ tt
near Cas hides = lit≤ tt

pub there : (m : Mode) (hides : Bool) → analog_away m hides ≡ 0 → m ≡ Cas
there OutOfService hides e = absurd (omega arith)
there IMan hides e = absurd (omega arith)
there Lo hides e = absurd (omega arith)
there Man hides e = absurd (omega arith)
there Auto hides e = absurd (omega arith)
there Cas hides e = refl

pub analog_facts : AloneFacts analog_own
analog_facts = record {
  some_kept = some_kept;
  put = λ a b. refl;
  over = λ a b d. refl;
  same = λ a. refl;
  kept_asked = kept_asked;
  kept_rounded = kept_rounded;
  no_input = λ a k. k.block.no_input;
  round = λ a c k. round_owes a.block (analog_faulty a c.status.0) c _ false k.block;
  number_range = (lit≤ tt, lit≤ tt);
  near = near;
  there = there;
  only_there = λ hides. refl;
  falls = falls;
}
