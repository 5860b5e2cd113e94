-- The worked cases of a control block over a pulse end, and of the fault count. Assumes nothing.
use Rattle.std.proofs.Common.{◌≡◌, ℕ, true, false, ◌&&◌, refl, ap, ◌∙◌}
use Rattle.std.proofs.lemmas.Bool.{cond-true, cond-false, and_left}
use Rattle.block.proofs.Next.{next_free}
use Rattle.block.specs.Alone.{alone_model}
use Rattle.block.specs.Lines.{usable, keeps_cas}
use Rattle.block.specs.Modes.{is_cas}
use Rattle.block.specs.Shown.{shown_status}
use Rattle.control.specs.Control.{out_in}
use Rattle.control.specs.Steps.{next_sp, taken_back}
use Rattle.control.specs.declared.kinds.Control.{Control}
use Rattle.ends.specs.Analog.{analog_own, brings_fault}
use Rattle.ends.specs.Pulse.{pulse_own}
use Rattle.ends.specs.declared.analog.Analog.{Analog}
use Rattle.ends.specs.declared.pulse.Pulse.{Pulse}
use Rattle.law.specs.Law.{LawModel}
use Rattle.signal.specs.Limits.{pulled}
use Rattle.signal.specs.Status.{same_code, quality_of}
use Rattle.signal.specs.declared.mode.Mode.{Mode}
use Rattle.signal.specs.declared.mode.Mode.TheVariants.{IMan, Lo, Man, Cas}
use Rattle.signal.specs.declared.status.Quality.{Quality}
use Rattle.signal.specs.declared.status.Quality.TheVariants.{Bad}
use Rattle.signal.specs.declared.status.Signal.{Signal}
use Rattle.cases.specs.Worked.{after}

module _ {L : Type 0} (l : LawModel L) (c : Control L Pulse) (s : Signal) where
  abbrev Below : Signal
  Below = (alone_model pulse_own).shown c.lower

  pub lo_tracks : (after l c s).block.actual ≡ Lo → (after l c s).block.at.out ≡ c.track_value
  lo_tracks e = ap (λ (m : Mode). out_in l c m Below s) e

  pub bad_below_holds : (after l c s).block.actual ≡ IMan → quality_of (shown_status c.lower.block) ≡ Bad → (after l c s).block.at.out ≡ c.block.at.out
  bad_below_holds e q = ap (λ (m : Mode). out_in l c m Below s) e ∙ ap (λ (x : Quality). taken_back x Below.value c.block.at.out) q

  pub sp_tracks_pv : (after l c s).block.actual ≡ Man → c.block.settings.options.track_pv ≡ true
      → (after l c s).block.at.sp ≡ pulled c.block.settings.sp_limits (after l c s).block.at.pv
  sp_tracks_pv e t = ap (λ (m : Mode). next_sp c.block m s.value) e ∙ cond-true _ _ _ t

  pub acknowledged_stays : c.block.actual ≡ Cas → c.block.target ≡ Cas → c.block.switch ≡ false
      → usable c.block ≡ true → same_code (shown_status c.lower.block) 0xC0 ≡ true → s.status.0 ≡ 0xC4 → (after l c s).block.actual ≡ Cas
  acknowledged_stays a t off u b e =
      next_free c.block (shown_status c.lower.block) false s.status.0 t off u refl b
      ∙ cond-true (is_cas c.block.actual && keeps_cas s.status.0) _ _
      (ap (λ (m : Mode). is_cas m && keeps_cas s.status.0) a ∙ ap (λ (n : ℕ). is_cas Cas && keeps_cas n) e)

pub count_starts_over : (a : Analog) (s : Signal) → is_cas a.block.target ≡ false → (analog_own.rounded a s).count ≡ 0
count_starts_over a s e = cond-false (is_cas a.block.target && brings_fault s.status.0) _ _ (and_left _ _ e)
