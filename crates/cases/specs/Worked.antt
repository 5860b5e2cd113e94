-- The worked cases, in one table, over the definitions that the contracts of the layers cite. Assumes nothing.
--     Worked l     all of them; those of a control block with the law l (any law will do) over a pulse end
--     after l c s  the control block c after a round on the signal s
use Rattle.std.specs.Prelude.{◌≡◌, true, false}
use Rattle.block.specs.Alone.{alone_model}
use Rattle.block.specs.Lines.{usable}
use Rattle.block.specs.Modes.{is_cas}
use Rattle.block.specs.Shown.{shown_status}
use Rattle.control.specs.Control.{control_model}
use Rattle.control.specs.declared.kinds.Control.{Control}
use Rattle.ends.specs.Analog.{analog_own}
use Rattle.ends.specs.Pulse.{pulse_own}
use Rattle.ends.specs.Worked as ends
use Rattle.ends.specs.declared.analog.Analog.{Analog}
use Rattle.ends.specs.declared.pulse.Pulse.{Pulse}
use Rattle.law.specs.Law.{LawModel}
use Rattle.law.specs.Worked as laws
use Rattle.signal.specs.Limits.{pulled}
use Rattle.signal.specs.Status.{split_byte, same_code, quality_of}
use Rattle.signal.specs.declared.mode.Mode.TheVariants.{IMan, Lo, Man, Cas}
use Rattle.signal.specs.declared.status.Quality.TheVariants.{Bad}
use Rattle.signal.specs.declared.status.Signal.{Signal}

abbrev pub after : {L : Type 0} → LawModel L → Control L Pulse → Signal → Control L Pulse
after l c s = (control_model l (alone_model pulse_own)).rounded c s

pub record Worked {L : Type 0} (l : LawModel L) : Type 0 where
  -- an initialization request, out of service, and initiate fault state, in their parts
  pub request_parts : split_byte 0xC8 ≡ record { quality = 3; sub_status = 2; limits = 0 }
  pub service_parts : split_byte 0x1C ≡ record { quality = 0; sub_status = 7; limits = 0 }
  pub fault_parts : split_byte 0xE0 ≡ record { quality = 3; sub_status = 8; limits = 0 }
  pub of_laws : laws.Worked
  pub of_ends : ends.Worked
  -- a control block adds 2 to the N of the pulse end below it
  pub control_over_pulse : (c : Control L Pulse) → (control_model l (alone_model pulse_own)).settling c ≡ 5
  -- in LO the output is the track value
  pub lo_tracks : (c : Control L Pulse) (s : Signal) → (after l c s).block.actual ≡ Lo → (after l c s).block.at.out ≡ c.track_value
  -- in IMan nothing is taken back from a Bad quality
  pub bad_below_holds : (c : Control L Pulse) (s : Signal) → (after l c s).block.actual ≡ IMan → quality_of (shown_status c.lower.block) ≡ Bad
      → (after l c s).block.at.out ≡ c.block.at.out
  -- with option 04 the setpoint follows the process value as the round leaves it
  pub sp_tracks_pv : (c : Control L Pulse) (s : Signal) → (after l c s).block.actual ≡ Man → c.block.settings.options.track_pv ≡ true
      → (after l c s).block.at.sp ≡ pulled c.block.settings.sp_limits (after l c s).block.at.pv
  -- a block in Cas stays there on C4, with nothing in the way
  pub acknowledged_stays : (c : Control L Pulse) (s : Signal) → c.block.actual ≡ Cas → c.block.target ≡ Cas → c.block.switch ≡ false
      → usable c.block ≡ true → same_code (shown_status c.lower.block) 0xC0 ≡ true → s.status.0 ≡ 0xC4 → (after l c s).block.actual ≡ Cas
  -- off target Cas the fault count starts over
  pub count_starts_over : (a : Analog) (s : Signal) → is_cas a.block.target ≡ false → (analog_own.rounded a s).count ≡ 0
