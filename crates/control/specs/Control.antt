-- A control block with any law over any lower end: its round, and what it means as a lower end. Assumes nothing.
--     control_model l e      the control block as a lower end
--     control_rounded s c    its round on the signal c from above
--     ControlKept s          what holds of it as made and ever since: SP inside its limits, a law that stands started in IMan
use Rattle.std.specs.Prelude.{◌≡◌, ℕ, ◌+◌, false, cond, Ok, ◌==◌}
use Rattle.signal.specs.Limits.{Inside}
use Rattle.signal.specs.declared.kinds.OperatingPoint.{OperatingPoint}
use Rattle.signal.specs.declared.kinds.Value.{Value}
use Rattle.signal.specs.declared.mode.Mode.{Mode}
use Rattle.signal.specs.declared.mode.Mode.TheVariants.{OutOfService, IMan, Lo, Man, Auto, Cas}
use Rattle.signal.specs.declared.status.Signal.{Signal}
use Rattle.law.specs.Law.{LawModel}
use Rattle.block.specs.Alone.{pick}
use Rattle.block.specs.Calls.{answer_of, after_ask}
use Rattle.block.specs.Lines.{next_mode, moved}
use Rattle.block.specs.Meaning.{EndModel}
use Rattle.block.specs.Modes.{runs}
use Rattle.block.specs.Shown.{shown_signal, reading_of}
use Rattle.block.specs.declared.kinds.Block.{Block}
use Rattle.control.specs.Steps.{next_pv, next_sp, next_out, sent_status}
use Rattle.control.specs.declared.kinds.Control.{Control}

-- how far a block is from Cas, with all below it there
abbrev pub away : Mode → ℕ
away OutOfService = 2
away IMan = 2
away Lo = 2
away Man = 2
away Auto = 1
away Cas = 0

-- 1 and 3: setpoint and process value as a round brings them, at the last output
abbrev pub brought_to : Block → Mode → Value → OperatingPoint
brought_to b m above = record { sp = next_sp b m above; pv = next_pv b; out = b.at.out }

-- the point that a round leaves: that, with the output as worked out
abbrev pub left_at : OperatingPoint → Value → OperatingPoint
left_at p out = record { sp = p.sp; pv = p.pv; out = out }

-- 5: a law that is not stepped is started anew, with the numbers as the round leaves them
abbrev pub next_law : {L : Type 0} → LawModel L → L → Mode → OperatingPoint → Value → L
next_law l law m p out = cond (runs m) (l.stepped law p) (l.started law (left_at p out))

abbrev pub with_law : {L E : Type 0} → Control L E → L → Control L E
with_law s law = record { block = s.block; track_value = s.track_value; law = law; lower = s.lower }

abbrev pub with_block : {L E : Type 0} → Control L E → Block → Control L E
with_block s b = record { block = b; track_value = s.track_value; law = s.law; lower = s.lower }

abbrev pub with_lower : {L E : Type 0} → Control L E → E → Control L E
with_lower s d = record { block = s.block; track_value = s.track_value; law = s.law; lower = d }

module _ {L E : Type 0} (l : LawModel L) where
  -- the block and its law in a round that brings the mode m, with the signals below and above
  abbrev pub out_in : Control L E → Mode → Signal → Signal → Value
  out_in s m below above =
      next_out s.block m below s.track_value (l.answer s.law (brought_to s.block m above.value))

  abbrev pub ran_in : Control L E → Mode → Signal → Signal → Control L E
  ran_in s m below above = record {
    block = moved s.block m (left_at (brought_to s.block m above.value) (out_in s m below above)) false;
    track_value = s.track_value;
    law = next_law l s.law m (brought_to s.block m above.value) (out_in s m below above);
    lower = s.lower;
  }

  abbrev pub sent_in : Control L E → Mode → Signal → Signal → Signal
  sent_in s m below above =
      record { value = out_in s m below above; status = record { 0 = sent_status s.block m below.status.0 above.status.0 } }

module _ {L E : Type 0} (l : LawModel L) (e : EndModel E) where
  -- 2: the mode
  abbrev pub mode_of : Control L E → Signal → Mode
  mode_of s above = next_mode s.block (e.shown s.lower).status.0 false above.status.0

  -- 7: then the end below has its round, with what is sent
  abbrev pub rounded_in : Control L E → Mode → Signal → Control L E
  rounded_in s m above =
      with_lower (ran_in l s m (e.shown s.lower) above) (e.rounded s.lower (sent_in l s m (e.shown s.lower) above))

  abbrev pub control_rounded : Control L E → Signal → Control L E
  control_rounded s above = rounded_in s (mode_of s above) above

  pub record ControlKept (s : Control L E) : Type 0 where
    pub sp_inside : Inside s.block.settings.sp_limits s.block.at.sp
    pub shows_request : s.block.hides_request ≡ false
    pub started : s.block.actual ≡ IMan → (before : L) × (s.law ≡ l.started before s.block.at)
    pub below : e.kept s.lower

  abbrev pub control_model : EndModel (Control L E)
  control_model = record {
    size = λ s. e.size s.lower + 1;
    settling = λ s. e.settling s.lower + 2;
    distance = λ s. cond (e.distance s.lower == 0) (away s.block.actual) (e.distance s.lower + 2);
    block = λ s k. pick s.block (e.block s.lower) k;
    shown = λ s. shown_signal s.block;
    reading = λ s k. pick (Ok (reading_of s.block)) (λ j. e.reading s.lower j) k;
    answer = λ s k a. pick (answer_of s.block a) (λ j. e.answer s.lower j a) k;
    asked = λ s k a. pick (with_block s (after_ask s.block a)) (λ j. with_lower s (e.asked s.lower j a)) k;
    rounded = control_rounded;
    kept = ControlKept;
  }
