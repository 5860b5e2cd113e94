-- The pulse end: its position, shown as OUT, goes towards the setpoint by one travel a round. Assumes nothing.
--     pulse_rounded p c          p after a round on the signal c from above
--     PulseKept p                what holds of every pulse end as made, and of whatever came of it since
--     pulse_own                  all that is a pulse end's own
--     stepped from travel aim    the next position: a travel up or down if `aim` is at least a travel off, else it rests
--     pulse_out p m aim          the position after a round that brings the mode m, with the setpoint `aim`
--     pulse_hides p              a round hides the request unless the round before ended in Auto or Cas
use Rattle.std.specs.Prelude.{ℕ, Bool, false, cond, not, pos, ◌+ℤ◌, ◌-ℤ◌, int_le}
use Rattle.signal.specs.Value.{value_near}
use Rattle.signal.specs.declared.kinds.Value.{Value}
use Rattle.signal.specs.declared.mode.Mode.{Mode}
use Rattle.signal.specs.declared.mode.Mode.TheVariants.{OutOfService, IMan, Lo, Man, Auto, Cas}
use Rattle.signal.specs.declared.status.Signal.{Signal}
use Rattle.block.specs.Alone.{Own}
use Rattle.block.specs.Modes.{runs}
use Rattle.block.specs.declared.kinds.Block.{Block}
use Rattle.ends.specs.Round.{end_aim, end_mode, rounded_block, KeptBlock}
use Rattle.ends.specs.declared.pulse.Pulse.{Pulse}

abbrev pub stepped : Value → ℕ → Value → Value
stepped from travel aim =
    cond (int_le (from.raw +ℤ pos travel) aim.raw) (value_near (from.raw +ℤ pos travel))
    (cond (int_le aim.raw (from.raw -ℤ pos travel)) (value_near (from.raw -ℤ pos travel)) from)

abbrev pub pulse_out : Pulse → Mode → Value → Value
pulse_out p OutOfService aim = p.block.at.out
pulse_out p IMan aim = p.block.at.out
pulse_out p Lo aim = p.block.at.out
pulse_out p Man aim = p.block.at.out
pulse_out p Auto aim = stepped p.block.at.out p.travel.number aim
pulse_out p Cas aim = stepped p.block.at.out p.travel.number aim

abbrev pub pulse_hides : Pulse → Bool
pulse_hides p = not (runs p.block.actual)

abbrev pub pulse_after : Pulse → Signal → Block
pulse_after p c =
    rounded_block p.block false c (pulse_out p (end_mode p.block false c) (end_aim p.block false c)) (pulse_hides p)

abbrev pub pulse_with : Pulse → Block → Pulse
pulse_with p b = record { block = b; travel = p.travel }

abbrev pub pulse_rounded : Pulse → Signal → Pulse
pulse_rounded p c = pulse_with p (pulse_after p c)

pub record PulseKept (p : Pulse) : Type 0 where
  pub block : KeptBlock p.block

-- one round from Auto to Cas once the request is shown, one more to show it, and one more into Auto
abbrev pub pulse_away : Mode → Bool → ℕ
pulse_away OutOfService hides = 3
pulse_away IMan hides = 3
pulse_away Lo hides = 3
pulse_away Man hides = 3
pulse_away Auto hides = cond hides 2 1
pulse_away Cas hides = 0

abbrev pub pulse_own : Own Pulse
pulse_own = record {
  the_block = λ p. p.block;
  with_block = pulse_with;
  number = 3;
  away = pulse_away;
  rounded = pulse_rounded;
  kept = PulseKept;
}
