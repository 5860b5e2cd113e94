-- An end that is either open or shut. Assumes nothing.
--     on_off_own           all that is its own
--     on_off_out b m aim   the output: open where the setpoint is above the low limit, else shut
use Rattle.std.specs.Prelude.{◌≡◌, false, cond, int_lt}
use Rattle.signal.specs.declared.kinds.Value.{Value}
use Rattle.signal.specs.declared.mode.Mode.{Mode}
use Rattle.signal.specs.declared.mode.Mode.TheVariants.{OutOfService, IMan, Lo, Man, Auto, Cas}
use Rattle.signal.specs.declared.status.Signal.{Signal}
use Rattle.block.specs.Alone.{Own}
use Rattle.block.specs.declared.kinds.Block.{Block}
use Rattle.ends.specs.Analog.{analog_away}
use Rattle.ends.specs.Round.{end_mode, end_aim, rounded_block, KeptBlock}
use Rattle.guests.specs.declared.on_off.OnOff.{OnOff}

abbrev pub open_or_shut : Block → Value → Value
open_or_shut b aim =
    cond (int_lt b.settings.sp_limits.low.raw aim.raw) b.settings.sp_limits.high b.settings.sp_limits.low

abbrev pub on_off_out : Block → Mode → Value → Value
on_off_out b OutOfService aim = b.at.out
on_off_out b IMan aim = b.at.out
on_off_out b Lo aim = b.at.out
on_off_out b Man aim = b.at.out
on_off_out b Auto aim = open_or_shut b aim
on_off_out b Cas aim = open_or_shut b aim

abbrev pub on_off_rounded : OnOff → Signal → OnOff
on_off_rounded s c =
    record { block = rounded_block s.block false c (on_off_out s.block (end_mode s.block false c) (end_aim s.block false c)) false }

pub record OnOffKept (s : OnOff) : Type 0 where
  pub block : KeptBlock s.block
  pub shows_request : s.block.hides_request ≡ false

abbrev pub on_off_own : Own OnOff
on_off_own = record {
  the_block = λ s. s.block;
  with_block = λ s b. record { block = b };
  number = 2;
  away = analog_away;
  rounded = on_off_rounded;
  kept = OnOffKept;
}
