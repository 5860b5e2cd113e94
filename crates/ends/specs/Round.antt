-- A round in an end of either kind, and what every end keeps. Assumes nothing.
--     end_mode b fault c              the mode that a round on the signal c brings b to: nothing stands below an end
--     aimed_sp b m v                  the setpoint that the round works with: in Cas the value v from above, pulled into the limits
--     left_sp m aim out               the setpoint that it leaves: in Man and LO it follows OUT
--     left_point b m aim out          that setpoint with OUT as worked out: the process value stands
--     rounded_block b fault c out hides    b after the round, which worked OUT out
--     KeptBlock b                     SP and OUT lie inside the one pair of limits, and b takes no input
use Rattle.std.specs.Prelude.{◌≡◌, Bool, None}
use Rattle.signal.specs.Limits.{pulled, Inside}
use Rattle.signal.specs.declared.kinds.OperatingPoint.{OperatingPoint}
use Rattle.signal.specs.declared.kinds.Value.{Value}
use Rattle.signal.specs.declared.mode.Mode.{Mode}
use Rattle.signal.specs.declared.mode.Mode.TheVariants.{OutOfService, IMan, Lo, Man, Auto, Cas}
use Rattle.signal.specs.declared.status.Signal.{Signal}
use Rattle.block.specs.Lines.{next_mode, moved}
use Rattle.block.specs.declared.kinds.Block.{Block}

abbrev pub end_mode : Block → Bool → Signal → Mode
end_mode b fault c = next_mode b 0xC0 fault c.status.0

abbrev pub aimed_sp : Block → Mode → Value → Value
aimed_sp b OutOfService v = b.at.sp
aimed_sp b IMan v = b.at.sp
aimed_sp b Lo v = b.at.sp
aimed_sp b Man v = b.at.sp
aimed_sp b Auto v = b.at.sp
aimed_sp b Cas v = pulled b.settings.sp_limits v

abbrev pub left_sp : Mode → Value → Value → Value
left_sp OutOfService aim out = aim
left_sp IMan aim out = aim
left_sp Lo aim out = out
left_sp Man aim out = out
left_sp Auto aim out = aim
left_sp Cas aim out = aim

abbrev pub left_point : Block → Mode → Value → Value → OperatingPoint
left_point b m aim out = record { sp = left_sp m aim out; pv = b.at.pv; out = out }

abbrev pub end_aim : Block → Bool → Signal → Value
end_aim b fault c = aimed_sp b (end_mode b fault c) c.value

abbrev pub rounded_block : Block → Bool → Signal → Value → Bool → Block
rounded_block b fault c out hides =
    moved b (end_mode b fault c) (left_point b (end_mode b fault c) (end_aim b fault c) out) hides

pub record KeptBlock (b : Block) : Type 0 where
  pub sp_inside : Inside b.settings.sp_limits b.at.sp
  pub out_inside : Inside b.settings.sp_limits b.at.out
  pub one_pair : b.settings.sp_limits ≡ b.settings.out_limits
  pub no_input : b.input ≡ None
