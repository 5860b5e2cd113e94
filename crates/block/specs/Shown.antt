-- What a block shows upward, live: by its setpoint, its actual mode and its target as they now are. Assumes nothing.
--     shown_status b    the status that b shows: that of its mode, save that CC may stand for C8
--     shown_signal b    its setpoint with that status
--     reading_of b      what b answers when it is read
use Rattle.std.specs.Prelude.{ℕ, cond, ◌&&◌}
use Rattle.signal.specs.Mode.{mode_shows}
use Rattle.signal.specs.Status.{same_code}
use Rattle.signal.specs.declared.status.Signal.{Signal}
use Rattle.block.specs.declared.kinds.Block.{Block}
use Rattle.block.specs.declared.kinds.Reading.{Reading}

abbrev pub by_mode : Block → ℕ
by_mode b = mode_shows b.actual b.target b.cause

abbrev pub shown_status : Block → ℕ
shown_status b = cond (b.hides_request && same_code (by_mode b) 0xC8) 0xCC (by_mode b)

abbrev pub shown_signal : Block → Signal
shown_signal b = record { value = b.at.sp; status = record { 0 = shown_status b } }

abbrev pub reading_of : Block → Reading
reading_of b = record { target = b.target; actual = b.actual; sp = b.at.sp; out = b.at.out; shown = record { 0 = shown_status b } }
