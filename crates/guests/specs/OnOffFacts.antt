-- An end that is open or shut shows all that an end of one block owes. Assumes nothing.
use Rattle.std.proofs.Common.{◌∙◌, arith, lit≤}
use Rattle.std.specs.Prelude.{true, false, int_lt, None, refl}
use Rattle.std.proofs.lemmas.Int.{ints}
use Rattle.std.proofs.lemmas.Bool.{cond_both}
use Rattle.signal.specs.Limits.{Inside}
use Rattle.signal.specs.declared.kinds.Limits.{Limits}
use Rattle.signal.specs.declared.kinds.Value.{Value}
use Rattle.signal.specs.declared.mode.Mode.{Mode}
use Rattle.signal.specs.declared.mode.Mode.TheVariants.{OutOfService, IMan, Lo, Man, Auto, Cas}
use Rattle.block.specs.Asks.{standing}
use Rattle.block.specs.Alone.{AloneFacts}
use Rattle.block.specs.Making.{fresh_block}
use Rattle.block.specs.declared.kinds.Block.{Block}
use Rattle.ends.specs.AnalogFacts.{near, there, falls_at}
use Rattle.ends.specs.Rounds.{fresh_kept, block_asked, block_rounded, round_owes, invited_mode}
use Rattle.ends.specs.Making.{end_settings}
use Rattle.ends.specs.Round.{KeptBlock, end_mode}
use Rattle.guests.specs.OnOff.{open_or_shut, on_off_out, on_off_own, OnOffKept}
use Rattle.guests.specs.declared.on_off.OnOff.{OnOff}

either_inside : (b : Block) (aim : Value) → Inside b.settings.sp_limits (open_or_shut b aim)
either_inside b aim =
    let l : Limits = b.settings.sp_limits in
    let o = l.ordered in
    cond_both (int_lt l.low.raw aim.raw) l.high l.low (Inside l) (λ _. (omega (arith, ints), omega (arith, ints))) (λ _. (omega (arith, ints), omega (arith, ints)))

out_inside : (b : Block) (m : Mode) (aim : Value) → KeptBlock b → Inside b.settings.sp_limits (on_off_out b m aim)
out_inside b OutOfService aim k = k.out_inside
out_inside b IMan aim k = k.out_inside
out_inside b Lo aim k = k.out_inside
out_inside b Man aim k = k.out_inside
out_inside b Auto aim k = either_inside b aim
out_inside b Cas aim k = either_inside b aim

some_kept : OnOff → (s : OnOff) × OnOffKept s
some_kept s =
    let l : Limits = s.block.settings.sp_limits in (
      record { block = fresh_block (end_settings l s.block.settings.permitted true) None false },
      record { block = fresh_kept l s.block.settings.permitted true false; shows_request = refl },
    )

pub on_off_facts : AloneFacts on_off_own
on_off_facts = record {
  some_kept = some_kept;
  put = λ s b. refl;
  over = λ s b d. refl;
  same = λ s. refl;
  kept_asked = λ s a k. record { block = block_asked s.block a k.block; shows_request = (standing s.block a).hides ∙ k.shows_request };
  kept_rounded = λ s c k. record { block = block_rounded s.block false c _ false k.block (out_inside s.block (end_mode s.block false c) _ k.block); shows_request = refl };
  no_input = λ s k. k.block.no_input;
  round = λ s c k. round_owes s.block false c _ false k.block;
  number_range = (lit≤ tt, lit≤ tt);
  near = near;
  there = there;
  only_there = λ hides. refl;
  falls = λ s c k t off e.
      falls_at s.block.actual (end_mode s.block false c) s.block.hides_request k.shows_request
      (invited_mode s.block false c k.block t off refl e);
}
