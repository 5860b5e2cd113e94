-- What a call and a round leave true of an end's block, and the way to Cas where the end is invited. Assumes nothing.
use Rattle.std.specs.Prelude.{◌≡◌, ℕ, Bool, true, false, cond, ◌&&◌, is_some, Some, None, Option, refl}
use Rattle.std.proofs.Common.{◌∙◌, ap}
use Rattle.signal.specs.Limits.{pulled, Inside}
use Rattle.signal.specs.Mode.{mode_shows}
use Rattle.signal.specs.Status.{same_code}
use Rattle.signal.specs.declared.kinds.Limits.{Limits}
use Rattle.signal.specs.declared.kinds.Value.{Value}
use Rattle.signal.specs.declared.mode.LoCause.{LoCause}
use Rattle.signal.specs.declared.mode.LoCause.TheVariants.{Switch, Fault}
use Rattle.signal.specs.declared.mode.Mode.{Mode}
use Rattle.signal.specs.declared.mode.Mode.TheVariants.{OutOfService, IMan, Lo, Man, Auto, Cas}
use Rattle.signal.specs.declared.status.Signal.{Signal}
use Rattle.block.specs.Asks.{standing, sp_cases, out_cases}
use Rattle.block.proofs.Next.{next_os, next_cas_asked, next_cas_target, next_free}
use Rattle.block.specs.Alone.{RoundOwes}
use Rattle.block.proofs.Pulled.{pulled_same, pulled_inside}
use Rattle.block.specs.Calls.{after_ask}
use Rattle.block.specs.Lines.{cause_of, usable, keeps_cas}
use Rattle.block.specs.Making.{zero_value, fresh_block}
use Rattle.block.specs.Meaning.{Untouched}
use Rattle.block.specs.Modes.{is_cas}
use Rattle.block.specs.Shown.{shown_status}
use Rattle.block.specs.declared.kinds.Ask.{Ask}
use Rattle.block.specs.declared.kinds.Block.{Block}
use Rattle.block.specs.declared.kinds.Permitted.{Permitted}
use Rattle.ends.specs.Making.{end_settings}
use Rattle.ends.specs.Round.{aimed_sp, left_sp, end_mode, rounded_block, KeptBlock}

-- a call
none_again : (o p : Option Signal) → is_some o ≡ is_some p → p ≡ None → o ≡ None
none_again None p i e = refl
none_again (Some x) p i e = let same : true ≡ false = i ∙ ap is_some e in cc

kept_since : (b d : Block) → d.settings ≡ b.settings → is_some d.input ≡ is_some b.input → Inside b.settings.sp_limits d.at.sp → Inside b.settings.sp_limits d.at.out
    → KeptBlock b → KeptBlock d
kept_since b d e i sp out k = record {
  sp_inside = rw e sp;
  out_inside = rw e out;
  one_pair = rw e k.one_pair;
  no_input = none_again d.input b.input i k.no_input;
}

pub block_asked : (b : Block) (a : Ask) → KeptBlock b → KeptBlock (after_ask b a)
block_asked b a k =
    let l : Limits = b.settings.sp_limits in
    let pulls : (v : Value) → Inside l (pulled b.settings.out_limits v) = λ v. rw k.one_pair (pulled_inside b.settings.out_limits v) in
    kept_since b (after_ask b a) (standing b a).settings (standing b a).has_input (sp_cases b (Inside l) a k.sp_inside (pulled_inside l)) (out_cases b (Inside l) a k.out_inside pulls) k

-- a round
pub aim_inside : (b : Block) (v : Value) (m : Mode) → Inside b.settings.sp_limits b.at.sp → Inside b.settings.sp_limits (aimed_sp b m v)
aim_inside b v OutOfService h = h
aim_inside b v IMan h = h
aim_inside b v Lo h = h
aim_inside b v Man h = h
aim_inside b v Auto h = h
aim_inside b v Cas h = pulled_inside b.settings.sp_limits v

left_inside : (l : Limits) (m : Mode) (aim out : Value) → Inside l aim → Inside l out → Inside l (left_sp m aim out)
left_inside l OutOfService aim out h k = h
left_inside l IMan aim out h k = h
left_inside l Lo aim out h k = k
left_inside l Man aim out h k = k
left_inside l Auto aim out h k = h
left_inside l Cas aim out h k = h

module _ (b : Block) (fault : Bool) (c : Signal) (out : Value) (hides : Bool) where
  pub block_rounded : KeptBlock b → Inside b.settings.sp_limits out → KeptBlock (rounded_block b fault c out hides)
  block_rounded k h = record {
    sp_inside = left_inside b.settings.sp_limits (end_mode b fault c) _ out (aim_inside b c.value (end_mode b fault c) k.sp_inside) h;
    out_inside = h;
    one_pair = k.one_pair;
    no_input = k.no_input;
  }

  -- target, switch and input come out of a round as they went in, in any block
  pub untouched : Untouched b (rounded_block b fault c out hides)
  untouched = record { target = refl; switch = refl; input = refl }

  cas_sp : (m : Mode) → m ≡ Cas → left_sp m (aimed_sp b m c.value) out ≡ pulled b.settings.sp_limits c.value
  cas_sp m e = rw e refl

  -- coming into Cas on a value equal to the setpoint
  pub keeps_sp : KeptBlock b → end_mode b fault c ≡ Cas → c.value ≡ b.at.sp → (rounded_block b fault c out hides).at.sp ≡ b.at.sp
  keeps_sp k e v = cas_sp (end_mode b fault c) e ∙ (ap (pulled b.settings.sp_limits) v ∙ pulled_same b.settings.sp_limits b.at.sp k.sp_inside)

  pub round_owes : KeptBlock b → RoundOwes b c (rounded_block b fault c out hides)
  round_owes k = record {
    settings = refl;
    leaves = untouched;
    out_of_service = next_os b 0xC0 fault c.status.0;
    cas_on_target = next_cas_target b 0xC0 fault c.status.0;
    into_cas = next_cas_asked b 0xC0 fault c.status.0;
    lo_by_switch = λ _ on. ap cause_of on;
    keeps_sp = λ _. keeps_sp k;
  }

-- an end as made is kept
pub fresh_kept : (l : Limits) (p : Permitted) (out hides : Bool) → KeptBlock (fresh_block (end_settings l p out) None hides)
fresh_kept l p out hides = record { sp_inside = pulled_inside l zero_value; out_inside = pulled_inside l zero_value; one_pair = refl; no_input = refl }

-- where a round leads an end that is invited, by its mode and by whether it hides its request
abbrev pub led : Mode → Bool → Mode
led OutOfService hides = Auto
led IMan hides = Auto
led Lo hides = Auto
led Man hides = Auto
led Auto hides = cond hides Auto Cas
led Cas hides = Cas

-- the line taken, by the status that the end shows
abbrev line_on : Mode → ℕ → ℕ → Mode
line_on m shows above = cond (is_cas m && keeps_cas above) Cas (cond (same_code shows 0xC8 && same_code above 0xC4) Cas Auto)

abbrev shows_at : Mode → Bool → Mode → LoCause → ℕ
shows_at m hides t by = cond (hides && same_code (mode_shows m t by) 0xC8) 0xCC (mode_shows m t by)

abbrev invites : ℕ → ℕ
invites shows = cond (same_code shows 0xC8) 0xC4 0xC0

led_cas : (m : Mode) (hides : Bool) (by : LoCause) → line_on m (shows_at m hides Cas by) (invites (shows_at m hides Cas by)) ≡ led m hides
led_cas OutOfService true by = refl
led_cas OutOfService false by = refl
led_cas IMan true by = refl
led_cas IMan false by = refl
led_cas Lo true Switch = refl
led_cas Lo true Fault = refl
led_cas Lo false Switch = refl
led_cas Lo false Fault = refl
led_cas Man true by = refl
led_cas Man false by = refl
led_cas Auto true by = refl
led_cas Auto false by = refl
led_cas Cas true by = refl
led_cas Cas false by = refl

led_at : (m t : Mode) (hides : Bool) (by : LoCause) (above : ℕ) → t ≡ Cas → above ≡ invites (shows_at m hides t by)
    → line_on m (shows_at m hides t by) above ≡ led m hides
led_at m t hides by above e f = rw (f, e) (led_cas m hides by)

no_input_usable : (b : Block) → b.input ≡ None → usable b ≡ true
no_input_usable b h = simp h

pub invited_mode : (b : Block) (fault : Bool) (c : Signal) → KeptBlock b → b.target ≡ Cas → b.switch ≡ false → fault ≡ false
    → c.status.0 ≡ cond (same_code (shown_status b) 0xC8) 0xC4 0xC0 → end_mode b fault c ≡ led b.actual b.hides_request
invited_mode b fault c k t s f e =
    next_free b 0xC0 fault c.status.0 t s (no_input_usable b k.no_input) f refl
    ∙ led_at b.actual b.target b.hides_request b.cause c.status.0 t e
