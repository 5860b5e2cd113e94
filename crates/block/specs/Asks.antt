-- What a call leaves in a block: its settings, its actual mode and what it hides; refused, all of it. Assumes nothing.
use Rattle.std.proofs.Common.{◌≡◌, ℕ, Bool, true, false, cond, is_some, Some, None, Ok, Err, Option, Result, refl, ap}
use Rattle.signal.specs.Limits.{pulled}
use Rattle.signal.specs.Mode.{target_of}
use Rattle.signal.specs.Value.{value_near}
use Rattle.signal.specs.declared.kinds.Value.{Value}
use Rattle.signal.specs.declared.mode.Mode.TheVariants.{IMan}
use Rattle.signal.specs.declared.status.Signal.{Signal}
use Rattle.block.specs.Calls.{refusal_of, is_value, with_target, put_input, changed, after_ask, answer_of}
use Rattle.block.specs.Meaning.{SameMake}
use Rattle.block.specs.declared.kinds.Ask.{Ask}
use Rattle.block.specs.declared.kinds.Ask.TheVariants.{Target, Switch, Input, Setpoint, Output}
use Rattle.block.specs.declared.kinds.Block.{Block}
use Rattle.block.specs.declared.kinds.Refusal.{Refusal}
use Rattle.block.specs.declared.kinds.Refusal.TheVariants.{NotAuto, NotMan, NotHere, OutOfRange}

-- what no call changes
pub record Standing (b d : Block) : Type 0 where
  pub settings : d.settings ≡ b.settings
  pub has_input : is_some d.input ≡ is_some b.input
  pub actual : d.actual ≡ b.actual
  pub cause : d.cause ≡ b.cause
  pub pv : d.at.pv ≡ b.at.pv
  pub hides : d.hides_request ≡ b.hides_request

standing_same : (b : Block) → Standing b b
standing_same b = record { settings = refl; has_input = refl; actual = refl; cause = refl; pv = refl; hides = refl }

standing_target : (b : Block) (t : ℕ) → Standing b (changed b (Target t))
standing_target b t =
    elim (target_of t) as (λ o. Standing b (elim o [ None ↦ b | Some m ↦ with_target b m ]))
    [ None ↦ standing_same b | Some m ↦ record { settings = refl; has_input = refl; actual = refl; cause = refl; pv = refl; hides = refl } ]

put_same : (o : Option Signal) (i : Signal) → is_some (put_input o i) ≡ is_some o
put_same None i = refl
put_same (Some j) i = refl

standing_changed : (b : Block) (a : Ask) → Standing b (changed b a)
standing_changed b (Target t) = standing_target b t
standing_changed b (Switch n) = record { settings = refl; has_input = refl; actual = refl; cause = refl; pv = refl; hides = refl }
standing_changed b (Input z s) = record { settings = refl; has_input = put_same b.input _; actual = refl; cause = refl; pv = refl; hides = refl }
standing_changed b (Setpoint z) = record { settings = refl; has_input = refl; actual = refl; cause = refl; pv = refl; hides = refl }
standing_changed b (Output z) = record { settings = refl; has_input = refl; actual = refl; cause = refl; pv = refl; hides = refl }

-- a call is accepted, or the block stays as it is
pub after_cases : (b : Block) (a : Ask) (P : Block → Type 0) → P b → P (changed b a) → P (after_ask b a)
after_cases b a P here there =
    elim (refusal_of b a) as (λ o. P (elim o [ None ↦ changed b a | Some r ↦ b ])) [ None ↦ there | Some r ↦ here ]

pub standing : (b : Block) (a : Ask) → Standing b (after_ask b a)
standing b a = after_cases b a (Standing b) (standing_same b) (standing_changed b a)

pub same_make : (b : Block) (a : Ask) → SameMake b (after_ask b a)
same_make b a = let st : Standing b (after_ask b a) = standing b a in record { settings = st.settings; has_input = st.has_input }

refused_same_at : (b : Block) (a : Ask) (r : Refusal) (o : Option Refusal)
    → ◌≡◌ {A = Result (Unit {0}) Refusal} (elim o [ None ↦ Ok tt | Some x ↦ Err x ]) (Err r) → elim o [ None ↦ changed b a | Some x ↦ b ] ≡ b
refused_same_at b a r None e = cc
refused_same_at b a r (Some x) e = refl

pub refused_same : (b : Block) (a : Ask) (r : Refusal) → answer_of b a ≡ Err r → after_ask b a ≡ b
refused_same b a r e = refused_same_at b a r (refusal_of b a) e

-- a new target leaves the three numbers
at_target : (b : Block) (t : ℕ) → (changed b (Target t)).at ≡ b.at
at_target b t = elim (target_of t) as (λ o. (elim o as (λ _. Block) [ None ↦ b | Some m ↦ with_target b m ]).at ≡ b.at) [ None ↦ refl | Some m ↦ refl ]

-- the setpoint afterwards is as it was, or a written one pulled into its limits; and so the output
module _ (b : Block) (P : Value → Type 0) where
  sp_changed : (a : Ask) → P b.at.sp → ((v : Value) → P (pulled b.settings.sp_limits v)) → P (changed b a).at.sp
  sp_changed (Target t) here there = rw (at_target b t) here
  sp_changed (Switch n) here there = here
  sp_changed (Input z s) here there = here
  sp_changed (Setpoint z) here there = there (value_near z)
  sp_changed (Output z) here there = here

  pub sp_cases : (a : Ask) → P b.at.sp → ((v : Value) → P (pulled b.settings.sp_limits v)) → P (after_ask b a).at.sp
  sp_cases a here there = after_cases b a (λ d. P d.at.sp) here (sp_changed a here there)

  out_changed : (a : Ask) → P b.at.out → ((v : Value) → P (pulled b.settings.out_limits v)) → P (changed b a).at.out
  out_changed (Target t) here there = rw (at_target b t) here
  out_changed (Switch n) here there = here
  out_changed (Input z s) here there = here
  out_changed (Setpoint z) here there = here
  out_changed (Output z) here there = there (value_near z)

  pub out_cases : (a : Ask) → P b.at.out → ((v : Value) → P (pulled b.settings.out_limits v)) → P (after_ask b a).at.out
  out_cases a here there = after_cases b a (λ d. P d.at.out) here (out_changed a here there)

-- a call that is turned down, whatever for
module _ (b : Block) (a : Ask) where
  refused_by : (r : Refusal) → refusal_of b a ≡ Some r → after_ask b a ≡ b
  refused_by r e = ap (λ (o : Option Refusal). elim o as (λ _. Block) [ None ↦ changed b a | Some x ↦ b ]) e

  refused_either : (t : Bool) (r q : Refusal) → refusal_of b a ≡ cond t (Some r) (Some q) → after_ask b a ≡ b
  refused_either true r q e = refused_by r e
  refused_either false r q e = refused_by q e

  refused_any : (u t : Bool) (r q p : Refusal) → refusal_of b a ≡ cond u (cond t (Some r) (Some q)) (Some p) → after_ask b a ≡ b
  refused_any true t r q p e = refused_either t r q e
  refused_any false t r q p e = refused_by p e

-- in IMan neither a setpoint nor an output is written
pub unwritten : (b : Block) (a : Ask) → b.actual ≡ IMan → (after_ask b a).at ≡ b.at
unwritten b (Target t) h = after_cases b (Target t) (λ d. d.at ≡ b.at) refl (at_target b t)
unwritten b (Switch n) h = after_cases b (Switch n) (λ d. d.at ≡ b.at) refl refl
unwritten b (Input z s) h = after_cases b (Input z s) (λ d. d.at ≡ b.at) refl refl
unwritten b (Setpoint z) h =
    ap (λ (x : Block). x.at) (refused_either b (Setpoint z) (is_value z) NotAuto OutOfRange (simp h))
unwritten b (Output z) h =
    ap (λ (x : Block). x.at) (refused_any b (Output z) b.settings.takes_output (is_value z) NotMan OutOfRange NotHere (simp h))
