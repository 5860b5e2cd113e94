-- What a control block sends down, and how it comes nearer to Cas. Assumes nothing.
use Rattle.std.specs.Prelude.{◌≡◌, ℕ, ◌<◌, ◌≤◌, Bool, true, false, cond, ◌&&◌, ◌≢◌, ◌⊎◌, refl}
use Rattle.std.proofs.Common.{sym, ◌∙◌, ap, subst, inl, inr, ⊎_elim, arith, lit<, lit≤}
use Rattle.std.proofs.lemmas.Bool.{and_parts, cond_both, cases_Bool, eqb-true, false≢true}
use Rattle.signal.specs.Limits.{Inside}
use Rattle.signal.specs.Mode.{mode_shows}
use Rattle.signal.specs.Status.{same_code, quality_of}
use Rattle.signal.specs.declared.kinds.Value.{Value}
use Rattle.signal.specs.declared.mode.LoCause.{LoCause}
use Rattle.signal.specs.declared.mode.LoCause.TheVariants.{Switch, Fault}
use Rattle.signal.specs.declared.mode.Mode.{Mode}
use Rattle.signal.specs.declared.mode.Mode.TheVariants.{OutOfService, IMan, Lo, Man, Auto, Cas}
use Rattle.signal.specs.declared.status.Signal.{Signal}
use Rattle.block.proofs.Next.{next_free, next_unlinked}
use Rattle.block.proofs.Pulled.{pulled_inside}
use Rattle.block.specs.Lines.{usable, keeps_cas, next_mode}
use Rattle.block.specs.Modes.{is_os, is_iman, is_cas}
use Rattle.block.specs.Shown.{shown_status}
use Rattle.block.specs.declared.kinds.Block.{Block}
use Rattle.control.specs.Control.{away}
use Rattle.control.specs.Steps.{tracked_sp, next_sp, next_out, sends_fault, sent_status, taken_back}

pub away_most : (m : Mode) → away m ≤ 2
away_most OutOfService = lit≤ tt
away_most IMan = lit≤ tt
away_most Lo = lit≤ tt
away_most Man = lit≤ tt
away_most Auto = lit≤ tt
away_most Cas = lit≤ tt

pub away_none : (m : Mode) → away m ≡ 0 → m ≡ Cas
away_none OutOfService h = absurd (omega arith)
away_none IMan h = absurd (omega arith)
away_none Lo h = absurd (omega arith)
away_none Man h = absurd (omega arith)
away_none Auto h = absurd (omega arith)
away_none Cas h = refl

-- the setpoint stays inside its limits
tracked_inside : (b : Block) → Inside b.settings.sp_limits b.at.sp → Inside b.settings.sp_limits (tracked_sp b)
tracked_inside b h =
    cond_both b.settings.options.track_pv _ _ (Inside b.settings.sp_limits) (λ _. pulled_inside b.settings.sp_limits _) (λ _. h)

pub sp_inside : (b : Block) (m : Mode) (v : Value) → Inside b.settings.sp_limits b.at.sp → Inside b.settings.sp_limits (next_sp b m v)
sp_inside b OutOfService v h = h
sp_inside b IMan v h = tracked_inside b h
sp_inside b Lo v h = tracked_inside b h
sp_inside b Man v h = tracked_inside b h
sp_inside b Auto v h = h
sp_inside b Cas v h = pulled_inside b.settings.sp_limits v

-- C4 goes down only in IMan, to an end that asks; the output then is what that end shows
iman_is : (m : Mode) → is_iman m ≡ true → m ≡ IMan
iman_is OutOfService h = cc
iman_is IMan h = refl
iman_is Lo h = cc
iman_is Man h = cc
iman_is Auto h = cc
iman_is Cas h = cc

acknowledges : (os fault ask : Bool) → same_code (cond os 0x1C (cond fault 0xE0 (cond ask 0xC4 0xC0))) 0xC4 ≡ true → ask ≡ true
acknowledges true fault ask h = cc
acknowledges false true ask h = cc
acknowledges false false true h = refl
acknowledges false false false h = cc

pub acknowledged : (b : Block) (m : Mode) (below above : ℕ) → same_code (sent_status b m below above) 0xC4 ≡ true
    → (m ≡ IMan) × (same_code below 0xC8 ≡ true)
acknowledged b m below above h =
    let ask = and_parts (is_iman m) (same_code below 0xC8) (acknowledges (is_os m) (sends_fault b above) _ h) in
    (iman_is m ask.0, ask.1)

pub asked_back : (b : Block) (below : Signal) (track law : Value) → same_code below.status.0 0xC8 ≡ true
    → next_out b IMan below track law ≡ below.value
asked_back b below track law h =
    let e : below.status.0 ≡ 0xC8 = eqb-true _ _ h in
    let P : ℕ → Type 0 = λ x. taken_back (quality_of x) below.value b.at.out ≡ below.value in
    subst P (sym e) refl

-- with nothing in the way, an end below gets C4 if it asks, else C0
no_fault : (x : Bool) → same_code (cond x 0xC4 0xC0) 0xE0 ≡ false
no_fault true = refl
no_fault false = refl

sent_plain : (os fault iman ask : Bool) → os ≡ false → fault ≡ false → (iman ≡ true) ⊎ (ask ≡ false)
    → ◌≡◌ {A = ℕ} (cond os 0x1C (cond fault 0xE0 (cond (iman && ask) 0xC4 0xC0))) (cond ask 0xC4 0xC0)
sent_plain true fault iman ask o f i = cc
sent_plain false true iman ask o f i = cc
sent_plain false false true ask o f i = refl
sent_plain false false false ask o f (inl i) = cc
sent_plain false false false ask o f (inr i) = rw i refl

either_runs : (f : Mode → Bool) (p q : Bool) → f Cas ≡ false → f Auto ≡ false → f (cond p Cas (cond q Cas Auto)) ≡ false
either_runs f true q c a = c
either_runs f false true c a = c
either_runs f false false c a = a

not_os : {m : Mode} → m ≡ Cas → m ≢ OutOfService
not_os e o = let z : is_cas OutOfService ≡ true = ap is_cas (sym o ∙ e) in false≢true z

module _ (b : Block) (below above : ℕ) (t : b.target ≡ Cas) (s : b.switch ≡ false) (u : usable b ≡ true)
    (x : Bool) (c : above ≡ cond x 0xC4 0xC0) where
  sends_none : sends_fault b above ≡ false
  sends_none =
      let q : same_code above 0xE0 ≡ false = ap (λ (n : ℕ). same_code n 0xE0) c ∙ no_fault x in
      simp (t, u, q)

  pub invites : sent_status b (next_mode b below false above) below above ≡ cond (same_code below 0xC8) 0xC4 0xC0
  invites =
      let m : Mode = next_mode b below false above in
      let free : same_code below 0xC0 ≡ true → sent_status b m below above ≡ cond (same_code below 0xC8) 0xC4 0xC0 =
      λ h. let e = next_free b below false above t s u refl h in
      sent_plain (is_os m) (sends_fault b above) (is_iman m) (same_code below 0xC8) (ap is_os e ∙ either_runs is_os (is_cas b.actual && keeps_cas above) (same_code (shown_status b) 0xC8 && same_code above 0xC4) refl refl) sends_none
      (inr (ap (λ (n : ℕ). same_code n 0xC8) (eqb-true below 0xC0 h))) in
      let unlinked : same_code below 0xC0 ≡ false → sent_status b m below above ≡ cond (same_code below 0xC8) 0xC4 0xC0 =
      λ h. let e = next_unlinked b below false above (not_os t) h in
      sent_plain (is_os m) (sends_fault b above) (is_iman m) (same_code below 0xC8) (ap is_os e) sends_none (inl (ap is_iman e)) in
      ⊎_elim free unlinked (cases_Bool (same_code below 0xC0))

-- over an end that is in Cas, the next mode is nearer
pub nearer : (m : Mode) (by : LoCause) (above : ℕ) → above ≡ cond (same_code (mode_shows m Cas by) 0xC8) 0xC4 0xC0
    → (away (cond (is_cas m && keeps_cas above) Cas (cond (same_code (mode_shows m Cas by) 0xC8 && same_code above 0xC4) Cas Auto)) < away m)
    ⊎ ((away m ≡ 0) × (away (cond (is_cas m && keeps_cas above) Cas (cond (same_code (mode_shows m Cas by) 0xC8 && same_code above 0xC4) Cas Auto)) ≡ 0))
nearer OutOfService by above e = inl (lit< tt)
nearer IMan by above e = inl (lit< tt)
nearer Lo Switch above e = inl (lit< tt)
nearer Lo Fault above e = inl (lit< tt)
nearer Man by above e = inl (lit< tt)
nearer Auto by above e = rw e (inl (lit< tt))
nearer Cas by above e = rw e (inr (refl, refl))
