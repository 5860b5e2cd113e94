-- A control block over any lower end, with any law, is a lower end. Assumes nothing.
use Rattle.std.specs.Prelude.{◌≡◌, ℕ, zero, suc, ◌+◌, ◌*◌, ◌<◌, ◌≤◌, true, false, cond, ◌&&◌, ◌≢◌, ◌⊎◌, Some, Option, Ok, Err, ◌==◌, refl}
use Rattle.std.proofs.Common.{sym, ◌∙◌, ap, subst, inl, ⊎_elim, arith}
use Rattle.std.proofs.lemmas.Bool.{cond-true, cond-false, cond_both, eqb-true, eq-eqb, ne_eqb}
use Rattle.signal.specs.Limits.{pulled, Inside}
use Rattle.signal.specs.Mode.{mode_shows}
use Rattle.signal.specs.Status.{same_code}
use Rattle.signal.specs.declared.kinds.OperatingPoint.{OperatingPoint}
use Rattle.signal.specs.declared.kinds.Value.{Value}
use Rattle.signal.specs.declared.mode.LoCause.TheVariants.{Switch}
use Rattle.signal.specs.declared.mode.Mode.{Mode}
use Rattle.signal.specs.declared.mode.Mode.TheVariants.{OutOfService, IMan, Lo, Auto, Cas}
use Rattle.signal.specs.declared.status.Signal.{Signal}
use Rattle.law.specs.Law.{LawModel, LawMeaning}
use Rattle.block.specs.Asks.{Standing, standing, same_make, unwritten, sp_cases, refused_same}
use Rattle.block.proofs.Next.{next_os, next_cas_target, next_cas_asked, next_free, cas_shows, shows_plain}
use Rattle.block.proofs.Pulled.{pulled_same, pulled_inside}
use Rattle.block.specs.Calls.{after_ask, answer_of}
use Rattle.block.specs.Lines.{usable, keeps_cas, cause_of, moved}
use Rattle.block.specs.Meaning.{EndModel, Meaning, SameMake, SameBuild, Untouched, Ready, AllCas, invited}
use Rattle.block.specs.Modes.{is_cas}
use Rattle.block.specs.Shown.{shown_status, reading_of}
use Rattle.block.specs.declared.kinds.Ask.{Ask}
use Rattle.block.specs.declared.kinds.Block.{Block}
use Rattle.block.specs.declared.kinds.Refusal.{Refusal}
use Rattle.block.specs.declared.kinds.Refusal.TheVariants.{NoSuchBlock}
use Rattle.control.specs.Sent.{away_most, away_none, sp_inside, acknowledged, asked_back, invites, nearer}
use Rattle.control.specs.Control.{away, brought_to, next_law, left_at, mode_of, out_in, sent_in, with_block, with_lower, ControlKept, control_model}
use Rattle.control.specs.Steps.{taken_in, next_sp}
use Rattle.control.specs.declared.kinds.Control.{Control}

not_iman : OutOfService ≡ IMan → ⊥
not_iman i = let z : ◌≡◌ {A = ℕ} 0 1 = cc in omega arith

module _ {L E : Type 0} (l : LawModel L) (e : EndModel E) (lm : LawMeaning l) (em : Meaning e) where
  abbrev M : EndModel (Control L E)
  M = control_model l e

  abbrev Sent : Control L E → Signal → Signal
  Sent s c = sent_in l s (mode_of l e s c) (e.shown s.lower) c

  -- the block out of service, its setpoint pulled in, over an end that is kept
  some_kept : Control L E → (s : Control L E) × ControlKept l e s
  some_kept s =
      let b : Block = s.block in
      let sp : Value = pulled b.settings.sp_limits b.at.sp in
      let d = em.some_kept s.lower in (
        record { block = moved b OutOfService (record { sp = sp; pv = b.at.pv; out = b.at.out }) false; track_value = s.track_value; law = s.law; lower = d.0 },
        record {
          sp_inside = pulled_inside b.settings.sp_limits b.at.sp;
          shows_request = refl;
          started = λ i. absurd (not_iman i);
          below = d.1;
        },
      )

  kept_asked : (s : Control L E) (k : ℕ) (a : Ask) → ControlKept l e s → ControlKept l e (M.asked s k a)
  kept_asked s zero a h =
      let st : Standing s.block (after_ask s.block a) = standing s.block a in
      record {
        sp_inside = rw st.settings (sp_cases s.block (Inside s.block.settings.sp_limits) a h.sp_inside (λ v. pulled_inside s.block.settings.sp_limits v));
        shows_request = st.hides ∙ h.shows_request;
        started = λ i.
            let im : s.block.actual ≡ IMan = sym st.actual ∙ i in
            ((h.started im).0, rw (unwritten s.block a im) (h.started im).1);
        below = h.below;
      }
  kept_asked s (suc k) a h = record {
    sp_inside = h.sp_inside;
    shows_request = h.shows_request;
    started = h.started;
    below = em.kept_asked s.lower k a h.below;
  }

  started_in : (law : L) (m : Mode) (p : OperatingPoint) (out : Value) → m ≡ IMan
      → next_law l law m p out ≡ l.started law (left_at p out)
  started_in law m p out i = ap (λ (n : Mode). next_law l law n p out) i

  kept_rounded : (s : Control L E) (c : Signal) → ControlKept l e s → ControlKept l e (M.rounded s c)
  kept_rounded s c h = record {
    sp_inside = sp_inside s.block (mode_of l e s c) c.value h.sp_inside;
    shows_request = refl;
    started = λ i. (s.law, started_in s.law (mode_of l e s c) _ _ i);
    below = em.kept_rounded s.lower (Sent s c) h.below;
  }

  -- each fact of the block of a number: the control block's own at 0, and below it that of the number before
  fixed_asked : (s : Control L E) (k : ℕ) (a : Ask) → ControlKept l e s → SameBuild M s (M.asked s k a)
  fixed_asked s zero a h = record { size = refl; settling = refl; blocks = blocks }
    where
      blocks : (j : ℕ) → j < M.size s → SameMake (M.block s j) (M.block (M.asked s 0 a) j)
      blocks zero lt = same_make s.block a
      blocks (suc j) lt = record { settings = refl; has_input = refl }
  fixed_asked s (suc k) a h = record { size = ap (λ (n : ℕ). n + 1) f.size; settling = ap (λ (n : ℕ). n + 2) f.settling; blocks = blocks }
    where
      f : SameBuild e s.lower (e.asked s.lower k a)
      f = em.fixed_asked s.lower k a h.below

      blocks : (j : ℕ) → j < M.size s → SameMake (M.block s j) (M.block (M.asked s (suc k) a) j)
      blocks zero lt = record { settings = refl; has_input = refl }
      blocks (suc j) lt = f.blocks j (omega arith)

  fixed_rounded : (s : Control L E) (c : Signal) → ControlKept l e s → SameBuild M s (M.rounded s c)
  fixed_rounded s c h = record { size = ap (λ (n : ℕ). n + 1) f.size; settling = ap (λ (n : ℕ). n + 2) f.settling; blocks = blocks }
    where
      f : SameBuild e s.lower (e.rounded s.lower (Sent s c))
      f = em.fixed_rounded s.lower (Sent s c) h.below

      blocks : (j : ℕ) → j < M.size s → SameMake (M.block s j) (M.block (M.rounded s c) j)
      blocks zero lt = record { settings = refl; has_input = refl }
      blocks (suc j) lt = f.blocks j (omega arith)

  settling_range : (s : Control L E) → ControlKept l e s → (1 ≤ M.settling s) × (M.settling s ≤ 1000 * M.size s)
  settling_range s h = let r = em.settling_range s.lower h.below in (omega arith, omega arith)

  reads : (s : Control L E) (k : ℕ) → ControlKept l e s → k < M.size s → M.reading s k ≡ Ok (reading_of (M.block s k))
  reads s zero h lt = refl
  reads s (suc j) h lt = em.reads s.lower j h.below (omega arith)

  reads_none : (s : Control L E) (k : ℕ) → ControlKept l e s → M.size s ≤ k → M.reading s k ≡ Err NoSuchBlock
  reads_none s zero h le = absurd (omega arith)
  reads_none s (suc j) h le = em.reads_none s.lower j h.below (omega arith)

  answers : (s : Control L E) (k : ℕ) (a : Ask) → ControlKept l e s → k < M.size s → M.answer s k a ≡ answer_of (M.block s k) a
  answers s zero a h lt = refl
  answers s (suc j) a h lt = em.answers s.lower j a h.below (omega arith)

  changes : (s : Control L E) (k : ℕ) (a : Ask) → ControlKept l e s → k < M.size s → M.block (M.asked s k a) k ≡ after_ask (M.block s k) a
  changes s zero a h lt = refl
  changes s (suc j) a h lt = em.changes s.lower j a h.below (omega arith)

  leaves_others : (s : Control L E) (k j : ℕ) (a : Ask) → ControlKept l e s → j < M.size s → j ≢ k → M.block (M.asked s k a) j ≡ M.block s j
  leaves_others s zero zero a h lt n = absurd (n refl)
  leaves_others s zero (suc j) a h lt n = refl
  leaves_others s (suc k) zero a h lt n = refl
  leaves_others s (suc k) (suc j) a h lt n = em.leaves_others s.lower k j a h.below (omega arith) (λ q. n (ap suc q))

  refused_leaves : (s : Control L E) (k : ℕ) (a : Ask) (r : Refusal) → ControlKept l e s → M.answer s k a ≡ Err r → M.asked s k a ≡ s
  refused_leaves s zero a r h q = ap (with_block s) (refused_same s.block a r q)
  refused_leaves s (suc j) a r h q = ap (with_lower s) (em.refused_leaves s.lower j a r h.below q)

  restores : (s : Control L E) (k : ℕ) (a b : Ask) → ControlKept l e s → k < M.size s
      → after_ask (after_ask (M.block s k) a) b ≡ M.block s k → M.asked (M.asked s k a) k b ≡ s
  restores s zero a b h lt q = ap (with_block s) q
  restores s (suc j) a b h lt q = ap (with_lower s) (em.restores s.lower j a b h.below (omega arith) q)

  no_such_block : (s : Control L E) (k : ℕ) (a : Ask) → ControlKept l e s → M.size s ≤ k → M.answer s k a ≡ Err NoSuchBlock
  no_such_block s zero a h le = absurd (omega arith)
  no_such_block s (suc j) a h le = em.no_such_block s.lower j a h.below (omega arith)

  round_leaves : (s : Control L E) (c : Signal) (k : ℕ) → ControlKept l e s → k < M.size s → Untouched (M.block s k) (M.block (M.rounded s c) k)
  round_leaves s c zero h lt = record { target = refl; switch = refl; input = refl }
  round_leaves s c (suc j) h lt = em.round_leaves s.lower (Sent s c) j h.below (omega arith)

  out_of_service : (s : Control L E) (c : Signal) (k : ℕ) → ControlKept l e s → k < M.size s
      → (M.block s k).target ≡ OutOfService → (M.block (M.rounded s c) k).actual ≡ OutOfService
  out_of_service s c zero h lt t = next_os s.block (e.shown s.lower).status.0 false c.status.0 t
  out_of_service s c (suc j) h lt t = em.out_of_service s.lower (Sent s c) j h.below (omega arith) t

  cas_on_target : (s : Control L E) (c : Signal) (k : ℕ) → ControlKept l e s → k < M.size s
      → (M.block (M.rounded s c) k).actual ≡ Cas → (M.block s k).target ≡ Cas
  cas_on_target s c zero h lt q = next_cas_target s.block (e.shown s.lower).status.0 false c.status.0 q
  cas_on_target s c (suc j) h lt q = em.cas_on_target s.lower (Sent s c) j h.below (omega arith) q

  into_cas : (s : Control L E) (c : Signal) (k : ℕ) → ControlKept l e s → k < M.size s
      → (M.block s k).actual ≢ Cas → (M.block (M.rounded s c) k).actual ≡ Cas
      → (same_code (shown_status (M.block s k)) 0xC8 ≡ true) × (k ≡ 0 → same_code c.status.0 0xC4 ≡ true)
  into_cas s c zero h lt n q = let r = next_cas_asked s.block (e.shown s.lower).status.0 false c.status.0 n q in (r.0, λ _. r.1)
  into_cas s c (suc j) h lt n q =
      ((em.into_cas s.lower (Sent s c) j h.below (omega arith) n q).0, λ z. absurd (omega arith))

  lo_by_switch : (s : Control L E) (c : Signal) (k : ℕ) → ControlKept l e s → k < M.size s
      → (M.block (M.rounded s c) k).actual ≡ Lo → (M.block s k).switch ≡ true → (M.block (M.rounded s c) k).cause ≡ Switch
  lo_by_switch s c zero h lt lo on = ap cause_of on
  lo_by_switch s c (suc j) h lt lo on = em.lo_by_switch s.lower (Sent s c) j h.below (omega arith) lo on

  first_keeps_sp : (s : Control L E) (c : Signal) → ControlKept l e s
      → (M.block s 0).actual ≢ Cas → (M.block (M.rounded s c) 0).actual ≡ Cas
      → c.value ≡ (M.block s 0).at.sp → (M.block (M.rounded s c) 0).at.sp ≡ (M.block s 0).at.sp
  first_keeps_sp s c h n q v =
      ap (λ (m : Mode). next_sp s.block m c.value) q
      ∙ ap (pulled s.block.settings.sp_limits) v ∙ pulled_same s.block.settings.sp_limits s.block.at.sp h.sp_inside

  -- an end that comes into Cas was sent what it shows
  sent_back : (s : Control L E) (c : Signal) → ControlKept l e s → same_code (Sent s c).status.0 0xC4 ≡ true
      → (Sent s c).value ≡ (e.block s.lower 0).at.sp
  sent_back s c h q =
      let a = acknowledged s.block (mode_of l e s c) (e.shown s.lower).status.0 c.status.0 q in
      ap (λ (m : Mode). out_in l s m (e.shown s.lower) c) a.0
      ∙ asked_back s.block (e.shown s.lower) s.track_value
      (l.answer s.law (brought_to s.block IMan c.value)) a.1 ∙ ap (λ (x : Signal). x.value) (em.shows s.lower h.below)

  inner_keeps_sp : (s : Control L E) (c : Signal) (k : ℕ) → ControlKept l e s → 0 < k → k < M.size s
      → (M.block s k).actual ≢ Cas → (M.block (M.rounded s c) k).actual ≡ Cas → (M.block (M.rounded s c) k).at.sp ≡ (M.block s k).at.sp
  inner_keeps_sp s c zero h p lt n q = absurd (omega arith)
  inner_keeps_sp s c (suc zero) h p lt n q =
      em.first_keeps_sp s.lower (Sent s c) h.below n q
      (sent_back s c h ((em.into_cas s.lower (Sent s c) 0 h.below (omega arith) n q).1 refl))
  inner_keeps_sp s c (suc (suc j)) h p lt n q =
      em.inner_keeps_sp s.lower (Sent s c) (suc j) h.below (omega arith) (omega arith) n q

  takes_pv : (s : Control L E) (c : Signal) (k : ℕ) (i : Signal) → ControlKept l e s → k < M.size s → (M.block s k).input ≡ Some i
      → (M.block (M.rounded s c) k).at.pv ≡ cond (usable (M.block s k)) i.value (M.block s k).at.pv
  takes_pv s c zero i h lt t = ap (λ (o : Option Signal). taken_in o (usable s.block) s.block.at.pv) t
  takes_pv s c (suc j) i h lt t = em.takes_pv s.lower (Sent s c) j i h.below (omega arith) t

  keeps_out : (s : Control L E) (c : Signal) (k : ℕ) (i : Signal) → ControlKept l e s → k < M.size s → (M.block s k).input ≡ Some i
      → (M.block s k).actual ≡ IMan → (M.block (M.rounded s c) k).actual ≡ Auto
      → (M.block s k).at.sp ≡ (M.block s k).at.pv
      → (M.block (M.rounded s c) k).at.sp ≡ (M.block s k).at.sp → (M.block (M.rounded s c) k).at.pv ≡ (M.block s k).at.pv
      → (M.block (M.rounded s c) k).at.out ≡ pulled (M.block s k).settings.out_limits (M.block s k).at.out
  keeps_out s c zero i h lt t im au eq sp pv =
      let b : Block = s.block in
      let st = h.started im in
      ap (λ (m : Mode). out_in l s m (e.shown s.lower) c) au
      ∙ ap (pulled b.settings.out_limits)
      (ap (λ (v : Value). l.answer s.law (record { sp = b.at.sp; pv = v; out = b.at.out })) pv
      ∙ ap (λ (x : L). l.answer x b.at) st.1 ∙ lm.starting_rule st.0 b.at eq)
  keeps_out s c (suc j) i h lt t im au eq sp pv = em.keeps_out s.lower (Sent s c) j i h.below (omega arith) t im au eq sp pv

  near : (s : Control L E) → ControlKept l e s → M.distance s ≤ M.settling s
  near s h =
      let n = em.near s.lower h.below in
      let m = away_most s.block.actual in
      cond_both (e.distance s.lower == 0) _ _ (λ d. d ≤ M.settling s) (λ _. omega arith) (λ _. omega arith)

  there : (s : Control L E) → ControlKept l e s → M.distance s ≡ 0 → AllCas M s
  there s h z = all
    where
      both : (e.distance s.lower ≡ 0) × (away s.block.actual ≡ 0)
      both =
          cond_both (e.distance s.lower == 0) (away s.block.actual) (e.distance s.lower + 2)
          (λ d. d ≡ 0 → (e.distance s.lower ≡ 0) × (away s.block.actual ≡ 0))
          (λ t q. (eqb-true _ _ t, q)) (λ _ q. absurd (omega arith)) z

      all : AllCas M s
      all zero lt = away_none s.block.actual both.1
      all (suc j) lt = em.there s.lower h.below both.0 j (omega arith)

  only_there : (s : Control L E) → ControlKept l e s → AllCas M s → M.distance s ≡ 0
  only_there s h all =
      let d : e.distance s.lower ≡ 0 = em.only_there s.lower h.below (λ j lt. all (suc j) (omega arith)) in
      let a : s.block.actual ≡ Cas = all 0 (omega arith) in
      cond-true (e.distance s.lower == 0) (away s.block.actual) (e.distance s.lower + 2) (eq-eqb _ _ d) ∙ ap away a

  stays : (s : Control L E) (k : ℕ) (a : Ask) → ControlKept l e s
      → (k < M.size s → (M.block (M.asked s k a) k).target ≡ (M.block s k).target) → M.distance (M.asked s k a) ≡ M.distance s
  stays s zero a h t = ap (λ (m : Mode). cond (e.distance s.lower == 0) (away m) (e.distance s.lower + 2)) (standing s.block a).actual
  stays s (suc j) a h t =
      ap (λ (d : ℕ). cond (d == 0) (away s.block.actual) (d + 2)) (em.stays s.lower j a h.below (λ lt. t (omega arith)))

  shown_first : (s : Control L E) → ControlKept l e s → (e.shown s.lower).status.0 ≡ shown_status (e.block s.lower 0)
  shown_first s h = ap (λ (x : Signal). x.status.0) (em.shows s.lower h.below)

  some_below : (s : Control L E) → ControlKept l e s → 0 < e.size s.lower
  some_below s h = let r = em.settling_range s.lower h.below in omega arith

  -- an end all in Cas shows C0
  linked : (s : Control L E) → ControlKept l e s → e.distance s.lower ≡ 0 → same_code (e.shown s.lower).status.0 0xC0 ≡ true
  linked s h z =
      ap (λ (n : ℕ). same_code n 0xC0) (shown_first s h)
      ∙ cas_shows (e.block s.lower 0) (em.there s.lower h.below z 0 (some_below s h))

  module _ (s : Control L E) (c : Signal) (h : ControlKept l e s) (ready : Ready M s) (q : c.status.0 ≡ invited M s) where
    t : s.block.target ≡ Cas
    t = ready.targets 0 (omega arith)

    off : s.block.switch ≡ false
    off = ready.off 0 (omega arith)

    live : usable s.block ≡ true
    live = ready.live 0 (omega arith)

    ready_below : Ready e s.lower
    ready_below = record {
      targets = λ j lt. ready.targets (suc j) (omega arith);
      off = λ j lt. ready.off (suc j) (omega arith);
      live = λ j lt. ready.live (suc j) (omega arith);
    }

    invites_below : (Sent s c).status.0 ≡ invited e s.lower
    invites_below =
        invites s.block (e.shown s.lower).status.0 c.status.0 t off live (same_code (shown_status s.block) 0xC8) q
        ∙ ap (λ (n : ℕ). cond (same_code n 0xC8) 0xC4 0xC0) (shown_first s h)

    -- the end below comes nearer
    far : e.distance (e.rounded s.lower (Sent s c)) < e.distance s.lower → M.distance (M.rounded s c) < M.distance s
    far lt =
        let here : M.distance s ≡ e.distance s.lower + 2 = cond-false (e.distance s.lower == 0) _ _ (ne_eqb _ _ (λ z. omega arith)) in
        let m = away_most (mode_of l e s c) in
        cond_both (e.distance (e.rounded s.lower (Sent s c)) == 0) _ _ (λ d. d < M.distance s) (λ _. omega arith) (λ _. omega arith)

    -- or it is there, and the block itself comes nearer
    at_hand : e.distance s.lower ≡ 0 → e.distance (e.rounded s.lower (Sent s c)) ≡ 0
        → (M.distance (M.rounded s c) < M.distance s) ⊎ ((M.distance s ≡ 0) × (M.distance (M.rounded s c) ≡ 0))
    at_hand z y =
        let b : Block = s.block in
        let above : ℕ = c.status.0 in
        let plain : shown_status b ≡ mode_shows b.actual Cas b.cause =
        shows_plain b h.shows_request ∙ ap (λ (x : Mode). mode_shows b.actual x b.cause) t in
        let asked : above ≡ cond (same_code (mode_shows b.actual Cas b.cause) 0xC8) 0xC4 0xC0 =
        q ∙ ap (λ (n : ℕ). cond (same_code n 0xC8) 0xC4 0xC0) plain in
        let to = next_free b (e.shown s.lower).status.0 false above t off live refl (linked s h z)
        ∙ ap (λ (n : ℕ). cond (is_cas b.actual && keeps_cas above) Cas (cond (same_code n 0xC8 && same_code above 0xC4) Cas Auto)) plain in
        let before : M.distance s ≡ away b.actual = cond-true (e.distance s.lower == 0) _ _ (eq-eqb _ _ z) in
        let after : M.distance (M.rounded s c) ≡ away (mode_of l e s c) =
        cond-true (e.distance (e.rounded s.lower (Sent s c)) == 0) _ _ (eq-eqb _ _ y) in
        let Nearer : ℕ → ℕ → Type 0 = λ m n. (m < n) ⊎ ((n ≡ 0) × (m ≡ 0)) in
        subst (λ (n : ℕ). Nearer (M.distance (M.rounded s c)) n) (sym before)
        (subst (λ (m : ℕ). Nearer m (away b.actual)) (sym (after ∙ ap away to)) (nearer b.actual b.cause above asked))

  falls : (s : Control L E) (c : Signal) → ControlKept l e s → Ready M s → c.status.0 ≡ invited M s
      → (M.distance (M.rounded s c) < M.distance s) ⊎ ((M.distance s ≡ 0) × (M.distance (M.rounded s c) ≡ 0))
  falls s c h ready q =
      ⊎_elim (λ lt. inl (far s c h ready q lt)) (λ z. at_hand s c h ready q z.0 z.1)
      (em.falls s.lower (Sent s c) h.below (ready_below s c h ready q) (invites_below s c h ready q))

  pub control_meaning : Meaning (control_model l e)
  control_meaning = record {
    some_kept = some_kept;
    kept_asked = kept_asked;
    kept_rounded = kept_rounded;
    fixed_asked = fixed_asked;
    fixed_rounded = fixed_rounded;
    settling_range = settling_range;
    shows = λ s h. refl;
    reads = reads;
    reads_none = reads_none;
    answers = answers;
    changes = changes;
    leaves_others = leaves_others;
    refused_leaves = refused_leaves;
    restores = restores;
    no_such_block = no_such_block;
    round_leaves = round_leaves;
    out_of_service = out_of_service;
    cas_on_target = cas_on_target;
    into_cas = into_cas;
    lo_by_switch = lo_by_switch;
    first_keeps_sp = first_keeps_sp;
    inner_keeps_sp = inner_keeps_sp;
    takes_pv = takes_pv;
    keeps_out = keeps_out;
    near = near;
    there = there;
    only_there = only_there;
    falls = falls;
    stays = stays;
  }
