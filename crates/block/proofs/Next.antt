-- What the mode lines give: out of service, into Cas, and the way from Auto to Cas. Assumes nothing.
use Rattle.std.proofs.Common.{◌≡◌, ℕ, Bool, true, false, cond, not, ◌&&◌, ◌||◌, ◌≢◌, ◌⊎◌, refl, inl, inr, ⊎_elim, arith}
use Rattle.std.proofs.lemmas.Bool.{and_parts}
use Rattle.std.proofs.lemmas.Bool.Decides.{nat_tests}
use Rattle.signal.specs.Mode.{mode_shows}
use Rattle.signal.specs.Status.{same_code}
use Rattle.signal.specs.declared.mode.Mode.{Mode}
use Rattle.signal.specs.declared.mode.LoCause.{LoCause}
use Rattle.signal.specs.declared.mode.LoCause.TheVariants.{Switch, Fault}
use Rattle.signal.specs.declared.mode.Mode.TheVariants.{OutOfService, IMan, Lo, Man, Auto, Cas}
use Rattle.block.specs.Lines.{usable, keeps_cas, next_mode}
use Rattle.block.specs.Modes.{is_os, is_man, is_auto, is_cas}
use Rattle.block.specs.Shown.{shown_status, by_mode}
use Rattle.block.specs.declared.kinds.Block.{Block}

pub cas_is : (m : Mode) → is_cas m ≡ true → m ≡ Cas
cas_is OutOfService h = cc
cas_is IMan h = cc
cas_is Lo h = cc
cas_is Man h = cc
cas_is Auto h = cc
cas_is Cas h = refl

-- a status that asks comes from a block in Auto with target Cas
asking_target : (m t : Mode) (by : LoCause) → same_code (mode_shows m t by) 0xC8 ≡ true → (m ≡ Auto) × (t ≡ Cas)
asking_target OutOfService t by h = (cc, cc)
asking_target IMan t by h = (cc, cc)
asking_target Lo t Switch h = (cc, cc)
asking_target Lo t Fault h = (cc, cc)
asking_target Man t by h = (cc, cc)
asking_target Auto OutOfService by h = (cc, cc)
asking_target Auto IMan by h = (cc, cc)
asking_target Auto Lo by h = (cc, cc)
asking_target Auto Man by h = (cc, cc)
asking_target Auto Auto by h = (cc, cc)
asking_target Auto Cas by h = (refl, refl)
asking_target Cas t by h = (cc, cc)

-- of the lines, only the last two but one give Cas
line_cas : (os un sw fl man auto stay enter : Bool)
    → cond os OutOfService (cond un IMan (cond sw Lo (cond fl Lo (cond man Man (cond auto Auto (cond stay Cas (cond enter Cas Auto))))))) ≡ Cas
    → (stay ≡ true) ⊎ (enter ≡ true)
line_cas true un sw fl man auto stay enter h = inl (cc)
line_cas false true sw fl man auto stay enter h = inl (cc)
line_cas false false true fl man auto stay enter h = inl (cc)
line_cas false false false true man auto stay enter h = inl (cc)
line_cas false false false false true auto stay enter h = inl (cc)
line_cas false false false false false true stay enter h = inl (cc)
line_cas false false false false false false true enter h = inl refl
line_cas false false false false false false false true h = inr refl
line_cas false false false false false false false false h = inl (cc)

-- and it hides nothing that it shows
shown_by_mode : (b : Block) → same_code (shown_status b) 0xC8 ≡ true → same_code (by_mode b) 0xC8 ≡ true
shown_by_mode b h = grind (arith, nat_tests)

-- a block shows C8 only in Auto, with target Cas
pub asks_from : (b : Block) → same_code (shown_status b) 0xC8 ≡ true → (b.actual ≡ Auto) × (b.target ≡ Cas)
asks_from b h = asking_target b.actual b.target b.cause (shown_by_mode b h)

pub cas_shows : (b : Block) → b.actual ≡ Cas → same_code (shown_status b) 0xC0 ≡ true
cas_shows b h = elim b.hides_request as (λ x. same_code (cond (x && same_code (by_mode b) 0xC8) 0xCC (by_mode b)) 0xC0 ≡ true) [ true ↦ simp h | false ↦ simp h ]

pub shows_plain : (b : Block) → b.hides_request ≡ false → shown_status b ≡ by_mode b
shows_plain b h = simp h

module _ (b : Block) (below : ℕ) (fault : Bool) (above : ℕ) where
  pub next_os : b.target ≡ OutOfService → next_mode b below fault above ≡ OutOfService
  next_os h = grind (arith, nat_tests)

  next_cas : next_mode b below fault above ≡ Cas
      → ((is_cas b.actual && (is_cas b.target && keeps_cas above)) ≡ true) ⊎ ((same_code (shown_status b) 0xC8 && same_code above 0xC4) ≡ true)
  next_cas h = line_cas (is_os b.target) (not (same_code below 0xC0)) b.switch fault (is_man b.target || not (usable b)) (is_auto b.target) _ _ h

  pub next_cas_asked : b.actual ≢ Cas → next_mode b below fault above ≡ Cas
      → (same_code (shown_status b) 0xC8 ≡ true) × (same_code above 0xC4 ≡ true)
  next_cas_asked n h = ⊎_elim (λ e. absurd (n (cas_is _ (and_parts _ _ e).0))) (λ e. and_parts _ _ e) (next_cas h)

  pub next_cas_target : next_mode b below fault above ≡ Cas → b.target ≡ Cas
  next_cas_target h =
      ⊎_elim (λ e. cas_is _ (and_parts _ _ (and_parts (is_cas b.actual) _ e).1).0)
      (λ e. (asks_from b (and_parts _ _ e).0).1) (next_cas h)

  -- over a linked end, or with nothing below, and with nothing in the way
  pub next_free : b.target ≡ Cas → b.switch ≡ false → usable b ≡ true → fault ≡ false → same_code below 0xC0 ≡ true
      → next_mode b below fault above
      ≡ cond (is_cas b.actual && keeps_cas above) Cas (cond (same_code (shown_status b) 0xC8 && same_code above 0xC4) Cas Auto)
  next_free t s u f l = simp (t, s, u, f, l)

  -- over one that is not linked
  pub next_unlinked : b.target ≢ OutOfService → same_code below 0xC0 ≡ false → next_mode b below fault above ≡ IMan
  next_unlinked t l = grind (arith, nat_tests)
