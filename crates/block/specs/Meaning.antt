-- What a lower end means to whoever stands above it. Assumes nothing.
--     Meaning e      the facts that every end owes, one named field for each
--     EndModel S     what an end does, over all that it is, here one S: what it is and what it is asked alone fix its answer
--                    and what it becomes. `kept` holds of an end as made and of whatever came of it since
--     Ready e s      all targets Cas, every switch off, every input usable
--     AllCas e s     all blocks are in Cas
--     invited e s    the status that takes the end into Cas: C4 if it shows C8, else C0
use Rattle.std.specs.Prelude.{◌≡◌, ℕ, ◌*◌, ◌<◌, ◌≤◌, true, false, cond, ◌≢◌, ◌⊎◌, is_some, Some, Ok, Err, Result}
use Rattle.signal.specs.Limits.{pulled}
use Rattle.signal.specs.Status.{same_code}
use Rattle.signal.specs.declared.mode.LoCause.TheVariants.{Switch}
use Rattle.signal.specs.declared.mode.Mode.TheVariants.{OutOfService, IMan, Lo, Auto, Cas}
use Rattle.signal.specs.declared.status.Signal.{Signal}
use Rattle.block.specs.Calls.{answer_of, after_ask}
use Rattle.block.specs.Lines.{usable}
use Rattle.block.specs.Shown.{shown_status, shown_signal, reading_of}
use Rattle.block.specs.declared.kinds.Ask.{Ask}
use Rattle.block.specs.declared.kinds.Block.{Block}
use Rattle.block.specs.declared.kinds.Reading.{Reading}
use Rattle.block.specs.declared.kinds.Refusal.{Refusal}
use Rattle.block.specs.declared.kinds.Refusal.TheVariants.{NoSuchBlock}

pub record EndModel (S : Type 0) : Type 1 where
  -- how many blocks, the first on top; the number N; how far it is from being all in Cas
  pub size : S → ℕ
  pub settling : S → ℕ
  pub distance : S → ℕ
  -- the block of a number, from 0; what is shown upward
  pub block : S → ℕ → Block
  pub shown : S → Signal
  -- a reading of a block
  pub reading : S → ℕ → Result Reading Refusal
  -- a call that names a block: the answer, and the end afterwards
  pub answer : S → ℕ → Ask → Result (Unit {0}) Refusal
  pub asked : S → ℕ → Ask → S
  -- a round on a signal from above
  pub rounded : S → Signal → S
  pub kept : S → Type 0

-- a round leaves what was ordered as it was
pub record Untouched (b d : Block) : Type 0 where
  pub target : d.target ≡ b.target
  pub switch : d.switch ≡ b.switch
  pub input : d.input ≡ b.input

-- its settings, and whether it has an input
pub record SameMake (b d : Block) : Type 0 where
  pub settings : d.settings ≡ b.settings
  pub has_input : is_some d.input ≡ is_some b.input

module _ {S : Type 0} (e : EndModel S) where
  pub record Ready (s : S) : Type 0 where
    pub targets : (k : ℕ) → k < e.size s → (e.block s k).target ≡ Cas
    pub off : (k : ℕ) → k < e.size s → (e.block s k).switch ≡ false
    pub live : (k : ℕ) → k < e.size s → usable (e.block s k) ≡ true

  abbrev pub AllCas : S → Type 0
  AllCas s = (k : ℕ) → k < e.size s → (e.block s k).actual ≡ Cas

  abbrev pub invited : S → ℕ
  invited s = cond (same_code (shown_status (e.block s 0)) 0xC8) 0xC4 0xC0

  -- what is fixed by the making
  pub record SameBuild (s t : S) : Type 0 where
    pub size : e.size t ≡ e.size s
    pub settling : e.settling t ≡ e.settling s
    pub blocks : (k : ℕ) → k < e.size s → SameMake (e.block s k) (e.block t k)

  pub record Meaning : Type 0 where
    -- whatever came since its making; and something is kept, so that what follows says something
    pub some_kept : S → (s : S) × e.kept s
    pub kept_asked : (s : S) (k : ℕ) (a : Ask) → e.kept s → e.kept (e.asked s k a)
    pub kept_rounded : (s : S) (c : Signal) → e.kept s → e.kept (e.rounded s c)
    pub fixed_asked : (s : S) (k : ℕ) (a : Ask) → e.kept s → SameBuild s (e.asked s k a)
    pub fixed_rounded : (s : S) (c : Signal) → e.kept s → SameBuild s (e.rounded s c)
    pub settling_range : (s : S) → e.kept s → (1 ≤ e.settling s) × (e.settling s ≤ 1000 * e.size s)
    -- it shows its first block's setpoint and status
    pub shows : (s : S) → e.kept s → e.shown s ≡ shown_signal (e.block s 0)
    -- a reading answers what the block is read as
    pub reads : (s : S) (k : ℕ) → e.kept s → k < e.size s → e.reading s k ≡ Ok (reading_of (e.block s k))
    pub reads_none : (s : S) (k : ℕ) → e.kept s → e.size s ≤ k → e.reading s k ≡ Err NoSuchBlock
    -- a call is accepted or refused by the block's own rules, changes that block alone, and where refused nothing at all
    pub answers : (s : S) (k : ℕ) (a : Ask) → e.kept s → k < e.size s → e.answer s k a ≡ answer_of (e.block s k) a
    pub changes : (s : S) (k : ℕ) (a : Ask) → e.kept s → k < e.size s → e.block (e.asked s k a) k ≡ after_ask (e.block s k) a
    pub leaves_others : (s : S) (k j : ℕ) (a : Ask) → e.kept s → j < e.size s → j ≢ k → e.block (e.asked s k a) j ≡ e.block s j
    pub refused_leaves : (s : S) (k : ℕ) (a : Ask) (r : Refusal) → e.kept s → e.answer s k a ≡ Err r → e.asked s k a ≡ s
    -- an accepted call changes nothing else that the end keeps: a second that puts the block back puts the end back
    pub restores : (s : S) (k : ℕ) (a b : Ask) → e.kept s → k < e.size s
        → after_ask (after_ask (e.block s k) a) b ≡ e.block s k → e.asked (e.asked s k a) k b ≡ s
    pub no_such_block : (s : S) (k : ℕ) (a : Ask) → e.kept s → e.size s ≤ k → e.answer s k a ≡ Err NoSuchBlock
    -- targets, switches and inputs come out of a round as they went in
    pub round_leaves : (s : S) (c : Signal) (k : ℕ) → e.kept s → k < e.size s → Untouched (e.block s k) (e.block (e.rounded s c) k)
    -- modes: O/S on its target; Cas only on its target, and only by way of a request that was acknowledged
    pub out_of_service : (s : S) (c : Signal) (k : ℕ) → e.kept s → k < e.size s
        → (e.block s k).target ≡ OutOfService → (e.block (e.rounded s c) k).actual ≡ OutOfService
    pub cas_on_target : (s : S) (c : Signal) (k : ℕ) → e.kept s → k < e.size s
        → (e.block (e.rounded s c) k).actual ≡ Cas → (e.block s k).target ≡ Cas
    pub into_cas : (s : S) (c : Signal) (k : ℕ) → e.kept s → k < e.size s
        → (e.block s k).actual ≢ Cas → (e.block (e.rounded s c) k).actual ≡ Cas
        → (same_code (shown_status (e.block s k)) 0xC8 ≡ true) × (k ≡ 0 → same_code c.status.0 0xC4 ≡ true)
    -- LO that comes with the switch on shows it
    pub lo_by_switch : (s : S) (c : Signal) (k : ℕ) → e.kept s → k < e.size s
        → (e.block (e.rounded s c) k).actual ≡ Lo → (e.block s k).switch ≡ true → (e.block (e.rounded s c) k).cause ≡ Switch
    -- a block that comes into Cas keeps its setpoint: the first on a value equal to it, an inner one always
    pub first_keeps_sp : (s : S) (c : Signal) → e.kept s
        → (e.block s 0).actual ≢ Cas → (e.block (e.rounded s c) 0).actual ≡ Cas
        → c.value ≡ (e.block s 0).at.sp → (e.block (e.rounded s c) 0).at.sp ≡ (e.block s 0).at.sp
    pub inner_keeps_sp : (s : S) (c : Signal) (k : ℕ) → e.kept s → 0 < k → k < e.size s
        → (e.block s k).actual ≢ Cas → (e.block (e.rounded s c) k).actual ≡ Cas
        → (e.block (e.rounded s c) k).at.sp ≡ (e.block s k).at.sp
    -- a control block: a usable input becomes the process value, and from IMan to Auto with nothing to correct OUT is kept
    pub takes_pv : (s : S) (c : Signal) (k : ℕ) (i : Signal) → e.kept s → k < e.size s → (e.block s k).input ≡ Some i
        → (e.block (e.rounded s c) k).at.pv ≡ cond (usable (e.block s k)) i.value (e.block s k).at.pv
    pub keeps_out : (s : S) (c : Signal) (k : ℕ) (i : Signal) → e.kept s → k < e.size s → (e.block s k).input ≡ Some i
        → (e.block s k).actual ≡ IMan → (e.block (e.rounded s c) k).actual ≡ Auto
        → (e.block s k).at.sp ≡ (e.block s k).at.pv
        → (e.block (e.rounded s c) k).at.sp ≡ (e.block s k).at.sp → (e.block (e.rounded s c) k).at.pv ≡ (e.block s k).at.pv
        → (e.block (e.rounded s c) k).at.out ≡ pulled (e.block s k).settings.out_limits (e.block s k).at.out
    -- the distance: at most N, 0 exactly when all are in Cas, and nearer in every round that invites
    pub near : (s : S) → e.kept s → e.distance s ≤ e.settling s
    pub there : (s : S) → e.kept s → e.distance s ≡ 0 → AllCas s
    pub only_there : (s : S) → e.kept s → AllCas s → e.distance s ≡ 0
    pub falls : (s : S) (c : Signal) → e.kept s → Ready s → c.status.0 ≡ invited s
        → (e.distance (e.rounded s c) < e.distance s) ⊎ ((e.distance s ≡ 0) × (e.distance (e.rounded s c) ≡ 0))
    pub stays : (s : S) (k : ℕ) (a : Ask) → e.kept s
        → (k < e.size s → (e.block (e.asked s k a) k).target ≡ (e.block s k).target) → e.distance (e.asked s k a) ≡ e.distance s
