-- An end of one block: its model from what is its own, and the facts that it still owes. Assumes nothing.
--     alone_model o     the model of an end of one block
--     AloneFacts o      what such an end has to show; all else that an end owes follows
--     RoundOwes b c d   what its round owes of its block b, on the signal c, where d is the block afterwards
--     pick x f k        the first at number 0, and what stands below it at every other
use Rattle.std.specs.Prelude.{◌≡◌, ℕ, zero, suc, ◌<◌, ◌≤◌, Bool, true, false, cond, ◌≢◌, ◌⊎◌, None, Ok, Err, Result}
use Rattle.signal.specs.Status.{same_code}
use Rattle.signal.specs.declared.mode.LoCause.TheVariants.{Switch}
use Rattle.signal.specs.declared.mode.Mode.{Mode}
use Rattle.signal.specs.declared.mode.Mode.TheVariants.{OutOfService, Lo, Cas}
use Rattle.signal.specs.declared.status.Signal.{Signal}
use Rattle.block.specs.Calls.{answer_of, after_ask}
use Rattle.block.specs.Meaning.{EndModel, Untouched}
use Rattle.block.specs.Shown.{reading_of, shown_status, shown_signal}
use Rattle.block.specs.declared.kinds.Ask.{Ask}
use Rattle.block.specs.declared.kinds.Block.{Block}
use Rattle.block.specs.declared.kinds.Reading.{Reading}
use Rattle.block.specs.declared.kinds.Refusal.{Refusal}
use Rattle.block.specs.declared.kinds.Refusal.TheVariants.{NoSuchBlock}

abbrev pub pick : {A : Type 0} → A → (ℕ → A) → ℕ → A
pick x f zero = x
pick x f (suc k) = f k

abbrev pub alone_answer : Block → ℕ → Ask → Result (Unit {0}) Refusal
alone_answer b k a = pick (answer_of b a) (λ _. Err NoSuchBlock) k

abbrev pub alone_asked : Block → ℕ → Ask → Block
alone_asked b k a = pick (after_ask b a) (λ _. b) k

abbrev pub alone_read : Block → ℕ → Result Reading Refusal
alone_read b k = pick (Ok (reading_of b)) (λ _. Err NoSuchBlock) k

-- an end's own: its block, the end with another block in its place, N, the distance by actual mode and by whether the
-- request is hidden, its round, and what it keeps
pub record Own (S : Type 0) : Type 1 where
  pub the_block : S → Block
  pub with_block : S → Block → S
  pub number : ℕ
  pub away : Mode → Bool → ℕ
  pub rounded : S → Signal → S
  pub kept : S → Type 0

-- what a round on the signal c owes of the block b, which it leaves as d
pub record RoundOwes (b : Block) (c : Signal) (d : Block) : Type 0 where
  pub settings : d.settings ≡ b.settings
  pub leaves : Untouched b d
  pub out_of_service : b.target ≡ OutOfService → d.actual ≡ OutOfService
  pub cas_on_target : d.actual ≡ Cas → b.target ≡ Cas
  pub into_cas : b.actual ≢ Cas → d.actual ≡ Cas → (same_code (shown_status b) 0xC8 ≡ true) × (same_code c.status.0 0xC4 ≡ true)
  pub lo_by_switch : d.actual ≡ Lo → b.switch ≡ true → d.cause ≡ Switch
  pub keeps_sp : b.actual ≢ Cas → d.actual ≡ Cas → c.value ≡ b.at.sp → d.at.sp ≡ b.at.sp

module _ {S : Type 0} (o : Own S) where
  abbrev pub alone_model : EndModel S
  alone_model = record {
    size = λ s. 1;
    settling = λ s. o.number;
    distance = λ s. o.away (o.the_block s).actual (o.the_block s).hides_request;
    block = λ s k. o.the_block s;
    shown = λ s. shown_signal (o.the_block s);
    reading = λ s k. alone_read (o.the_block s) k;
    answer = λ s k a. alone_answer (o.the_block s) k a;
    asked = λ s k a. o.with_block s (alone_asked (o.the_block s) k a);
    rounded = o.rounded;
    kept = o.kept;
  }

  pub record AloneFacts : Type 0 where
    pub some_kept : S → (s : S) × o.kept s
    pub put : (s : S) (b : Block) → o.the_block (o.with_block s b) ≡ b
    pub same : (s : S) → o.with_block s (o.the_block s) ≡ s
    pub over : (s : S) (b d : Block) → o.with_block (o.with_block s b) d ≡ o.with_block s d
    pub kept_asked : (s : S) (a : Ask) → o.kept s → o.kept (o.with_block s (after_ask (o.the_block s) a))
    pub kept_rounded : (s : S) (c : Signal) → o.kept s → o.kept (o.rounded s c)
    pub no_input : (s : S) → o.kept s → (o.the_block s).input ≡ None
    pub round : (s : S) (c : Signal) → o.kept s → RoundOwes (o.the_block s) c (o.the_block (o.rounded s c))
    pub number_range : (1 ≤ o.number) × (o.number ≤ 1000)
    pub near : (m : Mode) (hides : Bool) → o.away m hides ≤ o.number
    pub there : (m : Mode) (hides : Bool) → o.away m hides ≡ 0 → m ≡ Cas
    pub only_there : (hides : Bool) → o.away Cas hides ≡ 0
    pub falls : (s : S) (c : Signal) → o.kept s
        → (o.the_block s).target ≡ Cas → (o.the_block s).switch ≡ false
        → c.status.0 ≡ cond (same_code (shown_status (o.the_block s)) 0xC8) 0xC4 0xC0
        → (alone_model.distance (o.rounded s c) < alone_model.distance s) ⊎ ((alone_model.distance s ≡ 0) × (alone_model.distance (o.rounded s c) ≡ 0))
