-- An end of one block owes no more than its own facts. Assumes nothing.
use Rattle.std.proofs.Common.{◌≡◌, ℕ, zero, suc, ◌<◌, ◌≤◌, ◌≢◌, is_some, Err, sym, refl, ap, ◌∙◌, arith}
use Rattle.std.proofs.lemmas.Option.{none-some}
use Rattle.block.specs.Asks.{standing, same_make, refused_same}
use Rattle.block.specs.Alone.{Own, AloneFacts, alone_model}
use Rattle.block.specs.Calls.{after_ask}
use Rattle.block.specs.Meaning.{Meaning, SameBuild}
use Rattle.block.specs.declared.kinds.Ask.{Ask}
use Rattle.block.specs.declared.kinds.Refusal.{Refusal}

module _ {S : Type 0} (o : Own S) (f : AloneFacts o) where
  kept_asked : (s : S) (k : ℕ) (a : Ask) → o.kept s → o.kept ((alone_model o).asked s k a)
  kept_asked s zero a h = f.kept_asked s a h
  kept_asked s (suc k) a h = rw (f.same s) h

  fixed_asked : (s : S) (k : ℕ) (a : Ask) → SameBuild (alone_model o) s ((alone_model o).asked s k a)
  fixed_asked s zero a =
      record { size = refl; settling = refl; blocks = λ _ _. rw (f.put s (after_ask (o.the_block s) a)) (same_make (o.the_block s) a) }
  fixed_asked s (suc k) a = record { size = refl; settling = refl; blocks = λ _ _. rw (f.same s) (record { settings = refl; has_input = refl }) }

  refused_leaves : (s : S) (k : ℕ) (a : Ask) (r : Refusal) → (alone_model o).answer s k a ≡ Err r → (alone_model o).asked s k a ≡ s
  refused_leaves s zero a r e = rw (refused_same (o.the_block s) a r e) (f.same s)
  refused_leaves s (suc k) a r e = f.same s

  restores : (s : S) (k : ℕ) (a b : Ask) → k < 1 → after_ask (after_ask (o.the_block s) a) b ≡ o.the_block s
      → (alone_model o).asked ((alone_model o).asked s k a) k b ≡ s
  restores s zero a b l q =
      ap (λ x. o.with_block (o.with_block s (after_ask (o.the_block s) a)) x) (ap (λ x. after_ask x b) (f.put s (after_ask (o.the_block s) a)) ∙ q)
      ∙ f.over s (after_ask (o.the_block s) a) (o.the_block s) ∙ f.same s
  restores s (suc k) a b l q = absurd (omega arith)

  stays : (s : S) (k : ℕ) (a : Ask) → (alone_model o).distance ((alone_model o).asked s k a) ≡ (alone_model o).distance s
  stays s zero a =
      rw (f.put s (after_ask (o.the_block s) a), (standing (o.the_block s) a).actual, (standing (o.the_block s) a).hides) refl
  stays s (suc k) a = rw (f.same s) refl

  changes : (s : S) (k : ℕ) (a : Ask) → k < 1 → o.the_block ((alone_model o).asked s k a) ≡ after_ask (o.the_block s) a
  changes s zero a l = f.put s (after_ask (o.the_block s) a)
  changes s (suc k) a l = absurd (omega arith)

  answers : (s : S) (k : ℕ) (a : Ask) → k < 1 → (alone_model o).answer s k a ≡ (alone_model o).answer s 0 a
  answers s zero a l = refl
  answers s (suc k) a l = absurd (omega arith)

  reads : (s : S) (k : ℕ) → k < 1 → (alone_model o).reading s k ≡ (alone_model o).reading s 0
  reads s zero l = refl
  reads s (suc k) l = absurd (omega arith)

  reads_none : (s : S) (k : ℕ) → 1 ≤ k → (alone_model o).reading s k ≡ (alone_model o).reading s 1
  reads_none s zero l = absurd (omega arith)
  reads_none s (suc k) l = refl

  others : (s : S) (k j : ℕ) (a : Ask) → j < 1 → j ≢ k → o.the_block ((alone_model o).asked s k a) ≡ o.the_block s
  others s zero j a l n = absurd (n (omega arith))
  others s (suc k) j a l n = f.put s (o.the_block s)

  no_such_block : (s : S) (k : ℕ) (a : Ask) → 1 ≤ k → (alone_model o).answer s k a ≡ (alone_model o).answer s 1 a
  no_such_block s zero a l = absurd (omega arith)
  no_such_block s (suc k) a l = refl

  pub alone_meaning : Meaning (alone_model o)
  alone_meaning = record {
    some_kept = f.some_kept;
    kept_asked = kept_asked;
    kept_rounded = f.kept_rounded;
    fixed_asked = λ s k a _. fixed_asked s k a;
    fixed_rounded = λ s c h. record { size = refl; settling = refl; blocks = λ _ _. let r = f.round s c h in record { settings = r.settings; has_input = ap is_some r.leaves.input } };
    settling_range = λ s _. (f.number_range.0, f.number_range.1);
    shows = λ s _. refl;
    reads = λ s k _ l. reads s k l;
    reads_none = λ s k _ l. reads_none s k l;
    answers = λ s k a _ l. answers s k a l;
    changes = λ s k a _ l. changes s k a l;
    leaves_others = λ s k j a _ l n. others s k j a l n;
    refused_leaves = λ s k a r _ e. refused_leaves s k a r e;
    restores = λ s k a b _ l q. restores s k a b l q;
    no_such_block = λ s k a _ l. no_such_block s k a l;
    round_leaves = λ s c k h _. (f.round s c h).leaves;
    out_of_service = λ s c k h _. (f.round s c h).out_of_service;
    cas_on_target = λ s c k h _. (f.round s c h).cas_on_target;
    into_cas = λ s c k h _ n e. let r = (f.round s c h).into_cas n e in (r.0, λ _. r.1);
    lo_by_switch = λ s c k h _. (f.round s c h).lo_by_switch;
    first_keeps_sp = λ s c h. (f.round s c h).keeps_sp;
    inner_keeps_sp = λ s c k h p l n e. absurd (omega arith);
    takes_pv = λ s c k i h _ t. absurd (none-some i (sym (f.no_input s h) ∙ t));
    keeps_out = λ s c k i h _ t _ _ _ _ _. absurd (none-some i (sym (f.no_input s h) ∙ t));
    near = λ s _. f.near _ _;
    there = λ s _ e k _. f.there _ _ e;
    only_there = λ s _ all. rw (all 0 (omega arith)) (f.only_there _);
    falls = λ s c h ready e. f.falls s c h (ready.targets 0 (omega arith)) (ready.off 0 (omega arith)) e;
    stays = λ s k a _ _. stays s k a;
  }
