-- Texts written one behind the other. Assumes nothing.
use Rattle.std.proofs.Common.{◌≡◌, ℕ, false, List, [], ◌++◌, length, is_ok, Ok, Result, Vec, vec_items, sym, ap, subst, ◌∙◌, append_assoc, append-nil, arith, refl}
use Rattle.std.proofs.lemmas.List.{length-append}
use Rattle.std.proofs.lemmas.Bool.{both_ways}
use Rattle.std.specs.declared.alloc.AllocError.{AllocError}
use Rattle.line.specs.Wrote.{Wrote}

none : {Z : Type 0} (p : Vec ℕ Z) → Wrote {X = Unit {0}} {E = AllocError} p p (Ok tt) []
none p = record { added = λ _. sym (append-nil (vec_items p)); kept = ([], sym (append-nil (vec_items p))); roomy = λ _. refl; grows = omega arith }

module _ {Z : Type 0} (p q r : Vec ℕ Z) (s : Result (Unit {0}) AllocError) (a b : List ℕ) where
  behind : Wrote {X = Unit {0}} {E = AllocError} p q (Ok tt) a → Wrote q r s b → Wrote p r s (a ++ b)
  behind f g =
      let e = f.added refl in
      let here = ap (λ t. t ++ b) e ∙ append_assoc (vec_items p) a b in
      record {
        added = λ h. g.added h ∙ here;
        kept = (a ++ g.kept.0, g.kept.1 ∙ ap (λ t. t ++ g.kept.0) e ∙ append_assoc (vec_items p) a g.kept.0);
        roomy = λ h. (let l = length-append a b in let n = ap length e ∙ length-append (vec_items p) a in g.roomy (omega (arith, p.ok.0, q.ok.0, f.grows)));
        grows = omega (arith, f.grows, g.grows);
      }

  -- a text whose first part found no memory
  stopped : is_ok s ≡ false → Wrote p r s a → Wrote p r s (a ++ b)
  stopped h f =
      record {
        added = λ k. absurd (both_ways _ h k);
        kept = f.kept;
        roomy = λ k. f.roomy (omega (arith, length-append a b));
        grows = f.grows;
      }

-- who writes what is left behind q has written the whole behind p
abbrev pub Part : {Z : Type 0} → Vec ℕ Z → Vec ℕ Z → List ℕ → List ℕ → Type 0
Part {Z} p q left whole = (r : Vec ℕ Z) (s : Result (Unit {0}) AllocError) → Wrote q r s left → Wrote p r s whole

module _ {Z : Type 0} (p q r : Vec ℕ Z) (left more whole : List ℕ) where
  pub part_none : left ≡ whole → Part p p left whole
  part_none e r s w = subst (Wrote p r s) e w

  pub part_more : (text : List ℕ) → left ≡ text ++ more → Part p q left whole → Wrote {X = Unit {0}} {E = AllocError} q r (Ok tt) text → Part p r more whole
  part_more text e k f v s w = k v s (subst (Wrote q v s) (sym e) (behind q r v s text more f w))

  pub part_stop : (text : List ℕ) (s : Result (Unit {0}) AllocError) → left ≡ text ++ more → Part p q left whole → is_ok s ≡ false → Wrote q r s text → Wrote p r s whole
  part_stop text s e k h f = k r s (subst (Wrote q r s) (sym e) (stopped q r r s text more h f))

  pub part_all : left ≡ [] → Part p q left whole → Wrote {X = Unit {0}} {E = AllocError} p q (Ok tt) whole
  part_all e k = k q (Ok tt) (subst (Wrote q q (Ok tt)) (sym e) (none q))
