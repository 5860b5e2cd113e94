-- A target's byte and the mode that it asks for, as a relation. Assumes nothing.
use Rattle.std.proofs.Common.{◌≡◌, ℕ, true, Some, None, Ok, Err, Result, ◌≢◌, refl, arith, MatchResult}
use Rattle.std.proofs.lemmas.Bool.Decides.{nat_tests}
use Rattle.signal.specs.Mode.{mode_byte, may_target, TargetFrom, target_of}
use Rattle.signal.specs.declared.mode.Mode.{Mode}
use Rattle.signal.specs.declared.mode.Mode.TheVariants.{OutOfService, IMan, Lo, Man, Auto, Cas}
use Rattle.signal.specs.declared.mode.TargetFault.{TargetFault}
use Rattle.signal.specs.declared.mode.TargetFault.TheVariants.{NotATarget}

target_is : (b : ℕ) (m : Mode) → target_of b ≡ Some m → (may_target m ≡ true) × (b ≡ mode_byte m)
target_is b OutOfService e = grind (arith, nat_tests)
target_is b IMan e = grind (arith, nat_tests)
target_is b Lo e = grind (arith, nat_tests)
target_is b Man e = grind (arith, nat_tests)
target_is b Auto e = grind (arith, nat_tests)
target_is b Cas e = grind (arith, nat_tests)

no_target : (b : ℕ) → target_of b ≡ None → (m : Mode) → may_target m ≡ true → b ≢ mode_byte m
no_target b e OutOfService t h = grind (arith, nat_tests)
no_target b e IMan t h = cc
no_target b e Lo t h = cc
no_target b e Man t h = grind (arith, nat_tests)
no_target b e Auto t h = grind (arith, nat_tests)
no_target b e Cas t h = grind (arith, nat_tests)

pub target_from : (b : ℕ) (r : Result Mode TargetFault) → MatchResult r (λ m. target_of b ≡ Some m) (λ _. target_of b ≡ None) → TargetFrom b r
target_from b (Ok m) e = target_is b m e
target_from b (Err NotATarget) e = (refl, no_target b e)
