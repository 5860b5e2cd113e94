-- Values, in thousandths of a percent of span: which numbers are one, and which value is nearest to a number. Assumes nothing.
--     WithinRange z     z lies in the range of values, -1,000,000 to 1,000,000
--     ValueFrom z r     z is taken as it is, or refused since it is out of range
--     in_range z        the number in the range that is nearest to z
--     value_near z      the value of that number
use Rattle.std.specs.Prelude.{◌≡◌, ℕ, ℤ, pos, negsuc, ◌≤ℤ◌, Ok, Err, Result, int_lt}
use Rattle.std.proofs.Common.{arith}
use Rattle.std.proofs.lemmas.Int.{ints}
use Rattle.std.proofs.lemmas.Bool.{cond_both}
use Rattle.signal.specs.Nearest.{nearest_to}
use Rattle.signal.specs.declared.kinds.Value.{Value}
use Rattle.signal.specs.declared.value.ValueFault.{ValueFault}
use Rattle.signal.specs.declared.value.ValueFault.TheVariants.{OutOfRange}

abbrev pub WithinRange : ℤ → Type 0
WithinRange z = (negsuc 999999 ≤ℤ z) × (z ≤ℤ pos 1000000)

abbrev pub value_fault_number : ValueFault → ℕ
value_fault_number OutOfRange = 2

abbrev pub ValueFrom : ℤ → Result Value ValueFault → Type 0
ValueFrom z (Ok v) = (v.raw ≡ z) × WithinRange z
ValueFrom z (Err e) = (value_fault_number e ≡ 2) × (WithinRange z → ⊥)

abbrev pub in_range : ℤ → ℤ
in_range z = nearest_to (negsuc 999999) (pos 1000000) z

-- a value carries the fact that its number is in the range
pub in_range_within : (z : ℤ) → WithinRange (in_range z)
in_range_within z =
    cond_both (int_lt z (negsuc 999999)) _ _ WithinRange (λ _. (omega (arith, ints), omega (arith, ints)))
    (λ low. cond_both (int_lt (pos 1000000) z) _ _ WithinRange (λ _. (omega (arith, ints), omega (arith, ints)))
    (λ high. (omega (arith, ints), omega (arith, ints))))

abbrev pub value_near : ℤ → Value
value_near z = record { raw = in_range z; low = (in_range_within z).0; high = (in_range_within z).1 }
