-- Numbers from 1 to 1,000. Assumes nothing.
--     GoodTime z     z lies from 1 to 1,000, as a fault time or a travel
use Rattle.std.specs.Prelude.{ℤ, pos, ◌≤ℤ◌}

abbrev pub GoodTime : ℤ → Type 0
GoodTime z = (pos 1 ≤ℤ z) × (z ≤ℤ pos 1000)
