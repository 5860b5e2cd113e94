-- A text written behind what a buffer holds, one part after the other. Assumes nothing.
--     Wrote v w r text     from v to w: text was added, or memory was wanting and only a part of it was
use Rattle.std.specs.Prelude.{◌≡◌, ℕ, ◌+◌, ◌≤◌, true, List, ◌++◌, length, is_ok, vec_items, vec_len, vec_capacity, Result, Vec}

pub record Wrote {X Z E : Type 0} (v w : Vec ℕ Z) (r : Result X E) (text : List ℕ) : Type 0 where
  pub added : is_ok r ≡ true → vec_items w ≡ vec_items v ++ text
  -- what was there stays there in every case
  pub kept : (part : List ℕ) × (vec_items w ≡ vec_items v ++ part)
  -- memory is never wanting where the buffer has room
  pub roomy : vec_len v + length text ≤ vec_capacity v → is_ok r ≡ true
  pub grows : vec_capacity v ≤ vec_capacity w
