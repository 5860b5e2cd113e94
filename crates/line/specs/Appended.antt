-- A text written behind what a buffer holds. Assumes nothing.
--     Appended v w r text     from v to w: text was added, or memory was wanting and nothing changed
use Rattle.std.specs.Prelude.{◌≡◌, ℕ, ◌+◌, ◌≤◌, true, cond, List, ◌++◌, length, is_ok, vec_items, vec_len, vec_capacity, Result, Vec}

pub record Appended {X Z E : Type 0} (v w : Vec ℕ Z) (r : Result X E) (text : List ℕ) : Type 0 where
  pub items : vec_items w ≡ cond (is_ok r) (vec_items v ++ text) (vec_items v)
  -- memory is never wanting where the buffer has room
  pub roomy : vec_len v + length text ≤ vec_capacity v → is_ok r ≡ true
  pub grows : vec_capacity v ≤ vec_capacity w
