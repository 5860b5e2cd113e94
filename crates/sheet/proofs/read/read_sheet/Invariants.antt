use Rattle.std.proofs.Common.{◌-◌, ◌≤◌, length, vec_items, vec_capacity}
use Rattle.sheet.proofs.Sofar.{Sofar}
use Rattle.sheet.proofs.read.read_sheet.Given as goal

abbrev pub invariant-loop-place : goal.invariant-loop-place
invariant-loop-place l = Sofar l.bytes (vec_items l.initial.records) (vec_items l.records) l.place × (vec_capacity l.initial.records ≤ vec_capacity l.records)

abbrev pub decreases-loop-place : goal.decreases-loop-place
decreases-loop-place l = length l.bytes - l.place
