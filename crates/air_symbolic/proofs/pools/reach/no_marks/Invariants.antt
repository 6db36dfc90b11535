use Rattle.std.proofs.Common.{◌≡◌, ℕ, length, get_or, None}
use Rattle.air_symbolic.proofs.pools.reach.no_marks.Given as goal

abbrev pub invariant-loop-place : goal.invariant-loop-place
invariant-loop-place g l = record {
  places : length l.marks.items ≡ l._place;
  none : (i : ℕ) → get_or l.marks.items i None ≡ None;
}
