use Rattle.std.proofs.Common.{◌≡◌, ◌≤◌, ◌-◌, ◌++◌, ◌∷◌, length, take}
use Rattle.air_gadgets.specs.Bits.{digits_of}
use Rattle.air_audit.proofs.cells.with_bits.Given as goal

-- so many cells are the number and its bits, and the others will be those of what is left
abbrev pub invariant-loop-i : goal.invariant-loop-i
invariant-loop-i g l =
    (1 ≤ l.i) × (length l.cells ≡ g.row.N) × (l.fn.number ∷ digits_of 2 (g.row.N - 1) l.fn.number ≡ take l.i l.cells ++ digits_of 2 (g.row.N - l.i) l.left)
