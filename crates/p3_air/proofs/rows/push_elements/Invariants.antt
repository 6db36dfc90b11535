use Rattle.std.proofs.Common.{◌≡◌, ◌≤◌, ◌+◌, ◌++◌, map, take, length, vec_capacity}
use Rattle.air_field.specs.Ring.{image}
use Rattle.p3_air.proofs.rows.push_elements.Given as goal

-- the elements of the numbers so far, and room for the others
abbrev pub invariant-loop-n : goal.invariant-loop-n
invariant-loop-n g l =
    (l.cells.items ≡ l.fn.cells.items ++ map (image g.F.Field.ring) (take l.n-index l.row))
    × (length l.cells.items ≡ length l.fn.cells.items + l.n-index)
    × (length l.fn.cells.items + length l.row ≤ vec_capacity l.cells)
