use Rattle.std.proofs.Common.{◌≡◌, ℕ, ◌||◌, take}
use Rattle.air_print.specs.Reading.{is_in}
use Rattle.air_print.proofs.reading.insert_all.Given as goal

-- the expressions so far were added
abbrev pub invariant-loop-id : goal.invariant-loop-id
invariant-loop-id g l = (i : ℕ) → is_in l.set.keys i ≡ is_in l.initial.set.keys i || is_in (take l.id-index l.ids) i
