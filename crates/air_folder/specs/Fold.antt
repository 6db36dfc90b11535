-- Horner's fold, continued from an accumulator.
use Rattle.std.specs.Prelude.{List, [], ◌∷◌, length}
use Rattle.air_field.specs.Ring.{CommRing}
use Rattle.air_field.specs.Powers.{power}
use Rattle.air_recording.specs.Folds.{sum_by_powers}

-- the accumulator times alpha^k, plus Horner's fold of the k values
abbrev pub folded_on : {E : Type 0} → CommRing E → E → E → List E → E
folded_on r alpha acc values = r.add (r.mul acc (power r alpha (length values))) (sum_by_powers r alpha values)

-- the same fold, computed one value at a time
abbrev pub fold_from : {E : Type 0} → CommRing E → E → E → List E → E
fold_from r alpha acc [] = acc
fold_from r alpha acc (v ∷ values) = fold_from r alpha (r.add (r.mul acc alpha) v) values
