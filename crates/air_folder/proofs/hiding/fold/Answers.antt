use Rattle.std.proofs.Common.{◌≡◌, ◌≤◌, ℕ, List, length, drop, sym, ap, ◌∙◌}
use Rattle.std.proofs.lemmas.List.{drop_all}
use Rattle.air_field.specs.Ring.{CommRing}
use Rattle.air_recording.specs.Folds.{sum_by_powers}
use Rattle.air_folder.specs.Fold.{fold_from}
use Rattle.air_folder.specs.laws.Fold.{running-is, folded_on-nil}
use Rattle.air_folder.proofs.hiding.fold.Goals as goal

-- the fold when no value is left
ran : {A : Type 0} (r : CommRing A) (alpha : A) (values : List A) (folded : A) (n : ℕ) → length values ≤ n → fold_from r alpha folded (drop n values) ≡ fold_from r alpha r.zero values → folded ≡ sum_by_powers r alpha values
ran r alpha values folded n ended so_far =
    ap (fold_from r alpha folded) (sym (drop_all n values ended)) ∙ (so_far ∙ (running-is r alpha r.zero values ∙ folded_on-nil r alpha values))

pub returns : goal.returns
returns g c = ran g.EF.ExtensionField.over.ring c.args.alpha c.args.values.now c.loop-value.accumulator c.loop-value.value-index c.loop-value-test.false c.loop-value.invariant
