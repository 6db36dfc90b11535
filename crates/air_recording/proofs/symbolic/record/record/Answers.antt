use Rattle.std.specs.List.{AllZip}
use Rattle.std.proofs.Common.{◌≡◌, ◌++◌, inr, ⊎_elim, map, sym, subst, ◌∙◌, ap}
use Rattle.std.proofs.lemmas.Result.{err_from_is_err_and}
use Rattle.air_field.specs.Ring.{self_algebra, self_algebra_laws}
use Rattle.air_field.specs.Assignment.{IsMissing}
use Rattle.air_field.specs.Degree.{cached_weight}
use Rattle.air_symbolic.specs.BaseLeaves.{base_reads}
use Rattle.air_symbolic.specs.ExtLeaves.{ext_reads}
use Rattle.air_symbolic.specs.Pools.{PoolMeans}
use Rattle.air_core.specs.declared.errors.AirError.{AirError}
use Rattle.air_core.specs.declared.errors.AirError.TheVariants.{Memory}
use Rattle.air_builder.specs.Refusals.{NoneMissing}
use Rattle.air_builder.specs.Refused.{Refused}
use Rattle.air_recording.specs.Kinds.{kind_of, base_terms, ext_terms}
use Rattle.air_recording.specs.Layouts.{layout_shape}
use Rattle.air_recording.specs.declared.layouts.air_layout.AirLayout.{AirLayout}
use Rattle.air_recording.specs.Recorded.{terms_of}
use Rattle.air_recording.specs.Recording.{OverflowsDegree}
use Rattle.air_recording.proofs.InferredDegrees.{greatest_in_range, both_in_range}
use Rattle.air_recording.proofs.Recordings.{each_records, numbers_here}
use Rattle.air_recording.proofs.symbolic.record.record.Goals as goal

pub returns-clause-base : goal.returns-clause-base
returns-clause-base g c =
    let r = g.F.Field.ring in
    let ts = (g.A.BaseAir.declaration c.args.air.now).constraints in
    let grew = c.in_ok-eval.ensures.evaluated.asserted.ok in
    let pool = c.eval.new.builder.pool in
    let numbers = c.eval.new.builder.constraints.base.items in
    let all : numbers ≡ grew.more_base = grew.base ∙ ap (λ l. l.base ++ grew.more_base) c.in_ok-builder.ensures.none in
    let means : AllZip (PoolMeans base_reads r pool.base) numbers (base_terms ts) = subst (λ l. AllZip (PoolMeans base_reads r pool.base) l (base_terms ts)) (sym all) grew.each_base in
    record {
      well_formed = (grew.keeps.pool.pool c.in_ok-builder.ensures.ready.pool).base;
      means = means;
      terms = each_records r base_reads pool.base (self_algebra r) (self_algebra_laws r) numbers (base_terms ts) means;
      in_extension = each_records r base_reads pool.base g.EF.ExtensionField.over g.met.EF.ExtensionField.over_laws numbers (base_terms ts) means;
    }

pub returns-clause-ext : goal.returns-clause-ext
returns-clause-ext g c =
    let r = g.F.Field.ring in
    let reads = ext_reads g.EF.ExtensionField.basis in
    let ts = (g.A.BaseAir.declaration c.args.air.now).constraints in
    let grew = c.in_ok-eval.ensures.evaluated.asserted.ok in
    let pool = c.eval.new.builder.pool in
    let numbers = c.eval.new.builder.constraints.ext.items in
    let all : numbers ≡ grew.more_ext = grew.ext ∙ ap (λ l. l.ext ++ grew.more_ext) c.in_ok-builder.ensures.none in
    let means : AllZip (PoolMeans reads r pool) numbers (ext_terms ts) = subst (λ l. AllZip (PoolMeans reads r pool) l (ext_terms ts)) (sym all) grew.each_ext in
    record {
      well_formed = grew.keeps.pool.pool c.in_ok-builder.ensures.ready.pool;
      means = means;
      terms = each_records r reads pool g.EF.ExtensionField.over g.met.EF.ExtensionField.over_laws numbers (ext_terms ts) means;
    }

pub returns-clause-base_here : goal.returns-clause-base_here
returns-clause-base_here g c =
    let r = g.F.Field.ring in
    let ts = base_terms (g.A.BaseAir.declaration c.args.air.now).constraints in
    let grew = c.in_ok-eval.ensures.evaluated.asserted.ok in
    let pool = c.eval.new.builder.pool.base in
    let all : c.eval.new.builder.constraints.base.items ≡ grew.more_base = grew.base ∙ ap (λ l. l.base ++ grew.more_base) c.in_ok-builder.ensures.none in
    numbers_here r base_reads pool c.eval.new.builder.constraints.base.items ts (subst (λ l. AllZip (PoolMeans base_reads r pool) l ts) (sym all) grew.each_base)

pub returns-clause-ext_here : goal.returns-clause-ext_here
returns-clause-ext_here g c =
    let r = g.F.Field.ring in
    let reads = ext_reads g.EF.ExtensionField.basis in
    let ts = ext_terms (g.A.BaseAir.declaration c.args.air.now).constraints in
    let grew = c.in_ok-eval.ensures.evaluated.asserted.ok in
    let pool = c.eval.new.builder.pool in
    let all : c.eval.new.builder.constraints.ext.items ≡ grew.more_ext = grew.ext ∙ ap (λ l. l.ext ++ grew.more_ext) c.in_ok-builder.ensures.none in
    numbers_here r reads pool c.eval.new.builder.constraints.ext.items ts (subst (λ l. AllZip (PoolMeans reads r pool) l ts) (sym all) grew.each_ext)

pub returns-clause-kinds : goal.returns-clause-kinds
returns-clause-kinds g c =
    let grew = c.in_ok-eval.ensures.evaluated.asserted.ok in
    grew.kinds ∙ ap (λ l. l.kinds ++ map kind_of (g.A.BaseAir.declaration c.args.air.now).constraints) c.in_ok-builder.ensures.none

pub returns-clause-layout : goal.returns-clause-layout
returns-clause-layout g c = record {
  fits = c.in_ok-validate_against_air.ensures.fits;
  there = subst (λ l. NoneMissing (IsMissing (layout_shape l)) (g.A.BaseAir.declaration c.args.air.now).constraints) c.in_ok-builder.ensures.layout c.in_ok-eval.ensures.evaluated.there;
}

pub returns-in_err-eval-clause-refused : goal.returns-in_err-eval-clause-refused
returns-in_err-eval-clause-refused g c =
    let ts = (g.A.BaseAir.declaration c.args.air.now).constraints in
    let e = c.in_err-eval.field-0.0 in
    let refuses = λ (l : AirLayout) (e : AirError). Refused (IsMissing (layout_shape l)) (OverflowsDegree cached_weight) (λ _. ⊥) e ts in
    let refused : refuses c.args.layout e =
    ⊎_elim
    (λ (m : e ≡ Memory). subst (refuses c.args.layout) (sym m) tt)
    (λ r. subst (λ l. refuses l e) c.in_ok-builder.ensures.layout r)
    c.in_err-eval.ensures.evaluated.asserted.refused in
    let p = err_from_is_err_and c.from_residual-in_err-eval.result c.from_residual-in_err-eval.ensures.1 in
    rw (p.1, p.2) (inr (c.in_ok-validate_against_air.ensures.fits, refused))

pub returns-clause-answers : goal.returns-clause-answers
returns-clause-answers g c =
    let reads = ext_reads g.EF.ExtensionField.basis in
    let built = c.eval.new.builder in
    let us = terms_of base_reads built.pool.base built.constraints.base.items in
    let vs = terms_of reads built.pool built.constraints.ext.items in
    let base = returns-clause-base g c in
    let ext = returns-clause-ext g c in
    record {
      suits = returns-clause-layout g c;
      base = us;
      ext = vs;
      base_recorded = base.terms;
      ext_recorded = ext.terms;
      within =
          both_in_range cached_weight us vs
          (greatest_in_range base_reads built.pool.base built.constraints.base.items base.well_formed (returns-clause-base_here g c))
          (greatest_in_range reads built.pool built.constraints.ext.items ext.well_formed (returns-clause-ext_here g c));
    }
