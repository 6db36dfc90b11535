use Rattle.std.proofs.Common.{codes}
use Rattle.std.proofs.lemmas.Result.{err_from_is_err_and}
use Rattle.serde_json.specs.View.{view}
use Rattle.air_json.specs.declared.errors.FlatError.TheVariants.{Shape}
use Rattle.air_recording.proofs.ListFields.{no_list, list_is}
use Rattle.air_recording.proofs.layouts.spellings.ConstraintLayoutSpelled.from_value.Goals as goal

pub returns-in_err-base_indices-clause-nothing : goal.returns-in_err-base_indices-clause-nothing
returns-in_err-base_indices-clause-nothing c =
    let p = err_from_is_err_and c.from_residual.result c.from_residual.ensures.1 in
    rw (p.1, p.2) (λ some x h. no_list (codes "base_indices") (view c.args.value.now) x.base_indices.items (Shape 0) c.in_err-base_indices.field-0.0 some c.in_err-base_indices.ensures h.base)

pub returns-in_err-ext_indices-clause-nothing : goal.returns-in_err-ext_indices-clause-nothing
returns-in_err-ext_indices-clause-nothing c =
    let p = err_from_is_err_and c.from_residual-in_err-ext_indices.result c.from_residual-in_err-ext_indices.ensures.1 in
    rw (p.1, p.2) (λ some x h. no_list (codes "ext_indices") (view c.args.value.now) x.ext_indices.items (Shape 0) c.in_err-ext_indices.field-0.0 some c.in_err-ext_indices.ensures h.ext)

pub returns-clause-read : goal.returns-clause-read
returns-clause-read c = record {
  base = list_is (codes "base_indices") (view c.args.value.now) c.in_ok-base_indices.base_indices.items (Shape 0) c.in_ok-base_indices.ensures;
  ext = list_is (codes "ext_indices") (view c.args.value.now) c.in_ok-ext_indices.ext_indices.items (Shape 0) c.in_ok-ext_indices.ensures;
}
