use Rattle.std.proofs.Common.{Result, Ok, Err, IfOk, subst, inr}
use Rattle.std.proofs.lemmas.Result.{err_from_is_err_and}
use Rattle.serde_json.specs.View.{view}
use Rattle.air_field.specs.declared.errors.MatrixError.{MatrixError}
use Rattle.air_object.specs.Parts.{TakesPool}
use Rattle.air_object.specs.Seen.{seen_made}
use Rattle.air_object.specs.declared.input.FlatInput.{FlatInput}
use Rattle.air_object.proofs.InputLaws.{member_fault, parts_spell}
use Rattle.air_object.proofs.PartLemmas.{parts_give, roots_given}
use Rattle.air_object.proofs.input.input_from.Goals as goal

pub returns-in_err-made-clause-refused : goal.returns-in_err-made-clause-refused
returns-in_err-made-clause-refused g c =
    let m = g.F.PrimeField64.residues in
    let p = err_from_is_err_and c.from_residual.result c.from_residual.ensures.1 in
    let fault = c.in_err-made.field-0.0 in
    rw p.1 (λ n d parts. member_fault m d fault p.0 p.2 (parts_give m d (view c.args.value.now) c.args.main c.args.constraints parts seen_made (Err fault) c.in_err-made.ensures.read) n)

pub returns-in_err-input-clause-refused : goal.returns-in_err-input-clause-refused
returns-in_err-input-clause-refused g c =
    let out = c.from_residual-in_err-input in
    let p = err_from_is_err_and out.result out.ensures.1 in
    let ragged = c.in_err-input.field-0.0 in
    rw p.1 (λ n d parts. inr (
      ragged,
      parts_spell g.F.PrimeField64.residues d (view c.args.value.now) c.args.main c.args.constraints parts c.in_ok-made.made (Err ragged) c.in_ok-made.ensures.read c.in_err-input.was,
      p.2,
    ))

pub returns-clause-read : goal.returns-clause-read
returns-clause-read g c d parts =
    let m = g.F.PrimeField64.residues in
    let input = c.in_ok-input.input in
    let taken = subst (λ (r : Result (FlatInput _) MatrixError). IfOk r (λ i. TakesPool c.args.constraints i.constraints)) c.in_ok-input.was c.in_ok-made.ensures.taken in
    record {
      members = parts_spell m d (view c.args.value.now) c.args.main c.args.constraints parts c.in_ok-made.made (Ok input) c.in_ok-made.ensures.read c.in_ok-input.was;
      roots = roots_given m d (view c.args.value.now) c.args.main c.args.constraints parts input.constraints taken;
    }
