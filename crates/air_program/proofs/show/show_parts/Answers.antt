use Rattle.std.proofs.Common.{◌≡◌, List, ℕ, String, Global, Ok, Err, map, string_bytes, refl, ap, subst, ◌∙◌, inl}
use Rattle.std.proofs.lemmas.Result.{err_from_is_err_and}
use Rattle.air_print.specs.Lines.{ShowsRoots}
use Rattle.air_program.proofs.ShowAnswers.{shows_given, refused_given}
use Rattle.air_program.proofs.show.show_parts.Goals as goal

pub returns-in-Err : goal.returns-in-Err
returns-in-Err g c =
    refused_given g.F.PrimeField64.residues c.args.parts (Err c.in-Err.fault) c.in-Err.ensures.read c.args.bytes.now c.in-Err.fault c.from.result refl c.from.ensures c.refused_labelled.result c.refused_labelled.ensures

pub returns-in_err-text : goal.returns-in_err-text
returns-in_err-text g c =
    let p = err_from_is_err_and c.from_residual.result c.from_residual.ensures.1 in
    rw (p.1, p.2) (record { ok = tt; refused = inl refl })

pub returns : goal.returns
returns g c =
    let m = g.F.PrimeField64.residues in
    let l = c.in-Ok.labelled in
    let text = string_bytes c.in_ok-text.text in
    record {
      ok = λ d stands h. inl (
        refl,
        shows_given m c.args.parts (Ok l) c.in-Ok.ensures.read l refl c.in-Ok.ensures.taken text
            (subst (λ (ls : List (String Global)). ShowsRoots m l.pool l.roots.items (map string_bytes ls) text) c.deref-2.ensures.value
            (subst (λ (rs : List ℕ). ShowsRoots m l.pool rs (map string_bytes c.deref-2.result.now) text) c.deref.ensures.value c.in_ok-text.ensures)) d h,
      );
      refused = tt;
    }
