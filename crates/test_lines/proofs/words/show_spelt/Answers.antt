use Rattle.std.proofs.Common.{List, ℕ, sym, subst}
use Rattle.std.proofs.lemmas.Result.{IfOk-weaker}
use Rattle.test_lines.specs.Values.{IsCompactText}
use Rattle.test_lines.proofs.words.show_spelt.Goals as goal

pub returns-clause-added : goal.returns-clause-added
returns-clause-added g c =
    IfOk-weaker c.show_beside.result _ _
    (λ _ shown. (
      c.in_ok-x.x,
      c.in_ok-x.ensures.spelt,
      record {
        written = c.as_str.result.now;
        is_written = subst (λ (t : List ℕ). IsCompactText (g.S.Spelled.spelling c.in_ok-x.x) t) (sym c.as_str.ensures.value) c.in_ok-written.ensures.written;
        added = shown;
      },
    )) c.show_beside.ensures.added
