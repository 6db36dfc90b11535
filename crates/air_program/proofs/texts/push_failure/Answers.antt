use Rattle.std.proofs.Common.{◌++◌, ◌∙◌, refl, string_bytes, append_assoc, append-nil}
use Rattle.std.proofs.lemmas.Result.{on_ok_weaker}
use Rattle.air_program.specs.Texts.{place_text}
use Rattle.air_program.proofs.texts.push_failure.Goals as goal

pub returns : goal.returns
unfolding place_text
returns c = on_ok_weaker c.writeln.result
    (λ h. record {
      line = place_text (c.args.failure.now.row, c.args.failure.now.constraint) ++ string_bytes c.in_ok-label.label;
      is_line = record { shown = string_bytes c.in_ok-label.label; line_is = refl; shown_is = c.in_ok-label.ensures.shown; one_line = c.in_ok-label.ensures.one_line };
      pushed = h ∙ simp (append_assoc, append-nil);
    })
    c.writeln.ensures.bytes
