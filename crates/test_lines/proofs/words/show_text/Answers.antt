use Rattle.std.specs.List.{flat_map}
use Rattle.std.proofs.Common.{◌++◌, List, ℕ, string_bytes, ap, sym, ◌∙◌}
use Rattle.std.proofs.lemmas.Iterator.{YieldsList-from_chars}
use Rattle.std.proofs.lemmas.Iterator.Consumers.{YieldsList-end}
use Rattle.std.proofs.lemmas.List.{map-id}
use Rattle.test_lines.specs.Spelled.{shown_letter}
use Rattle.test_lines.proofs.words.show_text.Goals as goal

pub returns-clause-added : goal.returns-clause-added
returns-clause-added c =
    let t = YieldsList-end (YieldsList-from_chars c.args.shown.now c.utf8.shown cc) c.loop-letter.yielded _ c.loop-letter.yielded_by _ _ c.in-None.is c.next.ensures.steps in
    c.loop-letter.invariant ∙ ap (λ (cs : List ℕ). string_bytes c.args.text.now ++ flat_map shown_letter cs) (sym (map-id c.loop-letter.yielded) ∙ t.0)
