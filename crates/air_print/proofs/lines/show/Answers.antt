use Rattle.std.proofs.Common.{ℕ, ◌<◌, ◌++◌, List, length, map, All, codes, String, Global, string_bytes, sym, ap, subst, ◌∙◌, arith}
use Rattle.std.specs.List.{AllZip}
use Rattle.std.proofs.lemmas.Grind.{flat_map-append}
use Rattle.air_print.specs.Labels.{StandsBehind}
use Rattle.air_print.specs.Names.{is_named}
use Rattle.air_print.specs.Lines.{lines_text, number_lines, definition_line, constraint_line}
use Rattle.air_print.proofs.NameLemmas.{passing-low}
use Rattle.air_print.proofs.lines.show.Goals as goal

pub push_definitions-requires : goal.push_definitions-requires
push_definitions-requires g c =
    let ns = c.args.pool.now.nodes in
    let are = c.in_ok-names.ensures in
    record {
      here = subst (λ (xs : List ℕ). All (λ x. x < length ns) xs) (sym are.named)
          (passing-low (is_named ns c.args.roots.now are.marks) (length ns) (length ns) (omega arith));
    }

pub returns : goal.returns
returns g c =
    let m = g.F.PrimeField64.residues in
    let names = c.in_ok-names.names in
    let definitions = number_lines (definition_line m c.args.pool.now names.1) names.0 in
    let shown = map string_bytes c.deref.result.now in
    let constraints = number_lines (constraint_line m c.args.pool.now names.1 shown) c.args.roots.now in
    record {
      names = names;
      are_names = c.in_ok-names.ensures;
      shown = shown;
      are_shown = subst (λ (xs : List (String Global)). AllZip StandsBehind (map string_bytes c.args.labels.now) (map string_bytes xs)) (sym c.deref.ensures.value) c.in_ok-shown.ensures;
      text_is = c.in_ok-push_constraints.ensures
          ∙ ap (λ t. t ++ lines_text constraints) (c.in_ok-push_definitions.ensures ∙ ap (λ t. t ++ lines_text definitions) c.new-text.ensures.bytes)
          ∙ sym (flat_map-append (λ line. line ++ codes "\n") definitions constraints);
    }
