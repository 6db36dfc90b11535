use Rattle.std.proofs.Common.{◌≡◌, ℕ, ◌++◌, [], length, get_or, None, All, string_bytes, append-nil, sym, ap, ap₂, subst, ◌∙◌, arith}
use Rattle.std.proofs.lemmas.List.Elements.{All-nil}
use Rattle.std.proofs.lemmas.Result.{on_ok_weaker}
use Rattle.air_print.specs.Infix.{shown_number, shown_at, shown_node, infix_text}
use Rattle.air_print.specs.Pieces.{rest_text, node_rest, IsPieceBelow}
use Rattle.air_print.specs.declared.binding.Binding.TheVariants.{Loose}
use Rattle.air_print.proofs.PieceLemmas.{left-text, left-below}
use Rattle.air_print.proofs.ShownLemmas.{shown_at-node, below-more}
use Rattle.air_print.proofs.infix.push_definition.Goals as goal

pub write_rest-requires : goal.write_rest-requires
write_rest-requires g c =
    let k = length c.args.pool.now.nodes in
    let n = c.node.result.now in
    let rest : c.leave_node.new.rest.items ≡ [] ++ node_rest Loose n =
    c.in_ok-leave_node.ensures.rest ∙ ap (λ xs. xs ++ node_rest Loose n) c.new-rest.ensures.items in
    let low = below-more c.args.id k n (omega (arith, c.requires.here)) c.node.ensures.below in
    record { here = subst (λ r. All (IsPieceBelow k) r) (sym rest) (left-below k Loose n [] low (All-nil (IsPieceBelow k))) }

pub returns : goal.returns
returns g c =
    let m = g.F.PrimeField64.residues in
    let ns = c.args.pool.now.nodes in
    let named = λ (i : ℕ). get_or c.args.names.now.1 i None in
    let f = shown_number named ns in
    let n = c.node.result.now in
    let old = string_bytes c.args.text.now in
    let node : shown_at named ns c.args.id ≡ shown_node f n = shown_at-node named _ ns c.args.id n c.node.ensures in
    let rest : c.leave_node.new.rest.items ≡ [] ++ node_rest Loose n =
    c.in_ok-leave_node.ensures.rest ∙ ap (λ xs. xs ++ node_rest Loose n) c.new-rest.ensures.items in
    on_ok_weaker c.write_rest.result
    (λ h. h
    ∙ ap₂ (λ t r. t ++ rest_text m f r) c.in_ok-leave_node.ensures.front rest
    ∙ left-text m f Loose n old []
    ∙ ap (λ t. old ++ t) (append-nil (infix_text m Loose (shown_node f n)) ∙ ap (infix_text m Loose) (sym node)))
    c.write_rest.ensures
