use Rattle.std.proofs.Common.{◌≡◌, ℕ, ◌+◌, ◌<◌, ◌++◌, length, get_or, None, All, string_bytes, sym, ap, ap₂, subst, ◌∙◌, arith}
use Rattle.air_print.specs.Infix.{shown_number, shown_node, infix_text}
use Rattle.air_print.specs.Pieces.{rest_text, rest_size, piece_text, piece_size, shown_size, IsPieceBelow}
use Rattle.air_print.proofs.PieceLemmas.{on_both, left-text, left-size, left-below}
use Rattle.air_print.proofs.ShownLemmas.{unnamed, below-more}
use Rattle.air_print.proofs.infix.write_piece.Goals as goal

pub returns-in-None-clause-text : goal.returns-in-None-clause-text
returns-in-None-clause-text g c =
    let m = g.F.PrimeField64.residues in
    let ns = c.args.pool.now.nodes in
    let named = λ (i : ℕ). get_or c.args.names.now.1 i None in
    let f = shown_number named ns in
    let id = c.in-Operand.id in
    let within = c.in-Operand.within in
    let n = c.node.result.now in
    let here : id < length ns = subst (λ q. IsPieceBelow (length ns) q) c.in-Operand.is c.requires.here in
    let none : named id ≡ None = sym c.name.ensures ∙ c.in-None.is in
    let is : f id ≡ shown_node f n = unnamed named _ ns id n c.node.ensures none in
    let piece : infix_text m within (shown_node f n) ≡ piece_text m f c.args.piece =
    sym (ap (piece_text m f) c.in-Operand.is ∙ ap (infix_text m within) is) in
    on_both _ _ _ c.leave_node.result
    (λ p q.
    ap₂ (λ t r. t ++ rest_text m f r) p q
    ∙ left-text m f within n (string_bytes c.args.text.now) c.args.rest.now.items
    ∙ ap (λ t. string_bytes c.args.text.now ++ (t ++ rest_text m f c.args.rest.now.items)) piece)
    c.leave_node.ensures.front c.leave_node.ensures.rest

pub returns-in-None-clause-here : goal.returns-in-None-clause-here
returns-in-None-clause-here g c =
    let ns = c.args.pool.now.nodes in
    let id = c.in-Operand.id in
    let n = c.node.result.now in
    let here : id < length ns = subst (λ q. IsPieceBelow (length ns) q) c.in-Operand.is c.requires.here in
    on_both _ _ _ c.leave_node.result
    (λ p q. λ all. subst (λ r. All (IsPieceBelow (length ns)) r) (sym q)
    (left-below (length ns) c.in-Operand.within n c.args.rest.now.items (below-more id (length ns) n (omega (arith, here)) c.node.ensures.below) all))
    c.leave_node.ensures.front c.leave_node.ensures.rest

pub returns-in-None-clause-size : goal.returns-in-None-clause-size
returns-in-None-clause-size g c =
    let ns = c.args.pool.now.nodes in
    let named = λ (i : ℕ). get_or c.args.names.now.1 i None in
    let f = shown_number named ns in
    let id = c.in-Operand.id in
    let n = c.node.result.now in
    let here : id < length ns = subst (λ q. IsPieceBelow (length ns) q) c.in-Operand.is c.requires.here in
    let none : named id ≡ None = sym c.name.ensures ∙ c.in-None.is in
    let is : f id ≡ shown_node f n = unnamed named _ ns id n c.node.ensures none in
    let size : shown_size (shown_node f n) ≡ piece_size f c.args.piece = sym (ap (piece_size f) c.in-Operand.is ∙ ap shown_size is) in
    on_both _ _ _ c.leave_node.result
    (λ p q. subst (λ k. rest_size f c.leave_node.new.rest.items < rest_size f c.args.rest.now.items + k) size
    (subst (λ r. rest_size f r < rest_size f c.args.rest.now.items + shown_size (shown_node f n)) (sym q)
    (left-size f c.in-Operand.within n c.args.rest.now.items)))
    c.leave_node.ensures.front c.leave_node.ensures.rest
