use Rattle.std.proofs.Common.{◌≡◌, ℕ, ◌+◌, ◌<◌, ◌++◌, length, get_or, Some, None, string_bytes, sym, ap, subst, ◌∙◌}
use Rattle.std.proofs.lemmas.List.Elements.{All-pop}
use Rattle.air_print.specs.Infix.{shown_number}
use Rattle.air_print.specs.Pieces.{piece_text, rest_text, IsPieceBelow, piece_size, rest_size}
use Rattle.air_print.proofs.PieceLemmas.{rest_text-push, rest_size-push}
use Rattle.air_print.proofs.infix.write_rest.Goals as goal

pub loop-piece-smaller : goal.loop-piece-smaller
loop-piece-smaller g c =
    let f = shown_number (λ (i : ℕ). get_or c.args.names.now.1 i None) c.args.pool.now.nodes in
    let popped = c.pop.new.self.items in
    let size : rest_size f c.loop-piece.rest.items ≡ rest_size f popped + piece_size f c.in-Some.piece =
    ap (rest_size f) c.in-Some.ensures.items ∙ rest_size-push f popped c.in-Some.piece in
    subst (λ k. rest_size f c.write_piece.new.rest.items < k) (sym size) c.in_ok-write_piece.ensures.size

pub loop-piece-preserved : goal.loop-piece-preserved
loop-piece-preserved g c =
    let m = g.F.PrimeField64.residues in
    let f = shown_number (λ (i : ℕ). get_or c.args.names.now.1 i None) c.args.pool.now.nodes in
    let popped = c.pop.new.self.items in
    let next : rest_text m f c.loop-piece.rest.items ≡ piece_text m f c.in-Some.piece ++ rest_text m f popped =
    ap (rest_text m f) c.in-Some.ensures.items ∙ rest_text-push m f popped c.in-Some.piece in
    record {
      text = c.in_ok-write_piece.ensures.text
          ∙ ap (λ t. string_bytes c.loop-piece.text ++ t) (sym next)
          ∙ c.loop-piece.invariant.text;
      below = c.in_ok-write_piece.ensures.here
          (All-pop (IsPieceBelow (length c.args.pool.now.nodes)) c.loop-piece.rest.items popped (Some c.in-Some.piece) c.in-Some.ensures.items c.loop-piece.invariant.below).0;
    }
