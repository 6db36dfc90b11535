use Rattle.std.proofs.Common.{◌≡◌, ◌++◌, length, get_or, None, All, string_bytes}
use Rattle.air_print.specs.Infix.{shown_number}
use Rattle.air_print.specs.Pieces.{rest_text, IsPieceBelow, rest_size}
use Rattle.air_print.proofs.infix.write_rest.Given as goal

-- the written text and the remaining pieces make up the result
abbrev pub invariant-loop-piece : goal.invariant-loop-piece
invariant-loop-piece g l =
    let f = shown_number (λ i. get_or l.names.1 i None) l.pool.nodes in
    let m = g.F.PrimeField64.residues in
    record {
      text : string_bytes l.text ++ rest_text m f l.rest.items ≡ string_bytes l.fn.text ++ rest_text m f l.fn.rest.items;
      below : All (IsPieceBelow (length l.pool.nodes)) l.rest.items;
    }

abbrev pub decreases-loop-piece : goal.decreases-loop-piece
decreases-loop-piece g l = rest_size (shown_number (λ i. get_or l.names.1 i None) l.pool.nodes) l.rest.items
