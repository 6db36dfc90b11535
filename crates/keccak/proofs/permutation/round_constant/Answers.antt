use Rattle.std.proofs.Common.{List, ℕ, ◌∙◌, ap, sym, arith}
use Rattle.std.specs.Prelude.{slice_index}
use Rattle.std.proofs.lemmas.List.FromFn.{get_or-map-range_with_len}
use Rattle.keccak.specs.Constants.{round_constant}
use Rattle.keccak.specs.laws.Constants.{constants_are}
use Rattle.keccak.proofs.permutation.round_constant.Goals as goal

pub returns : goal.returns
returns c =
    let i = c.args.index in
    ap (λ (constants : List ℕ). slice_index constants i) (sym constants_are)
    ∙ get_or-map-range_with_len round_constant 0 24 i i 0 c.requires (omega arith)
