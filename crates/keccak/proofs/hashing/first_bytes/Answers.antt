use Rattle.std.proofs.Common.{List, ℕ, [], ◌∷◌, ◌++◌, ◌∙◌, ap}
use Rattle.std.specs.Prelude.{slice_index}
use Rattle.std.specs.Int.{w64, to_le_bytes}
use Rattle.keccak.proofs.hashing.first_bytes.Goals as goal

abbrev eight : List ℕ → List ℕ
eight b =
    slice_index b 0 ∷ slice_index b 1 ∷ slice_index b 2 ∷ slice_index b 3 ∷
    slice_index b 4 ∷ slice_index b 5 ∷ slice_index b 6 ∷ slice_index b 7 ∷ []

pub returns : goal.returns
returns c =
    let lane = slice_index c.args.a in
    ap (λ (b : List ℕ). eight b ++ eight c.to_le_bytes-c.result ++ eight c.to_le_bytes-d.result ++ eight c.to_le_bytes-e.result) c.to_le_bytes-b.ensures
    ∙ ap (λ (b : List ℕ). to_le_bytes w64 (lane 0) ++ eight b ++ eight c.to_le_bytes-d.result ++ eight c.to_le_bytes-e.result) c.to_le_bytes-c.ensures
    ∙ ap (λ (b : List ℕ). to_le_bytes w64 (lane 0) ++ to_le_bytes w64 (lane 1) ++ eight b ++ eight c.to_le_bytes-e.result) c.to_le_bytes-d.ensures
    ∙ ap (λ (b : List ℕ). to_le_bytes w64 (lane 0) ++ to_le_bytes w64 (lane 1) ++ to_le_bytes w64 (lane 2) ++ eight b) c.to_le_bytes-e.ensures
