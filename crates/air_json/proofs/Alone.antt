-- The list of a leaf.
use Rattle.std.proofs.Common.{[], ◌∷◌, codes, refl, inr}
use Rattle.serde_json.specs.Data.{Data}
use Rattle.air_symbolic.specs.Trees.{leaf_tree}
use Rattle.air_json.specs.Nodes.{Kind}
use Rattle.air_json.specs.Spelling.{IsCase}
use Rattle.air_json.specs.Written.{IsAmong, Adds, AreWritten, AreNodesOf}

pub leaf_written : {S F : Type 0} (kind : Kind S F) (d : Data) (a : S) → IsCase (codes "Leaf") (λ c. kind.writes c a) d → AreNodesOf kind (d ∷ []) (leaf_tree a)
unfolding Adds AreWritten
leaf_written kind d a h = record {
  trees = leaf_tree a ∷ [];
  order = inr ((λ (s : IsAmong [] (leaf_tree a)). absurd (cc s.1)), refl);
  nodes = (h, tt);
}
