-- The binary tree of BLAKE3 above its leaves, and the way from a leaf to the root.
use Rattle.std.specs.Prelude.{ℕ, ◌/◌, ◌%◌, ◌==◌, List, [], ◌∷◌, ◌++◌, if◌then◌else◌}
use Rattle.blake3.specs.Blocks.{block_of}
use Rattle.blake3.specs.Compression.{compress}
use Rattle.blake3.specs.Hashing.{first_words, start_words}

-- the flags of a node that isn't a leaf, by the levels above it: 4 for a parent, and 8 more for the root
abbrev pub node_flags : {A : Type 0} → List A → ℕ
node_flags [] = 12
node_flags (x ∷ above) = 4

-- the eight words of a node, from those of its two children
abbrev pub node_of : ℕ → List ℕ → List ℕ → List ℕ
node_of flags left right = first_words (compress (block_of start_words (left ++ right) (0 ∷ 0 ∷ 64 ∷ flags ∷ [])))

-- The root above a node, by the siblings on the way up, the lowest first. The lowest bit of the index is 1 if the node is
-- a right child, the next bit if its parent is, and so on.
abbrev pub root_of : List ℕ → List (List ℕ) → ℕ → List ℕ
root_of node [] index = node
root_of node (sibling ∷ above) index =
    root_of
    (if index % 2 == 0 then node_of (node_flags above) node sibling else node_of (node_flags above) sibling node)
    above (index / 2)
