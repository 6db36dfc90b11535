-- What the public values are of a trace that passes.
use Rattle.std.specs.Prelude.{◌≡◌, ℕ, ◌*◌, ◌^◌, ◌<◌, ◌≤◌, List, [], length, Bool, None, slice_index_or}
use Rattle.std.specs.List.{All}
use Rattle.air_field.specs.Grid.{Grid}
use Rattle.air_field.specs.Ring.{CommRing, image}
use Rattle.air_builder.specs.Declaration.{plain_declaration}
use Rattle.air_report.specs.Checks.{IsReport}
use Rattle.air_report.specs.Instances.{Instance, instance}
use Rattle.air_report.specs.declared.checks.report.ConstraintReport.{ConstraintReport}
use Rattle.air_chains.specs.WordValues.{HoldWords}
use Rattle.air_blake3_path.specs.Path.{path}
use Rattle.air_blake3_path.specs.Tree.{root_of}

-- eight words of 32 bits
pub record IsDigest (words : List ℕ) : Type 0 where
  pub count : length words ≡ 8
  pub small : All (λ w. w < 2 ^ 32) words

-- The public values from index 0 on are the limbs of a leaf, from 16 on those of the root above it, and value 32 is the
-- leaf's index among the 2^height leaves.
pub record IsPath {F : Type 0} (R : CommRing F) (height : ℕ) (public : List F) : Type 0 where
  pub leaf : List ℕ
  pub siblings : List (List ℕ)
  pub index : ℕ
  pub leaf_is : IsDigest leaf
  pub siblings_are : All IsDigest siblings
  pub levels : length siblings ≡ height
  pub within : index < 2 ^ height
  pub root_is : IsDigest (root_of leaf siblings index)
  pub leaf_public : HoldWords R public 0 leaf
  pub root_public : HoldWords R public 16 (root_of leaf siblings index)
  pub index_public : slice_index_or public 32 R.zero ≡ image R index

-- `MerklePath` on a trace, as a check sees it
abbrev pub path_instance : {F : Type 0} → CommRing F → Grid F → List F → Instance F
path_instance R main public = instance (plain_declaration (path R) 9186 33) main public

-- If an exact report without a cap lists nothing, over a field of characteristic above 3 · 2^16, the public values are
-- those of a path with as many levels as the trace has rows.
abbrev pub PathsAreSound : {F : Type 0} → CommRing F → (F → F → Bool) → ℕ → Type 0
PathsAreSound {F} R eq characteristic =
    (main : Grid F) (public : List F) (report : ConstraintReport)
    → IsReport R eq (path_instance R main public) None report → report.failures.items ≡ []
    → 0 < length main.rows → 3 * 2 ^ 16 < characteristic → IsPath R (length main.rows) public

-- So, of any leaf, root and index whose values are public, the root is the one above the leaf at this index, for some
-- siblings. The characteristic is at least the number of leaves.
abbrev pub RootsAreSound : {F : Type 0} → CommRing F → (F → F → Bool) → ℕ → Type 0
RootsAreSound {F} R eq characteristic =
    (main : Grid F) (public : List F) (report : ConstraintReport)
    → IsReport R eq (path_instance R main public) None report → report.failures.items ≡ []
    → 0 < length main.rows → 3 * 2 ^ 16 < characteristic → 2 ^ length main.rows ≤ characteristic
    → (leaf root : List ℕ) (index : ℕ) → IsDigest leaf → IsDigest root → index < 2 ^ length main.rows
    → HoldWords R public 0 leaf → HoldWords R public 16 root → slice_index_or public 32 R.zero ≡ image R index
    → (siblings : List (List ℕ)) × (length siblings ≡ length main.rows) × All IsDigest siblings × (root_of leaf siblings index ≡ root)
