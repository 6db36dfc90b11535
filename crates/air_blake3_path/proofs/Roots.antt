-- The root above the leaf, from the last row back to the first.
use Rattle.std.specs.Prelude.{◌*◌, ◌^◌, ◌≤◌}
use Rattle.std.specs.List.{All}
use Rattle.std.proofs.Common.{◌≡◌, ◌<◌, ◌+◌, ℕ, suc, List, [], ◌∷◌, length, slice_index_or, Bool, refl, sym, ◌∙◌, ap, ap₂, subst, inl, inr, arith}
use Rattle.std.proofs.Math.Nat.{pow-suc}
use Rattle.std.proofs.lemmas.List.Elements.{All-cons, All-nil}
use Rattle.air_field.specs.Assignment.{Trace}
use Rattle.air_field.specs.Domain.{IsDomain}
use Rattle.air_field.specs.Ring.{CommRing, image}
use Rattle.air_field.specs.laws.Images.{HasCharacteristic, image-add, image-one, image-zero, same_of_image}
use Rattle.air_field.specs.laws.Ring.{zero_add}
use Rattle.air_builder.specs.Notation.{current, next}
use Rattle.air_report.specs.Instances.{instance_trace}
use Rattle.air_blake3.specs.Holding.{CompressionIsSound}
use Rattle.air_chains.specs.Rows.{height, nth_row, value_at, EmptyReportsHold, HoldOnRows}
use Rattle.air_chains.specs.WordValues.{HoldWords}
use Rattle.air_chains.specs.laws.Chains.{holds_back_to_first}
use Rattle.air_chains.specs.laws.Rows.{next_row}
use Rattle.air_chains.specs.laws.WordValues.{same_words, words_moved}
use Rattle.air_blake3_path.specs.Path.{index_column, node_column, path, side_column}
use Rattle.air_blake3_path.specs.Roots.{IsDigest, IsPath, PathsAreSound, RootsAreSound, path_instance}
use Rattle.air_blake3_path.specs.Tree.{node_flags, node_of, root_of}
use Rattle.air_blake3_path.proofs.NodeRows.{is_left, is_right, last_index, left_is, left_words, next_index, next_node, output_is, output_words, parent_above, public_index, public_leaf, public_root, right_is, right_words, root_above, side_bit}
use Rattle.air_blake3_path.proofs.Nodes.{flags_above, root_left, root_right}

module _ {F : Type 0} (R : CommRing F) (p : ℕ) (has : HasCharacteristic R p) (domain : IsDomain R) (big : 3 * 2 ^ 16 < p) (sound : CompressionIsSound R p)
    (t : Trace F) (holds : HoldOnRows R t (path R)) where
  abbrev row : ℕ → List F
  row i = nth_row t.main_trace.rows i

  -- The words of a row's node, and the way from it to the public root.
  record RootAbove (i : ℕ) : Type 0 where
    pub node : List ℕ
    pub siblings : List (List ℕ)
    pub index : ℕ
    pub node_is : IsDigest node
    pub node_held : HoldWords R (row i) node_column node
    pub siblings_are : All IsDigest siblings
    pub levels : length siblings + i ≡ height t
    pub within : index < 2 ^ length siblings
    pub index_is : value_at R t i (current index_column) ≡ image R index
    pub root_is : IsDigest (root_of node siblings index)
    pub root_held : HoldWords R t.public_values 16 (root_of node siblings index)

  one_sibling : (sibling : List ℕ) → IsDigest sibling → All IsDigest (sibling ∷ [])
  one_sibling sibling is = All-cons IsDigest sibling [] is (All-nil IsDigest)

  -- on the last row
  at_last : (i : ℕ) → suc i ≡ height t → RootAbove i
  at_last i e =
      let lt : i < height t = omega (arith, e) in
      let left = left_words R p has domain big sound t holds i lt in
      let right = right_words R p has domain big sound t holds i lt in
      let left_digest = left_is R p has domain big sound t holds i lt in
      let right_digest = right_is R p has domain big sound t holds i lt in
      let root = root_above R p has domain big sound t holds i lt e in
      let is : IsDigest (node_of 12 left right) = subst IsDigest root (output_is R p has domain big sound t holds i lt) in
      let held : HoldWords R t.public_values 16 (node_of 12 left right) =
      subst (HoldWords R t.public_values 16) root (public_root R p has domain big sound t holds i lt e) in
      let index = last_index R p has domain big sound t holds i lt e in
      let levels : 1 + i ≡ height t = omega (arith, e) in
      elim (side_bit R p has domain big sound t holds i lt) [
        | inl side ↦ record {
          node = left;
          siblings = right ∷ [];
          index = 0;
          node_is = left_digest;
          node_held = is_left R p has domain big sound t holds i lt side;
          siblings_are = one_sibling right right_digest;
          levels = levels;
          within = omega arith;
          index_is = index ∙ (side ∙ sym (image-zero R));
          root_is = is;
          root_held = held;
        }
        | inr side ↦ record {
          node = right;
          siblings = left ∷ [];
          index = 1;
          node_is = right_digest;
          node_held = is_right R p has domain big sound t holds i lt side;
          siblings_are = one_sibling left left_digest;
          levels = levels;
          within = omega arith;
          index_is = index ∙ (side ∙ sym (image-one R));
          root_is = is;
          root_held = held;
        }
      ]

  doubled : (n : ℕ) (side next : F) → next ≡ image R n → side ≡ R.zero → R.add side (R.add next next) ≡ image R (2 * n)
  doubled n side next is e =
      let two : n + n ≡ 2 * n = omega arith in
      ap₂ (λ x y. R.add x (R.add y y)) e is ∙ (zero_add R (R.add (image R n) (image R n)) ∙ (sym (image-add R n n) ∙ ap (image R) two))

  doubled_and_one : (n : ℕ) (side next : F) → next ≡ image R n → side ≡ R.one → R.add side (R.add next next) ≡ image R (2 * n + 1)
  doubled_and_one n side next is e =
      let more : 1 + (n + n) ≡ 2 * n + 1 = omega arith in
      ap₂ (λ x y. R.add x (R.add y y)) (e ∙ sym (image-one R)) is
      ∙ (ap (R.add (image R 1)) (sym (image-add R n n)) ∙ (sym (image-add R 1 (n + n)) ∙ ap (image R) more))

  less_doubled : (n k : ℕ) → n < 2 ^ k → 2 * n + 1 < 2 ^ suc k
  less_doubled n k lt = omega (arith, lt, pow-suc 2 k)

  -- on a row before another
  before : (i : ℕ) → suc i < height t → RootAbove (suc i) → RootAbove i
  before i more above =
      let lt : i < height t = omega (arith, more) in
      let left = left_words R p has domain big sound t holds i lt in
      let right = right_words R p has domain big sound t holds i lt in
      let left_digest = left_is R p has domain big sound t holds i lt in
      let right_digest = right_is R p has domain big sound t holds i lt in
      let output = output_words R p has domain big sound t holds i lt in
      let output_digest = output_is R p has domain big sound t holds i lt in
      let rest = above.siblings in
      let some : 0 < length rest = omega (arith, more, above.levels) in
      let same_node : above.node ≡ output =
      same_words R p has (omega (arith, big)) (row (suc i)) node_column above.node output (above.node_is.count ∙ sym output_digest.count)
      above.node_is.small output_digest.small above.node_held (next_node R p has domain big sound t holds i lt more) in
      let node : above.node ≡ node_of (node_flags rest) left right =
      same_node ∙ (parent_above R p has domain big sound t holds i lt more ∙ ap (λ flags. node_of flags left right) (sym (flags_above rest some))) in
      let is : IsDigest (root_of (node_of (node_flags rest) left right) rest above.index) = subst (λ n. IsDigest (root_of n rest above.index)) node above.root_is in
      let held : HoldWords R t.public_values 16 (root_of (node_of (node_flags rest) left right) rest above.index) =
      subst (λ n. HoldWords R t.public_values 16 (root_of n rest above.index)) node above.root_held in
      let up : value_at R t i (next index_column) ≡ image R above.index = next_row R t i index_column more ∙ above.index_is in
      let index = next_index R p has domain big sound t holds i lt more in
      let levels : suc (length rest) + i ≡ height t = omega (arith, above.levels) in
      let within = less_doubled above.index (length rest) above.within in
      elim (side_bit R p has domain big sound t holds i lt) [
        | inl side ↦ (
            let same = root_left left right rest above.index (2 * above.index) refl in record {
              node = left;
              siblings = right ∷ rest;
              index = 2 * above.index;
              node_is = left_digest;
              node_held = is_left R p has domain big sound t holds i lt side;
              siblings_are = All-cons IsDigest right rest right_digest above.siblings_are;
              levels = levels;
              within = omega (arith, within);
              index_is = index ∙ doubled above.index (value_at R t i (current side_column)) (value_at R t i (next index_column)) up side;
              root_is = subst IsDigest (sym same) is;
              root_held = subst (HoldWords R t.public_values 16) (sym same) held;
            }
            )
        | inr side ↦ (
            let same = root_right right left rest above.index (2 * above.index + 1) refl in record {
              node = right;
              siblings = left ∷ rest;
              index = 2 * above.index + 1;
              node_is = right_digest;
              node_held = is_right R p has domain big sound t holds i lt side;
              siblings_are = All-cons IsDigest left rest left_digest above.siblings_are;
              levels = levels;
              within = within;
              index_is = index ∙ doubled_and_one above.index (value_at R t i (current side_column)) (value_at R t i (next index_column)) up side;
              root_is = subst IsDigest (sym same) is;
              root_held = subst (HoldWords R t.public_values 16) (sym same) held;
            }
            )
      ]

  -- the public values are those of a path
  is_path : 0 < height t → IsPath R (height t) t.public_values
  is_path some =
      let first = holds_back_to_first RootAbove (height t) at_last before some in
      let levels : length first.siblings ≡ height t = omega (arith, first.levels) in
      record {
        leaf = first.node;
        siblings = first.siblings;
        index = first.index;
        leaf_is = first.node_is;
        siblings_are = first.siblings_are;
        levels = levels;
        within = subst (λ n. first.index < 2 ^ n) levels first.within;
        root_is = first.root_is;
        leaf_public =
            words_moved R (row 0) t.public_values node_column 0 first.node
            (λ k lt.
            let place : 0 + k ≡ k = omega arith in
            ap (λ n. slice_index_or t.public_values n R.zero) place
            ∙ public_leaf R p has domain big sound t holds some k (omega (arith, lt, first.node_is.count)))
            first.node_held;
        root_public = first.root_held;
        index_public = public_index R p has domain big sound t holds some ∙ first.index_is;
      }

module _ {F : Type 0} (R : CommRing F) (eq : F → F → Bool) (p : ℕ) (has : HasCharacteristic R p) (domain : IsDomain R) (sound : CompressionIsSound R p)
    (reports : EmptyReportsHold R eq) where
  pub paths_are_sound : PathsAreSound R eq p
  paths_are_sound main public report exact none some big =
      let g = path_instance R main public in
      is_path R p has domain big sound (instance_trace g) (reports g report exact none) some

  pub roots_are_sound : RootsAreSound R eq p
  roots_are_sound main public report exact none some big leaves leaf root index leaf_is root_is within leaf_public root_public index_public =
      let way = paths_are_sound main public report exact none some big in
      let half : 2 ^ 16 ≤ p = omega (arith, big) in
      let same_leaf : way.leaf ≡ leaf =
      same_words R p has half public 0 way.leaf leaf (way.leaf_is.count ∙ sym leaf_is.count) way.leaf_is.small leaf_is.small way.leaf_public leaf_public in
      let same_root : root_of way.leaf way.siblings way.index ≡ root =
      same_words R p has half public 16 (root_of way.leaf way.siblings way.index) root (way.root_is.count ∙ sym root_is.count) way.root_is.small root_is.small
      way.root_public root_public in
      let same_index : way.index ≡ index =
      same_of_image R p has way.index index (omega (arith, leaves, way.within)) (omega (arith, leaves, within)) (sym way.index_public ∙ index_public) in
      (way.siblings, way.levels, way.siblings_are, sym (ap₂ (λ l i. root_of l way.siblings i) same_leaf same_index) ∙ same_root)
