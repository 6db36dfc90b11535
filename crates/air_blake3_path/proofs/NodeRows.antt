-- The words of a node's row.
use Rattle.std.specs.Prelude.{◌/◌, ◌%◌, ◌*◌, ◌^◌, ◌≤◌, ◌⊎◌, slice_index, ⊤}
use Rattle.std.specs.List.{All}
use Rattle.std.proofs.Common.{◌≡◌, ◌<◌, ◌+◌, ℕ, zero, suc, List, [], ◌∷◌, ◌++◌, slice_index_or, refl, sym, ◌∙◌, ap, subst, arith}
use Rattle.air_field.specs.Assignment.{Trace, row_assignment}
use Rattle.air_field.specs.Domain.{IsDomain}
use Rattle.air_field.specs.Ring.{CommRing, image, minus, self_algebra}
use Rattle.air_field.specs.Term.{Leaf}
use Rattle.air_field.specs.Value.{value}
use Rattle.air_field.specs.laws.Images.{HasCharacteristic, image-add}
use Rattle.air_field.specs.laws.Ring.{add_left_comm, mul_one, mul_zero, one_mul, zero_mul}
use Rattle.air_builder.specs.Assertion.{Assertion}
use Rattle.air_builder.specs.Notation.{current, next, public, first_row, last_row, transition, ◌≐◌, ◌⊕◌, ◌⊖◌, ◌⊙◌}
use Rattle.air_builder.specs.Vanishing.{AllVanish}
use Rattle.air_author.specs.Kinds.{number, double, each_below}
use Rattle.air_gadgets.specs.BitTerms.{packed_bits}
use Rattle.air_gadgets.specs.laws.Vanishing.{both_vanish, one_vanishes}
use Rattle.blake3.specs.Compression.{Block, compress}
use Rattle.blake3.specs.Hashing.{first_words, start_words}
use Rattle.blake3.specs.declared.words.State.{State}
use Rattle.air_blake3.specs.Holding.{CompressionIsSound, HoldsCompression, IsBitsOf, IsOutput}
use Rattle.air_blake3.specs.Row.{compression, message_column}
use Rattle.air_blake3.specs.Words.{bits_at}
use Rattle.air_chains.specs.Rows.{height, nth_row, value_at, HoldOnRows}
use Rattle.air_chains.specs.WordValues.{HoldWords}
use Rattle.air_chains.specs.laws.Marks.{is_bit}
use Rattle.air_chains.specs.laws.Rows.{before_last, condition_holds, equal, next_row, on_first, on_last, on_transition}
use Rattle.air_chains.specs.laws.WordValues.{words_held}
use Rattle.air_blake3_path.specs.Path.{side_column, index_column, node_column, fixed_columns, fixed_words, flags_column, left_limb, right_limb, output_limb, limb_asserts, index_asserts, fixed_asserts, flags_asserts, beside_compression, path}
use Rattle.air_blake3_path.specs.Roots.{IsDigest}
use Rattle.air_blake3_path.specs.Tree.{node_of}
use Rattle.air_blake3_path.proofs.Halves.{bits-lt, low_limb, high_limb, is_constant}
use Rattle.air_blake3_path.proofs.Nodes.{all_words, first_numbered_at, is_node, numbered, numbered_at, numbered_length}

-- each word is below 2^32
abbrev AllSmall : List ℕ → Type 0
AllSmall [] = ⊤
AllSmall (w ∷ ws) = (w < 2 ^ 32) × AllSmall ws

small_at : (ws : List ℕ) → AllSmall ws → (k : ℕ) → slice_index ws k < 2 ^ 32
small_at [] h k = omega arith
small_at (w ∷ ws) h zero = h.0
small_at (w ∷ ws) h (suc k) = small_at ws h.1 k

fixed_small : AllSmall fixed_words
fixed_small = (omega arith, (omega arith, (omega arith, (omega arith, (omega arith, (omega arith, (omega arith, (omega arith, (omega arith, (omega arith, (omega arith, tt)))))))))))

module _ {F : Type 0} (R : CommRing F) (s : Leaf → F) where
  -- the columns of each word of the output's first half
  output_word : (v : State) → IsOutput R s v → (j : ℕ) → j < 8 → IsBitsOf R s (bits_at (8656 + 32 * j)) (slice_index (first_words v) j)
  output_word v h zero lt = h.q0.a
  output_word v h (suc zero) lt = h.q1.a
  output_word v h (suc (suc zero)) lt = h.q2.a
  output_word v h (suc (suc (suc zero))) lt = h.q3.a
  output_word v h (suc (suc (suc (suc zero)))) lt = h.q0.b
  output_word v h (suc (suc (suc (suc (suc zero))))) lt = h.q1.b
  output_word v h (suc (suc (suc (suc (suc (suc zero)))))) lt = h.q2.b
  output_word v h (suc (suc (suc (suc (suc (suc (suc zero))))))) lt = h.q3.b
  output_word v h (suc (suc (suc (suc (suc (suc (suc (suc j)))))))) lt = absurd (omega (arith, lt))

  -- limbs that are those of eight words in bits
  limbs_hold : (values : List F) (first c : ℕ) (f : ℕ → ℕ)
      → ((k : ℕ) → k < 16 → slice_index_or values (first + k) R.zero ≡ value (self_algebra R) s (packed_bits R (c + 16 * k) 16))
      → ((j : ℕ) → j < 8 → IsBitsOf R s (bits_at (c + 32 * j)) (f j)) → HoldWords R values first (numbered f 0 8)
  limbs_hold values first c f limbs words =
      words_held R values first (numbered f 0 8)
      (λ j lt.
      let columns : c + 16 * (2 * j) ≡ c + 32 * j = omega arith in
      limbs (2 * j) (omega (arith, lt))
      ∙ (ap (λ n. value (self_algebra R) s (packed_bits R n 16)) columns
      ∙ (low_limb R s (c + 32 * j) (f j) (words j lt)
      ∙ ap (λ w. image R (w % 2 ^ 16)) (sym (first_numbered_at f 8 j lt)))))
      (λ j lt.
      let place : first + 2 * j + 1 ≡ first + (2 * j + 1) = omega arith in
      let columns : c + 16 * (2 * j + 1) ≡ c + 32 * j + 16 = omega arith in
      ap (λ n. slice_index_or values n R.zero) place
      ∙ (limbs (2 * j + 1) (omega (arith, lt))
      ∙ (ap (λ n. value (self_algebra R) s (packed_bits R n 16)) columns
      ∙ (high_limb R s (c + 32 * j) (f j) (words j lt)
      ∙ ap (λ w. image R (w / 2 ^ 16)) (sym (first_numbered_at f 8 j lt))))))

module _ {F : Type 0} (R : CommRing F) where
  left_child : (l r side : F) → side ≡ R.zero → R.add l (R.mul side (minus R r l)) ≡ l
  left_child l r side e = ap (λ z. R.add l (R.mul z (minus R r l))) e ∙ (ap (R.add l) (zero_mul R (minus R r l)) ∙ R.add_zero l)

  right_child : (l r side : F) → side ≡ R.one → R.add l (R.mul side (minus R r l)) ≡ r
  right_child l r side e =
      ap (λ z. R.add l (R.mul z (minus R r l))) e
      ∙ (ap (R.add l) (one_mul R (minus R r l))
      ∙ (add_left_comm R l r (R.neg l)
      ∙ (ap (R.add r) (R.add_neg l)
      ∙ R.add_zero r)))

  parent_flags : (last : F) → last ≡ R.zero → R.add (image R 4) (R.mul (image R 8) last) ≡ image R 4
  parent_flags last e = ap (λ z. R.add (image R 4) (R.mul (image R 8) z)) e ∙ (ap (R.add (image R 4)) (mul_zero R (image R 8)) ∙ R.add_zero (image R 4))

  root_flags : (last : F) → last ≡ R.one → R.add (image R 4) (R.mul (image R 8) last) ≡ image R 12
  root_flags last e = ap (λ z. R.add (image R 4) (R.mul (image R 8) z)) e ∙ (ap (R.add (image R 4)) (mul_one R (image R 8)) ∙ sym (image-add R 4 8))

-- A trace whose rows keep the constraints.
module _ {F : Type 0} (R : CommRing F) (p : ℕ) (has : HasCharacteristic R p) (domain : IsDomain R) (big : 3 * 2 ^ 16 < p) (sound : CompressionIsSound R p)
    (t : Trace F) (holds : HoldOnRows R t (path R)) where
  abbrev at : ℕ → Leaf → F
  at i = row_assignment R t i

  abbrev fixed_and_flags : List (Assertion F)
  fixed_and_flags = each_below 11 (fixed_asserts R (λ x. x)) ++ flags_asserts R (λ x. x)

  -- ---- the parts of the constraints at a row

  module _ (i : ℕ) (lt : i < height t) where
    parts : AllVanish R (at i) (compression R) × AllVanish R (at i) (beside_compression R)
    parts = both_vanish R (at i) (compression R) (beside_compression R) (holds i lt)

    limbs_and_more : AllVanish R (at i) (each_below 16 (limb_asserts R (λ x. x))) × AllVanish R (at i) (index_asserts R (λ x. x) ++ fixed_and_flags)
    limbs_and_more = both_vanish R (at i) (each_below 16 (limb_asserts R (λ x. x))) (index_asserts R (λ x. x) ++ fixed_and_flags) parts.1

    limb : (k : ℕ) → k < 16 → AllVanish R (at i) (limb_asserts R (λ x. x) k)
    limb k low = one_vanishes R (at i) (limb_asserts R (λ x. x)) 16 k low limbs_and_more.0

    index_and_more : AllVanish R (at i) (index_asserts R (λ x. x)) × AllVanish R (at i) fixed_and_flags
    index_and_more = both_vanish R (at i) (index_asserts R (λ x. x)) fixed_and_flags limbs_and_more.1

    words_and_flags : AllVanish R (at i) (each_below 11 (fixed_asserts R (λ x. x))) × AllVanish R (at i) (flags_asserts R (λ x. x))
    words_and_flags = both_vanish R (at i) (each_below 11 (fixed_asserts R (λ x. x))) (flags_asserts R (λ x. x)) index_and_more.1

    fixed : (k : ℕ) → k < 11 → AllVanish R (at i) (fixed_asserts R (λ x. x) k)
    fixed k low = one_vanishes R (at i) (fixed_asserts R (λ x. x)) 11 k low words_and_flags.0

    -- ---- the row's block, and its words

    pub held : HoldsCompression R (at i)
    held = sound (at i) domain big parts.0

    abbrev block : Block
    block = held.0

    abbrev pub left_words : List ℕ
    left_words = numbered block.message 0 8

    abbrev pub right_words : List ℕ
    right_words = numbered block.message 8 8

    abbrev pub output_words : List ℕ
    output_words = first_words (compress block)

    message_small : (k n : ℕ) → k + n ≤ 16 → All (λ w. w < 2 ^ 32) (numbered block.message k n)
    message_small k n le =
        all_words (λ w. w < 2 ^ 32) (numbered block.message k n)
        (λ j low.
        let below : j < n = subst (λ m. j < m) (numbered_length block.message k n) low in
        subst (λ w. w < 2 ^ 32) (sym (numbered_at block.message k n j below))
        (bits-lt R (at i) (message_column (k + j)) (block.message (k + j)) (held.1.message (k + j) (omega (arith, below, le)))))

    pub left_is : IsDigest left_words
    left_is = record { count = refl; small = message_small 0 8 (omega arith) }

    pub right_is : IsDigest right_words
    right_is = record { count = refl; small = message_small 8 8 (omega arith) }

    pub output_is : IsDigest output_words
    output_is = record {
      count = refl;
      small = all_words (λ w. w < 2 ^ 32) output_words
          (λ j low. bits-lt R (at i) (8656 + 32 * j) (slice_index output_words j) (output_word R (at i) (compress block) held.2 j low));
    }

    -- ---- the words that are the same on each row

    fixed_word : (k : ℕ) → k < 11 → (n : ℕ) → IsBitsOf R (at i) (bits_at (slice_index fixed_columns k)) n
        → n ≡ slice_index fixed_words k
    unfolding fixed_asserts
    fixed_word k low n bits =
        let both = fixed k low in
        is_constant R (at i) (slice_index fixed_columns k) n bits p has (omega (arith, big)) (slice_index fixed_words k) (small_at fixed_words fixed_small k)
        (equal R (at i) (packed_bits R (slice_index fixed_columns k) 16) (number R (slice_index fixed_words k % 2 ^ 16)) (both.0, tt))
        (equal R (at i) (packed_bits R (slice_index fixed_columns k + 16) 16) (number R (slice_index fixed_words k / 2 ^ 16)) (both.1.0, tt))

    chaining : (j : ℕ) → j < 8 → block.chaining j ≡ slice_index start_words j
    chaining zero low = fixed_word 0 (omega arith) (block.chaining 0) (held.1.chaining_low 0 (omega arith))
    chaining (suc zero) low = fixed_word 1 (omega arith) (block.chaining 1) (held.1.chaining_low 1 (omega arith))
    chaining (suc (suc zero)) low = fixed_word 2 (omega arith) (block.chaining 2) (held.1.chaining_low 2 (omega arith))
    chaining (suc (suc (suc zero))) low = fixed_word 3 (omega arith) (block.chaining 3) (held.1.chaining_low 3 (omega arith))
    chaining (suc (suc (suc (suc zero)))) low = fixed_word 4 (omega arith) (block.chaining 4) held.1.chaining_4
    chaining (suc (suc (suc (suc (suc zero))))) low = fixed_word 5 (omega arith) (block.chaining 5) held.1.chaining_5
    chaining (suc (suc (suc (suc (suc (suc zero)))))) low = fixed_word 6 (omega arith) (block.chaining 6) held.1.chaining_6
    chaining (suc (suc (suc (suc (suc (suc (suc zero))))))) low = fixed_word 7 (omega arith) (block.chaining 7) held.1.chaining_7
    chaining (suc (suc (suc (suc (suc (suc (suc (suc j)))))))) low = absurd (omega (arith, low))

    -- the output is the node above the two children, if these are the flags
    node_above : (flags : ℕ) → block.flags ≡ flags → output_words ≡ node_of flags left_words right_words
    node_above flags is =
        is_node block flags chaining (fixed_word 8 (omega arith) block.counter_low held.1.counter_low)
        (fixed_word 9 (omega arith) block.counter_high held.1.counter_high)
        (fixed_word 10 (omega arith) block.length held.1.length) is

    flags_are : (flags : ℕ) → flags < 2 ^ 16 → R.add (image R 4) (R.mul (image R 8) (value_at R t i last_row)) ≡ image R flags → block.flags ≡ flags
    unfolding flags_asserts
    flags_are flags small is =
        let low : flags % 2 ^ 16 ≡ flags = omega (arith, small) in
        let high : flags / 2 ^ 16 ≡ 0 = omega (arith, small) in
        let both = words_and_flags.1 in
        is_constant R (at i) flags_column block.flags held.1.flags p has (omega (arith, big)) flags (omega (arith, small))
        (equal R (at i) (packed_bits R flags_column 16) (number R 4 ⊕ number R 8 ⊙ last_row) (both.0, tt) ∙ (is ∙ ap (image R) (sym low)))
        (equal R (at i) (packed_bits R (flags_column + 16) 16) (number R 0) (both.1.0, tt) ∙ ap (image R) (sym high))

    -- on the last row it is the root, on the others it isn't
    pub root_above : suc i ≡ height t → output_words ≡ node_of 12 left_words right_words
    root_above e = node_above 12 (flags_are 12 (omega arith) (root_flags R (value_at R t i last_row) (on_last R t i e)))

    pub parent_above : suc i < height t → output_words ≡ node_of 4 left_words right_words
    parent_above more = node_above 4 (flags_are 4 (omega arith) (parent_flags R (value_at R t i last_row) (before_last R t i more)))

    -- ---- the node of the row

    child_limb : (k : ℕ) → k < 16 → value_at R t i (current (node_column + k)) ≡ value_at R t i (left_limb R k ⊕ current side_column ⊙ (right_limb R k ⊖ left_limb R k))
    unfolding limb_asserts
    child_limb k low =
        equal R (at i) (current (node_column + k)) (left_limb R k ⊕ current side_column ⊙ (right_limb R k ⊖ left_limb R k)) ((limb k low).0, tt)

    pub is_left : value_at R t i (current side_column) ≡ R.zero → HoldWords R (nth_row t.main_trace.rows i) node_column left_words
    is_left side =
        limbs_hold R (at i) (nth_row t.main_trace.rows i) node_column 0 block.message
        (λ k low.
        let columns : 16 * k ≡ 0 + 16 * k = omega arith in
        child_limb k low
        ∙ (left_child R (value_at R t i (left_limb R k)) (value_at R t i (right_limb R k)) (value_at R t i (current side_column)) side
        ∙ ap (λ c. value_at R t i (packed_bits R c 16)) columns))
        (λ j low.
        let columns : message_column j ≡ 0 + 32 * j = omega arith in
        subst (λ c. IsBitsOf R (at i) (bits_at c) (block.message j)) columns (held.1.message j (omega (arith, low))))

    pub is_right : value_at R t i (current side_column) ≡ R.one → HoldWords R (nth_row t.main_trace.rows i) node_column right_words
    is_right side =
        limbs_hold R (at i) (nth_row t.main_trace.rows i) node_column 256 (λ j. block.message (8 + j))
        (λ k low. child_limb k low ∙ right_child R (value_at R t i (left_limb R k)) (value_at R t i (right_limb R k)) (value_at R t i (current side_column)) side)
        (λ j low.
        let columns : message_column (8 + j) ≡ 256 + 32 * j = omega arith in
        subst (λ c. IsBitsOf R (at i) (bits_at c) (block.message (8 + j))) columns (held.1.message (8 + j) (omega (arith, low))))

    -- ---- the output is the next row's node, and the root after the last row

    output_limbs : (values : List F) (first : ℕ) → ((k : ℕ) → k < 16 → slice_index_or values (first + k) R.zero ≡ value_at R t i (output_limb R k))
        → HoldWords R values first output_words
    output_limbs values first limbs = limbs_hold R (at i) values first 8656 (slice_index output_words) limbs (output_word R (at i) (compress block) held.2)

    pub next_node : suc i < height t → HoldWords R (nth_row t.main_trace.rows (suc i)) node_column output_words
    unfolding limb_asserts
    next_node more =
        output_limbs (nth_row t.main_trace.rows (suc i)) node_column
        (λ k low. sym (next_row R t i (node_column + k) more)
        ∙ equal R (at i) (next (node_column + k)) (output_limb R k)
        (condition_holds R (at i) transition (next (node_column + k) ≐ output_limb R k) (on_transition R t i more) ((limb k low).1.1.0, tt)))

    pub public_root : suc i ≡ height t → HoldWords R t.public_values 16 output_words
    unfolding limb_asserts
    public_root e =
        output_limbs t.public_values 16
        (λ k low. equal R (at i) (public (16 + k)) (output_limb R k)
        (condition_holds R (at i) last_row (public (16 + k) ≐ output_limb R k) (on_last R t i e) ((limb k low).1.1.1.0, tt)))

    -- ---- the index

    pub next_index : suc i < height t → value_at R t i (current index_column) ≡ value_at R t i (current side_column ⊕ double (next index_column))
    unfolding index_asserts
    next_index more =
        equal R (at i) (current index_column) (current side_column ⊕ double (next index_column))
        (condition_holds R (at i) transition (current index_column ≐ current side_column ⊕ double (next index_column)) (on_transition R t i more) (index_and_more.0.1.1.0, tt))

    pub last_index : suc i ≡ height t → value_at R t i (current index_column) ≡ value_at R t i (current side_column)
    unfolding index_asserts
    last_index e =
        equal R (at i) (current index_column) (current side_column)
        (condition_holds R (at i) last_row (current index_column ≐ current side_column) (on_last R t i e) (index_and_more.0.1.1.1.0, tt))

  -- ---- the first row, and the bits

  pub side_bit : (i : ℕ) → i < height t → (value_at R t i (current side_column) ≡ R.zero) ⊎ (value_at R t i (current side_column) ≡ R.one)
  unfolding index_asserts
  side_bit i lt = is_bit R t domain (current side_column) (λ k low. ((index_and_more k low).0.0, tt)) i lt

  pub public_leaf : 0 < height t → (k : ℕ) → k < 16 → value_at R t 0 (public k) ≡ value_at R t 0 (current (node_column + k))
  unfolding limb_asserts
  public_leaf some k low =
      equal R (at 0) (public k) (current (node_column + k))
      (condition_holds R (at 0) first_row (public k ≐ current (node_column + k)) (on_first R t) ((limb 0 some k low).1.0, tt))

  pub public_index : 0 < height t → value_at R t 0 (public 32) ≡ value_at R t 0 (current index_column)
  unfolding index_asserts
  public_index some =
      equal R (at 0) (public 32) (current index_column)
      (condition_holds R (at 0) first_row (public 32 ≐ current index_column) (on_first R t) ((index_and_more 0 some).0.1.0, tt))
