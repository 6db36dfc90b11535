-- The compression of a node's block.
use Rattle.std.specs.Prelude.{◌/◌, ◌%◌, ◌==◌, ◌*◌, if◌then◌else◌, slice_index}
use Rattle.std.specs.List.{All}
use Rattle.std.proofs.Common.{◌≡◌, ◌<◌, ◌+◌, ℕ, zero, suc, List, [], ◌∷◌, ◌++◌, length, refl, sym, ◌∙◌, ap, arith}
use Rattle.blake3.specs.Blocks.{block_of}
use Rattle.blake3.specs.Compression.{Block, after_rounds, columns_mixed, compress, diagonals, first_state, from_diagonals, mix, output_column, place_in, round}
use Rattle.blake3.specs.Hashing.{first_words, start_words}
use Rattle.blake3.specs.laws.Places.{place_in-below}
use Rattle.blake3.specs.declared.words.State.{State}
use Rattle.air_blake3_path.specs.Tree.{node_flags, node_of, root_of}

-- ---- equal blocks have equal outputs

columns_same : (v : State) (m n : ℕ → ℕ) → ((i : ℕ) → i < 8 → m i ≡ n i) → columns_mixed v m ≡ columns_mixed v n
columns_same v m n e =
    let e0 = e 0 (omega arith) in
    let e1 = e 1 (omega arith) in
    let e2 = e 2 (omega arith) in
    let e3 = e 3 (omega arith) in
    let e4 = e 4 (omega arith) in
    let e5 = e 5 (omega arith) in
    let e6 = e 6 (omega arith) in
    let e7 = e 7 (omega arith) in
    λ i. record { q0 = mix v.q0 (e0 i) (e1 i); q1 = mix v.q1 (e2 i) (e3 i); q2 = mix v.q2 (e4 i) (e5 i); q3 = mix v.q3 (e6 i) (e7 i) }

round_same : (v : State) (m n : ℕ → ℕ) → ((i : ℕ) → i < 16 → m i ≡ n i) → round v m ≡ round v n
unfolding round
round_same v m n e =
    ap from_diagonals
    (ap (λ w. columns_mixed (diagonals w) (λ i. m (8 + i))) (columns_same v m n (λ i lt. e i (omega (arith, lt))))
    ∙ columns_same (diagonals (columns_mixed v n)) (λ i. m (8 + i)) (λ i. n (8 + i)) (λ i lt. e (8 + i) (omega (arith, lt))))

rounds_same : (v : State) (m n : ℕ → ℕ) → ((i : ℕ) → i < 16 → m i ≡ n i) → (r : ℕ) → after_rounds v m r ≡ after_rounds v n r
unfolding after_rounds
rounds_same v m n e zero = refl
rounds_same v m n e (suc r) =
    ap (λ w. round w (λ i. m (place_in r i))) (rounds_same v m n e r)
    ∙ round_same (after_rounds v n r) (λ i. m (place_in r i)) (λ i. n (place_in r i)) (λ i lt. e (place_in r i) (place_in-below r i lt))

-- The two blocks have the same words.
pub record SameWords (b c : Block) : Type 0 where
  pub message : (i : ℕ) → i < 16 → b.message i ≡ c.message i
  pub chaining : (i : ℕ) → i < 8 → b.chaining i ≡ c.chaining i
  pub counter_low : b.counter_low ≡ c.counter_low
  pub counter_high : b.counter_high ≡ c.counter_high
  pub length : b.length ≡ c.length
  pub flags : b.flags ≡ c.flags

compress_same : (b c : Block) → SameWords b c → compress b ≡ compress c
compress_same b c e =
    let h0 = e.chaining 0 (omega arith) in
    let h1 = e.chaining 1 (omega arith) in
    let h2 = e.chaining 2 (omega arith) in
    let h3 = e.chaining 3 (omega arith) in
    let h4 = e.chaining 4 (omega arith) in
    let h5 = e.chaining 5 (omega arith) in
    let h6 = e.chaining 6 (omega arith) in
    let h7 = e.chaining 7 (omega arith) in
    let first : first_state b ≡ first_state c =
    λ i. record {
      q0 = record { a = h0 i; b = h4 i; c = 0x6A09E667; d = e.counter_low i };
      q1 = record { a = h1 i; b = h5 i; c = 0xBB67AE85; d = e.counter_high i };
      q2 = record { a = h2 i; b = h6 i; c = 0x3C6EF372; d = e.length i };
      q3 = record { a = h3 i; b = h7 i; c = 0xA54FF53A; d = e.flags i };
    } in
    let last : after_rounds (first_state b) b.message 7 ≡ after_rounds (first_state c) c.message 7 =
    ap (λ v. after_rounds v b.message 7) first ∙ rounds_same (first_state c) b.message c.message e.message 7 in
    λ i. record {
      q0 = output_column (last i).q0 (h0 i) (h4 i);
      q1 = output_column (last i).q1 (h1 i) (h5 i);
      q2 = output_column (last i).q2 (h2 i) (h6 i);
      q3 = output_column (last i).q3 (h3 i) (h7 i);
    }

-- ---- words as lists

-- f k, and the n - 1 words after it
abbrev pub numbered : (ℕ → ℕ) → ℕ → ℕ → List ℕ
numbered f k zero = []
numbered f k (suc n) = f k ∷ numbered f (k + 1) n

pub numbered_at : (f : ℕ → ℕ) (k n i : ℕ) → i < n → slice_index (numbered f k n) i ≡ f (k + i)
numbered_at f k zero i lt = absurd (omega (arith, lt))
numbered_at f k (suc n) zero lt = let e : k ≡ k + 0 = omega arith in ap f e
numbered_at f k (suc n) (suc i) lt =
    let e : k + 1 + i ≡ k + suc i = omega arith in
    numbered_at f (k + 1) n i (omega (arith, lt)) ∙ ap f e

pub first_numbered_at : (f : ℕ → ℕ) (n i : ℕ) → i < n → slice_index (numbered f 0 n) i ≡ f i
first_numbered_at f n i lt = let e : 0 + i ≡ i = omega arith in numbered_at f 0 n i lt ∙ ap f e

pub numbered_length : (f : ℕ → ℕ) (k n : ℕ) → length (numbered f k n) ≡ n
numbered_length f k zero = refl
numbered_length f k (suc n) = ap suc (numbered_length f (k + 1) n)

-- a fact about the words at each index
pub all_words : (P : ℕ → Type 0) (ws : List ℕ) → ((i : ℕ) → i < length ws → P (slice_index ws i)) → All P ws
all_words P [] each i d lt = absurd (omega (arith, lt))
all_words P (w ∷ ws) each zero d lt = each 0 (omega arith)
all_words P (w ∷ ws) each (suc i) d lt = all_words P ws (λ k low. each (suc k) (omega (arith, low))) i d (omega (arith, lt))

-- the output of a block with these words is a node
pub is_node : (b : Block) (flags : ℕ) → ((i : ℕ) → i < 8 → b.chaining i ≡ slice_index start_words i) → b.counter_low ≡ 0 → b.counter_high ≡ 0
    → b.length ≡ 64 → b.flags ≡ flags → first_words (compress b) ≡ node_of flags (numbered b.message 0 8) (numbered b.message 8 8)
is_node b flags chaining low high whole is =
    ap first_words
    (compress_same b (block_of start_words (numbered b.message 0 8 ++ numbered b.message 8 8) (0 ∷ 0 ∷ 64 ∷ flags ∷ []))
    (record { message = λ i lt. sym (first_numbered_at b.message 16 i lt); chaining = chaining; counter_low = low; counter_high = high; length = whole; flags = is }))

-- ---- the way up

pub flags_above : (above : List (List ℕ)) → 0 < length above → node_flags above ≡ 4
flags_above [] some = absurd (omega (arith, some))
flags_above (x ∷ above) some = refl

pub root_left : (node sibling : List ℕ) (above : List (List ℕ)) (index below : ℕ) → below ≡ 2 * index
    → root_of node (sibling ∷ above) below ≡ root_of (node_of (node_flags above) node sibling) above index
root_left node sibling above index below e =
    let side : below % 2 ≡ 0 = omega (arith, e) in
    let up : below / 2 ≡ index = omega (arith, e) in
    λ i. root_of (if side i == 0 then node_of (node_flags above) node sibling else node_of (node_flags above) sibling node) above (up i)

pub root_right : (node sibling : List ℕ) (above : List (List ℕ)) (index below : ℕ) → below ≡ 2 * index + 1
    → root_of node (sibling ∷ above) below ≡ root_of (node_of (node_flags above) sibling node) above index
root_right node sibling above index below e =
    let side : below % 2 ≡ 1 = omega (arith, e) in
    let up : below / 2 ≡ index = omega (arith, e) in
    λ i. root_of (if side i == 0 then node_of (node_flags above) node sibling else node_of (node_flags above) sibling node) above (up i)
