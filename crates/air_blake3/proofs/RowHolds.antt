-- The row of a block holds its input, its states and its output; so it satisfies all constraints.
use Rattle.std.specs.Prelude.{◌≡◌, ℕ, refl, ◌+◌, ◌*◌, ◌^◌, ◌<◌, List, ◌++◌, length}
use Rattle.std.proofs.Common.{sym, subst, arith}
use Rattle.air_field.specs.Assignment.{RowValues}
use Rattle.air_field.specs.Ring.{CommRing}
use Rattle.air_author.specs.Constraints.{asserts_of_first}
use Rattle.air_field.specs.Domain.{IsDomain}
use Rattle.blake3.specs.Compression.{Block, columns_mixed, diagonals, place_in, first_state, after_rounds, compress}
use Rattle.blake3.specs.Blocks.{columns_half}
use Rattle.blake3.specs.Sizes.{AreStateWords, AreBlockWords}
use Rattle.blake3.specs.laws.Sizes.{mixed_state, diagonal_state, rounds_words, first_state_words, outputs_words}
use Rattle.blake3.specs.declared.words.State.{State}
use Rattle.air_blake3.specs.Words.{bits_at, state_of}
use Rattle.air_blake3.specs.Row.{state_from, round_column, before_round}
use Rattle.air_blake3.specs.Holding.{IsBitsOf, IsStateOf, IsInput, IsOutput, HoldsStates, HoldsRow, CompressionIsComplete}
use Rattle.air_blake3.specs.Values.{bit_values, state_values, round_values, four_bits, output_values, input_values, block_row, IsCompressionRow}
use Rattle.air_blake3.proofs.Standing.{Stands, holder, stands_itself, two_stand, first_stands, bits_stand, state_stands, columns_of_round, round_stands, four_stand, length-state, length-four, length-two, length-round, length-first}

module _ {F : Type 0} (R : CommRing F) (row : List F) (beside : RowValues F) (b : Block) (words : AreBlockWords b) where
  input_holds : Stands R row 0 (input_values R b) → IsInput R (holder R row beside) b × IsStateOf R (holder R row beside) (state_of (before_round 0)) (first_state b)
  unfolding input_values
  input_holds h =
      let s = holder R row beside in
      let x = first_state b in
      let l0 = asserts_of_first (λ i. bit_values R (b.message i)) 16 in
      let l1 = asserts_of_first (λ i. bit_values R (b.chaining i)) 4 in
      let n0 : length l0 ≡ 512 = length-first (λ i. bit_values R (b.message i)) 32 (λ i. refl) 16 in
      let n1 : length (l0 ++ l1) ≡ 640 = length-two l0 l1 512 128 n0 (length-first (λ i. bit_values R (b.chaining i)) 32 (λ i. refl) 4) in
      let p2 = two_stand R row 0 640 (l0 ++ l1) (state_values R (diagonals x)) n1 h in
      let p1 = two_stand R row 0 512 l0 l1 n0 p2.0 in
      let stored = state_stands R row beside 640 (diagonals x) (diagonal_state x (first_state_words b words)) p2.1 in
      let first : IsStateOf R s (state_of (before_round 0)) x = record {
        q0 = record { a = stored.q0.a; b = stored.q3.b; c = stored.q2.c; d = stored.q1.d };
        q1 = record { a = stored.q1.a; b = stored.q0.b; c = stored.q3.c; d = stored.q2.d };
        q2 = record { a = stored.q2.a; b = stored.q1.b; c = stored.q0.c; d = stored.q3.d };
        q3 = record { a = stored.q3.a; b = stored.q2.b; c = stored.q1.c; d = stored.q0.d };
      } in (
        record {
          message = λ i l.
              let e : 0 + 32 * i ≡ 32 * i = omega arith in
              subst (λ n. IsBitsOf R s (bits_at n) (b.message i)) e (bits_stand R row beside (0 + 32 * i) (b.message i) (words.message i) (first_stands R row (λ k. bit_values R (b.message k)) 32 (λ k. refl) 0 16 p1.0 i l));
          chaining_low = λ i l. bits_stand R row beside (512 + 32 * i) (b.chaining i) (words.chaining i) (first_stands R row (λ k. bit_values R (b.chaining k)) 32 (λ k. refl) 512 4 p1.1 i l);
          chaining_4 = first.q0.b;
          chaining_5 = first.q1.b;
          chaining_6 = first.q2.b;
          chaining_7 = first.q3.b;
          counter_low = first.q0.d;
          counter_high = first.q1.d;
          length = first.q2.d;
          flags = first.q3.d;
        },
        first,
      )

  states_hold : (r : ℕ) → Stands R row (912 + 1088 * r) (round_values R (after_rounds (first_state b) b.message r) (λ i. b.message (place_in r i)))
      → HoldsStates R (holder R row beside) b r (λ i. b.message (place_in r i))
  states_hold r h =
      let s = holder R row beside in
      let v = after_rounds (first_state b) b.message r in
      let m = λ (i : ℕ). b.message (place_in r i) in
      let n = 912 + 1088 * r in
      let v_words : AreStateWords v = rounds_words (first_state b) b.message (first_state_words b words) r in
      let parts = round_stands R row beside n v m h in
      let w = columns_mixed v m in
      let one = columns_of_round R row beside n v m v_words parts.0 in
      let two = columns_of_round R row beside (n + 544) (diagonals w) (λ i. m (8 + i)) (diagonal_state w (mixed_state v m v_words)) parts.1 in
      let e0 : n ≡ round_column r + 272 = omega arith in
      let e1 : n + 272 ≡ round_column r + 544 = omega arith in
      let e2 : n + 544 ≡ round_column r + 816 = omega arith in
      let e3 : n + 544 + 272 ≡ round_column r + 1088 = omega arith in
      record {
        columns_middle = subst (λ k. IsStateOf R s (state_of (state_from k)) (columns_half v m)) e0 one.0;
        columns = subst (λ k. IsStateOf R s (state_of (state_from k)) w) e1 one.1;
        diagonals_middle = subst (λ k. IsStateOf R s (state_of (state_from k)) (columns_half (diagonals w) (λ i. m (8 + i)))) e2 two.0;
        diagonals_after = subst (λ k. IsStateOf R s (state_of (state_from k)) (columns_mixed (diagonals w) (λ i. m (8 + i)))) e3 two.1;
      }

  output_holds : (o : State) → AreStateWords o → Stands R row 8656 (output_values R o) → IsOutput R (holder R row beside) o
  unfolding output_values
  output_holds o h stand =
      let l5 = four_bits R o.q0.a o.q1.a o.q2.a o.q3.a in
      let l6 = four_bits R o.q0.b o.q1.b o.q2.b o.q3.b in
      let l7 = four_bits R o.q0.c o.q1.c o.q2.c o.q3.c in
      let l8 = four_bits R o.q0.d o.q1.d o.q2.d o.q3.d in
      let n5 = length-four R o.q0.a o.q1.a o.q2.a o.q3.a in
      let n6 = length-two l5 l6 128 128 n5 (length-four R o.q0.b o.q1.b o.q2.b o.q3.b) in
      let n7 = length-two (l5 ++ l6) l7 256 128 n6 (length-four R o.q0.c o.q1.c o.q2.c o.q3.c) in
      let p8 = two_stand R row 8656 384 ((l5 ++ l6) ++ l7) l8 n7 stand in
      let p7 = two_stand R row 8656 256 (l5 ++ l6) l7 n6 p8.0 in
      let p6 = two_stand R row 8656 128 l5 l6 n5 p7.0 in
      let f5 = four_stand R row beside 8656 o.q0.a o.q1.a o.q2.a o.q3.a h.q0.a h.q1.a h.q2.a h.q3.a p6.0 in
      let f6 = four_stand R row beside 8784 o.q0.b o.q1.b o.q2.b o.q3.b h.q0.b h.q1.b h.q2.b h.q3.b p6.1 in
      let f7 = four_stand R row beside 8912 o.q0.c o.q1.c o.q2.c o.q3.c h.q0.c h.q1.c h.q2.c h.q3.c p7.1 in
      let f8 = four_stand R row beside 9040 o.q0.d o.q1.d o.q2.d o.q3.d h.q0.d h.q1.d h.q2.d h.q3.d p8.1 in
      record {
        q0 = record { a = f5.0; b = f6.0; c = f7.0; d = f8.0 };
        q1 = record { a = f5.1; b = f6.1; c = f7.1; d = f8.1 };
        q2 = record { a = f5.2; b = f6.2; c = f7.2; d = f8.2 };
        q3 = record { a = f5.3; b = f6.3; c = f7.3; d = f8.3 };
      }

length-input : {F : Type 0} (R : CommRing F) (b : Block) → length (input_values R b) ≡ 912
unfolding input_values
length-input R b =
    let l0 = asserts_of_first (λ i. bit_values R (b.message i)) 16 in
    let l1 = asserts_of_first (λ i. bit_values R (b.chaining i)) 4 in
    length-two (l0 ++ l1) _ 640 272 (length-two l0 l1 512 128 (length-first (λ i. bit_values R (b.message i)) 32 (λ i. refl) 16) (length-first (λ i. bit_values R (b.chaining i)) 32 (λ i. refl) 4))
    (length-state R (diagonals (first_state b)))

length-output : {F : Type 0} (R : CommRing F) (o : State) → length (output_values R o) ≡ 512
unfolding output_values
length-output R o =
    let n5 = length-four R o.q0.a o.q1.a o.q2.a o.q3.a in
    let n6 = length-two _ _ 128 128 n5 (length-four R o.q0.b o.q1.b o.q2.b o.q3.b) in
    let n7 = length-two _ _ 256 128 n6 (length-four R o.q0.c o.q1.c o.q2.c o.q3.c) in
    length-two _ _ 384 128 n7 (length-four R o.q0.d o.q1.d o.q2.d o.q3.d)

pub length-block_row : {F : Type 0} (R : CommRing F) (b : Block) → length (block_row R b) ≡ 9168
unfolding block_row
length-block_row R b =
    let x = first_state b in
    let v = after_rounds x b.message 7 in
    let f = λ (r : ℕ). round_values R (after_rounds x b.message r) (λ i. b.message (place_in r i)) in
    let lengths = λ (r : ℕ). length-round R (after_rounds x b.message r) (λ i. b.message (place_in r i)) in
    let n1 = length-two _ _ 912 7616 (length-input R b) (length-first f 1088 lengths 7) in
    let n2 = length-two _ _ 8528 128 n1 (length-four R v.q0.c v.q1.c v.q2.c v.q3.c) in
    length-two _ _ 8656 512 n2 (length-output R (compress b))

module _ {F : Type 0} (R : CommRing F) (beside : RowValues F) (b : Block) (words : AreBlockWords b) where
  row_holds : HoldsRow R (holder R (block_row R b) beside) b
  unfolding block_row
  row_holds =
      let row = block_row R b in
      let x = first_state b in
      let v = after_rounds x b.message 7 in
      let start = first_state_words b words in
      let last = rounds_words x b.message start 7 in
      let f = λ (r : ℕ). round_values R (after_rounds x b.message r) (λ i. b.message (place_in r i)) in
      let lengths = λ (r : ℕ). length-round R (after_rounds x b.message r) (λ i. b.message (place_in r i)) in
      let l0 = input_values R b in
      let l1 = asserts_of_first f 7 in
      let l2 = four_bits R v.q0.c v.q1.c v.q2.c v.q3.c in
      let n0 = length-input R b in
      let n1 : length (l0 ++ l1) ≡ 8528 = length-two l0 l1 912 7616 n0 (length-first f 1088 lengths 7) in
      let n2 : length ((l0 ++ l1) ++ l2) ≡ 8656 = length-two (l0 ++ l1) l2 8528 128 n1 (length-four R v.q0.c v.q1.c v.q2.c v.q3.c) in
      let p3 = two_stand R row 0 8656 ((l0 ++ l1) ++ l2) (output_values R (compress b)) n2 (stands_itself R row) in
      let p2 = two_stand R row 0 8528 (l0 ++ l1) l2 n1 p3.0 in
      let p1 = two_stand R row 0 912 l0 l1 n0 p2.0 in
      let input = input_holds R row beside b words p1.0 in
      let f4 = four_stand R row beside 8528 v.q0.c v.q1.c v.q2.c v.q3.c last.q0.c last.q1.c last.q2.c last.q3.c p2.1 in
      record {
        input = input.0;
        first = input.1;
        rounds = λ r l. states_hold R row beside b words r (first_stands R row f 1088 lengths 912 7 p1.1 r l);
        last_0 = f4.0;
        last_1 = f4.1;
        last_2 = f4.2;
        last_3 = f4.3;
        output = output_holds R row beside b words (compress b) (outputs_words v b.chaining last words.chaining) p3.1;
      }

-- the row of a block satisfies all constraints
pub block_row_holds : {F : Type 0} (R : CommRing F) (none : F) (p : ℕ) → none ≡ R.zero → IsDomain R → CompressionIsComplete R p
    → (b : Block) → AreBlockWords b → 3 * 2 ^ 16 < p → IsCompressionRow R none (block_row R b)
block_row_holds R none p is domain complete b words big =
    subst (λ z. IsCompressionRow R z (block_row R b)) (sym is)
    (λ beside. complete (holder R (block_row R b) beside) b domain big (row_holds R beside b words))
