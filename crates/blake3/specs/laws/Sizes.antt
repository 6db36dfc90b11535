-- The results of operations on words below 2^32 are below 2^32.
use Rattle.std.specs.Prelude.{ℕ, zero, suc, ◌+◌, ◌-◌, ◌*◌, ◌/◌, ◌%◌, ◌^◌, ◌<◌}
use Rattle.std.specs.Int.{w32, rotate_right}
use Rattle.std.specs.Int.Bits.{or_lt, xor_lt}
use Rattle.std.proofs.Common.{arith}
use Rattle.std.proofs.lemmas.Nat.{pow_pos, mod_below, shr_le}
use Rattle.blake3.specs.Compression.{Block, half_mix, mix, columns_mixed, diagonals, from_diagonals, round, place_in, first_state, after_rounds, output_column, outputs}
use Rattle.blake3.specs.Blocks.{columns_half}
use Rattle.blake3.specs.Sizes.{AreWords, AreStateWords, AreBlockWords}
use Rattle.blake3.specs.declared.words.Quarter.{Quarter}
use Rattle.blake3.specs.declared.words.State.{State}

rotated-lt : (x k : ℕ) → x < 2 ^ 32 → rotate_right w32 x k < 2 ^ 32
rotated-lt x k h = or_lt 32 (x / 2 ^ (k % 32)) ((x * 2 ^ ((32 - k % 32) % 32)) % 2 ^ 32) (omega (arith, shr_le x (k % 32))) (mod_below _ (2 ^ 32) (pow_pos 32))

half_words : (j k : ℕ) (q : Quarter) (m : ℕ) → AreWords q → AreWords (half_mix j k q m)
half_words j k q m h =
    let a : (half_mix j k q m).a < 2 ^ 32 = mod_below _ (2 ^ 32) (pow_pos 32) in
    let d : (half_mix j k q m).d < 2 ^ 32 = rotated-lt _ j (xor_lt 32 q.d _ h.d a) in
    let c : (half_mix j k q m).c < 2 ^ 32 = mod_below _ (2 ^ 32) (pow_pos 32) in
    record { a = a; b = rotated-lt _ k (xor_lt 32 q.b _ h.b c); c = c; d = d }

mix_words : (q : Quarter) (m n : ℕ) → AreWords q → AreWords (mix q m n)
unfolding mix
mix_words q m n h = half_words 8 7 (half_mix 16 12 q m) n (half_words 16 12 q m h)

pub half_state : (v : State) (m : ℕ → ℕ) → AreStateWords v → AreStateWords (columns_half v m)
half_state v m h = record {
  q0 = half_words 16 12 v.q0 (m 0) h.q0;
  q1 = half_words 16 12 v.q1 (m 2) h.q1;
  q2 = half_words 16 12 v.q2 (m 4) h.q2;
  q3 = half_words 16 12 v.q3 (m 6) h.q3;
}

pub mixed_state : (v : State) (m : ℕ → ℕ) → AreStateWords v → AreStateWords (columns_mixed v m)
mixed_state v m h = record {
  q0 = mix_words v.q0 (m 0) (m 1) h.q0;
  q1 = mix_words v.q1 (m 2) (m 3) h.q1;
  q2 = mix_words v.q2 (m 4) (m 5) h.q2;
  q3 = mix_words v.q3 (m 6) (m 7) h.q3;
}

pub diagonal_state : (v : State) → AreStateWords v → AreStateWords (diagonals v)
diagonal_state v h = record {
  q0 = record { a = h.q0.a; b = h.q1.b; c = h.q2.c; d = h.q3.d };
  q1 = record { a = h.q1.a; b = h.q2.b; c = h.q3.c; d = h.q0.d };
  q2 = record { a = h.q2.a; b = h.q3.b; c = h.q0.c; d = h.q1.d };
  q3 = record { a = h.q3.a; b = h.q0.b; c = h.q1.c; d = h.q2.d };
}

from_diagonal_state : (v : State) → AreStateWords v → AreStateWords (from_diagonals v)
from_diagonal_state v h = record {
  q0 = record { a = h.q0.a; b = h.q3.b; c = h.q2.c; d = h.q1.d };
  q1 = record { a = h.q1.a; b = h.q0.b; c = h.q3.c; d = h.q2.d };
  q2 = record { a = h.q2.a; b = h.q1.b; c = h.q0.c; d = h.q3.d };
  q3 = record { a = h.q3.a; b = h.q2.b; c = h.q1.c; d = h.q0.d };
}

pub rounds_words : (v : State) (m : ℕ → ℕ) → AreStateWords v → (r : ℕ) → AreStateWords (after_rounds v m r)
unfolding after_rounds round
rounds_words v m h zero = h
rounds_words v m h (suc r) =
    let x = after_rounds v m r in
    let n = λ (i : ℕ). m (place_in r i) in
    from_diagonal_state _ (mixed_state (diagonals (columns_mixed x n)) (λ i. n (8 + i)) (diagonal_state (columns_mixed x n) (mixed_state x n (rounds_words v m h r))))

pub first_state_words : (b : Block) → AreBlockWords b → AreStateWords (first_state b)
first_state_words b h = record {
  q0 = record { a = h.chaining 0; b = h.chaining 4; c = omega arith; d = h.counter_low };
  q1 = record { a = h.chaining 1; b = h.chaining 5; c = omega arith; d = h.counter_high };
  q2 = record { a = h.chaining 2; b = h.chaining 6; c = omega arith; d = h.length };
  q3 = record { a = h.chaining 3; b = h.chaining 7; c = omega arith; d = h.flags };
}

output_words : (q : Quarter) (x y : ℕ) → AreWords q → x < 2 ^ 32 → y < 2 ^ 32 → AreWords (output_column q x y)
output_words q x y h hx hy = record {
  a = xor_lt 32 q.c q.a h.c h.a;
  b = xor_lt 32 q.b q.d h.b h.d;
  c = xor_lt 32 q.c x h.c hx;
  d = xor_lt 32 q.d y h.d hy;
}

pub outputs_words : (v : State) (f : ℕ → ℕ) → AreStateWords v → ((i : ℕ) → f i < 2 ^ 32) → AreStateWords (outputs v f)
outputs_words v f h k = record {
  q0 = output_words v.q0 (f 0) (f 4) h.q0 (k 0) (k 4);
  q1 = output_words v.q1 (f 1) (f 5) h.q1 (k 1) (k 5);
  q2 = output_words v.q2 (f 2) (f 6) h.q2 (k 2) (k 6);
  q3 = output_words v.q3 (f 3) (f 7) h.q3 (k 3) (k 7);
}
