-- The sizes of the buckets.
use Rattle.std.proofs.Common.{◌≡◌, ℕ, zero, suc, List, [], ◌∷◌, length, get_or, ◌+◌, ◌-◌, ◌*◌, ◌^◌, ◌<◌, ◌≤◌, ap, sym, ◌∙◌, arith, pow_mono, pow-add, pow-suc, lt_of_not-le}
use Rattle.boxcar.specs.Slot.{Named}
use Rattle.air_tape.specs.Tapes.{span, IsAt, id_at}

pub span_small : (k : ℕ) → k < 58 → 2 ^ k ≤ 144115188075855872
span_small k h = let le : k ≤ 57 = omega arith in pow_mono le

module _ (n top : ℕ) (low : 2 ^ top ≤ n) (high : n < 2 * 2 ^ top) where
  pub top_above : 32 ≤ n → 5 ≤ top
  top_above h = lt_of_not-le (λ (le : top ≤ 4). let p : 2 ^ top ≤ 16 = pow_mono le in omega arith)

  pub top_below : n < 9223372036854775808 → top < 63
  top_below h = lt_of_not-le (λ (le : 63 ≤ top). let p : 9223372036854775808 ≤ 2 ^ top = pow_mono le in omega arith)

pub span_top : (top : ℕ) → 5 ≤ top → span (top - 5) ≡ 2 ^ top
span_top top h = let e : 5 + (top - 5) ≡ top = omega arith in sym (pow-add 2 5 (top - 5)) ∙ ap (λ (k : ℕ). 2 ^ k) e

below : (index k j l i : ℕ) → IsAt index k j → IsAt index l i → ¬ (k < l)
below index k j l i a b lt = let p : 2 ^ suc k ≤ 2 ^ l = pow_mono lt in let q : 2 ^ suc k ≡ 2 ^ k * 2 = pow-suc 2 k in let a₁ = a.1 in let a₂ = a.2 in let b₂ = b.2 in omega arith

pub one_bucket : (index k j l i : ℕ) → IsAt index k j → IsAt index l i → k ≡ l
one_bucket index k j l i a b = let p = below index k j l i a b in let q = below index l i k j b a in omega arith

pub one_slot : (index k j l i : ℕ) → IsAt index k j → IsAt index l i → j ≡ i
one_slot index k j l i a b = let e : span k ≡ span l = ap span (one_bucket index k j l i a b) in let a₂ = a.2 in let b₂ = b.2 in omega arith

pub id_is : (xs : List Named) (i : ℕ) (x : Named) → i < length xs → x ≡ get_or xs i x → id_at xs i ≡ x.id
id_is [] i x near e = absurd (omega arith)
id_is (y ∷ ys) zero x near e = ap (λ (u : Named). u.id) (sym e)
id_is (y ∷ ys) (suc i) x near e = id_is ys i x (omega arith) e
