-- The digits of a word.
use Rattle.std.specs.Prelude.{◌≡◌, ℕ, zero, suc, refl, ◌/◌, ◌%◌, ◌^◌, ◌<◌, List, length, map}
use Rattle.std.proofs.Common.{ap, arith}
use Rattle.std.proofs.Math.Nat.{pow-suc}
use Rattle.air_field.specs.Ring.{CommRing, image, self_algebra}
use Rattle.air_field.specs.Term.{Leaf, Term}
use Rattle.air_field.specs.Value.{value}
use Rattle.air_gadgets.specs.Bits.{AreBits, digits_of}
use Rattle.air_gadgets.specs.Words.{Limbs, number_of}
use Rattle.air_blake3.specs.Holding.{IsLimbsOf, IsBitsOf}
use Rattle.air_blake3.specs.Values.{bit_values}

digits-bits : (k n : ℕ) → AreBits (digits_of 2 k n)
digits-bits zero n = tt
digits-bits (suc k) n = (omega arith, digits-bits k (n / 2))

digits-length : (k n : ℕ) → length (digits_of 2 k n) ≡ k
digits-length zero n = refl
digits-length (suc k) n = ap suc (digits-length k (n / 2))

digits-number : (k n : ℕ) → n < 2 ^ k → number_of (digits_of 2 k n) ≡ n
digits-number zero n h = omega arith
digits-number (suc k) n h =
    let rest = digits-number k (n / 2) (omega (arith, pow-suc 2 k)) in
    omega (arith, rest)

module _ {F : Type 0} (R : CommRing F) (s : Leaf → F) where
  -- the values of the terms are the limbs of a word, or its bits
  pub limbs_hold : (t : Limbs (Term F)) (n : ℕ) → n < 2 ^ 32 → value (self_algebra R) s t.low ≡ image R (n % 2 ^ 16) → value (self_algebra R) s t.high ≡ image R (n / 2 ^ 16)
      → IsLimbsOf R s t n
  limbs_hold t n fits low high = record {
    limbs = record { low = n % 2 ^ 16; high = n / 2 ^ 16 };
    small = (omega arith, omega arith);
    values = (low, high);
    number = omega arith;
  }

  pub bits_hold : (ts : List (Term F)) (n : ℕ) → n < 2 ^ 32 → map (value (self_algebra R) s) ts ≡ bit_values R n → IsBitsOf R s ts n
  bits_hold ts n fits e = record {
    bits = digits_of 2 32 n;
    are = digits-bits 32 n;
    count = digits-length 32 n;
    values = e;
    number = digits-number 32 n fits;
  }
