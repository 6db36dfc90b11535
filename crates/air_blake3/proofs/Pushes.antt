-- Lists that are pushed one after another.
use Rattle.std.proofs.Common.{◌≡◌, ◌+◌, ◌/◌, ◌%◌, ℕ, suc, List, [], ◌∷◌, ◌++◌, map, Result, Ok, Err, OnOk, sym, ◌∙◌, ap, append_assoc, arith}
use Rattle.std.proofs.lemmas.List.{append-nil}
use Rattle.air_field.specs.Ring.{CommRing, image}
use Rattle.air_author.specs.Constraints.{asserts_of_first}
use Rattle.air_gadgets.specs.Bits.{digits_of}

module _ {F : Type 0} (R : CommRing F) where
  -- the list so far and the remaining bits
  abbrev pub with_bits : List F → ℕ → ℕ → List F
  with_bits xs k n = xs ++ map (image R) (digits_of 2 k n)

  -- one more bit is pushed
  pub bit_pushed : (xs : List F) (k j n : ℕ) → k ≡ suc j → with_bits (xs ++ image R (n % 2) ∷ []) j (n / 2) ≡ with_bits xs k n
  bit_pushed xs k j n e = append_assoc xs (image R (n % 2) ∷ []) (map (image R) (digits_of 2 j (n / 2))) ∙ ap (λ i. with_bits xs i n) (sym e)

  pub bits_done : (xs : List F) (k n : ℕ) → k ≡ 0 → with_bits xs k n ≡ xs
  bits_done xs k n e = ap (λ i. with_bits xs i n) e ∙ append-nil xs

pub on_ok : {A E : Type 0} (r : Result A E) {P Q : Type 0} → (P → Q) → OnOk r P → OnOk r Q
on_ok (Ok x) f h = f h
on_ok (Err e) f h = tt

-- a fact that holds in any case
pub on_any : {A E : Type 0} (r : Result A E) {P : Type 0} → P → OnOk r P
on_any (Ok x) h = h
on_any (Err e) h = tt

module _ {A : Type 0} (xs a b c d : List A) where
  pub joined_3 : ((xs ++ a) ++ b) ++ c ≡ xs ++ ((a ++ b) ++ c)
  joined_3 = ap (λ l. l ++ c) (append_assoc xs a b) ∙ append_assoc xs (a ++ b) c

  pub joined_4 : (((xs ++ a) ++ b) ++ c) ++ d ≡ xs ++ (((a ++ b) ++ c) ++ d)
  joined_4 = ap (λ l. l ++ d) joined_3 ∙ append_assoc xs ((a ++ b) ++ c) d

  pub pushed_4 : (ys zs ws vs : List A) → ys ≡ xs ++ a → zs ≡ ys ++ b → ws ≡ zs ++ c → vs ≡ ws ++ d → vs ≡ xs ++ (((a ++ b) ++ c) ++ d)
  pushed_4 ys zs ws vs p q r s =
      s ∙ ap (λ l. l ++ d) (r ∙ ap (λ l. l ++ c) (q ∙ ap (λ l. l ++ b) p)) ∙ joined_4

-- the first n numbered lists and one more
pub first_more : {A : Type 0} (f : ℕ → List A) (old xs : List A) (n : ℕ) → xs ≡ old ++ asserts_of_first f n → xs ++ f n ≡ old ++ asserts_of_first f (n + 1)
first_more f old xs n e =
    let s : suc n ≡ n + 1 = omega arith in
    ap (λ ys. ys ++ f n) e ∙ append_assoc old (asserts_of_first f n) (f n) ∙ ap (λ k. old ++ asserts_of_first f k) s

pub first_none : {A : Type 0} (f : ℕ → List A) (old : List A) → old ≡ old ++ asserts_of_first f 0
first_none f old = sym (append-nil old)
