-- Base parts, computed from coefficient lists.
use Rattle.std.specs.Prelude.{◌≡◌, ℕ, zero, suc, ◌-◌, Bool, true, false, ◌&&◌, cond, List, [], ◌∷◌, length, replicate, Some, None, refl, ◌↔◌}
use Rattle.std.proofs.Common.{◌∙◌, ap, ap₂, arith}
use Rattle.air_field.specs.Ring.{CommRing}
use Rattle.air_field.specs.BaseParts.{all_zero, base_part}

module _ {F : Type 0} (r : CommRing F) (eq : F → F → Bool) (decides : (x y : F) → (eq x y ≡ true) ↔ (x ≡ y)) where
  all_zero-replicate : (n : ℕ) → all_zero r eq (replicate n r.zero) ≡ true
  all_zero-replicate zero = refl
  all_zero-replicate (suc n) = ap₂ (λ x y. x && y) ((decides r.zero r.zero).1 refl) (all_zero-replicate n)

  all_zero-is : (xs : List F) → all_zero r eq xs ≡ true → xs ≡ replicate (length xs) r.zero
  all_zero-is [] h = refl
  all_zero-is (x ∷ xs) h = go (all_zero-is xs) (eq x r.zero) refl h
    where
      go : (all_zero r eq xs ≡ true → xs ≡ replicate (length xs) r.zero) → (b : Bool) → eq x r.zero ≡ b → b && all_zero r eq xs ≡ true
          → x ∷ xs ≡ r.zero ∷ replicate (length xs) r.zero
      go rest true e k = ap₂ (λ y ys. y ∷ ys) ((decides x r.zero).0 e) (rest k)
      go rest false e k = cc

  -- the base part of an element followed by zeros
  pub part-of : (c : F) (n : ℕ) → base_part r eq (c ∷ replicate n r.zero) ≡ Some c
  part-of c n = ap (λ b. cond b (Some c) None) (all_zero-replicate n)

  -- a list with a base part is that element followed by zeros
  pub part-is : (xs : List F) (c : F) → base_part r eq xs ≡ Some c → xs ≡ c ∷ replicate (length xs - 1) r.zero
  part-is [] c h = cc
  part-is (x ∷ xs) c h = go (all_zero r eq xs) refl h
    where
      go : (b : Bool) → all_zero r eq xs ≡ b → cond b (Some x) None ≡ Some c → x ∷ xs ≡ c ∷ replicate (length (x ∷ xs) - 1) r.zero
      go true e k =
          let s : x ≡ c = cc in
          let count : length xs ≡ length (x ∷ xs) - 1 = omega arith in
          ap₂ (λ y ys. y ∷ ys) s (all_zero-is xs e ∙ ap (λ n. replicate n r.zero) count)
      go false e k = cc
