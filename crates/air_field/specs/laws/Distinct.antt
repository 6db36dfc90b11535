-- The elements of a list that have a property that few elements have.
use Rattle.std.specs.Prelude.{◌≡◌, ◌≢◌, ℕ, ◌+◌, ◌<◌, ◌≤◌, List, length, All, Bool, true, false, not, cond, count_by, refl}
use Rattle.std.specs.List.{filter}
use Rattle.std.proofs.Common.{arith, get_or, subst}
use Rattle.std.proofs.lemmas.List.Elements.{All-filter, All-weaker, filter_passes}
use Rattle.std.proofs.lemmas.List.Filters.{length-filter_both}
use Rattle.std.proofs.lemmas.List.Kept.{AllPairs-filter}
use Rattle.std.proofs.lemmas.List.Sums.{length-filter}
use Rattle.air_field.specs.Distinct.{Distinct, AtMost, FewerThan}

pub AtMost-weaker : {A : Type 0} {P Q : A → Type 0} {n : ℕ} → ((x : A) → Q x → P x) → AtMost P n → AtMost Q n
AtMost-weaker {P = P} {Q = Q} f most xs distinct all = most xs distinct (All-weaker Q P f xs all)

module _ {A : Type 0} {P : A → Type 0} (p : A → Bool) (told : (x : A) → p x ≡ true → P x) (xs : List A) (distinct : Distinct xs) where
  kept : All P (filter p xs)
  kept = All-weaker (λ x. p x ≡ true) P told (filter p xs) (filter_passes p xs)

  -- of distinct elements, at most n pass a test of the property
  pub count_at_most : {n : ℕ} → AtMost P n → count_by p xs ≤ n
  count_at_most {n} most = subst (λ k. k ≤ n) (length-filter p xs) (most (filter p xs) (AllPairs-filter (λ x y. x ≢ y) p xs distinct) kept)

  -- of distinct elements, fewer than n pass a test of the property
  pub count_fewer : {n : ℕ} → FewerThan P n → count_by p xs < n
  count_fewer {n} few = subst (λ k. k < n) (length-filter p xs) (few (filter p xs) (AllPairs-filter (λ x y. x ≢ y) p xs distinct) kept)

-- two tests that few elements pass, as one test
either_passes : (b c : Bool) → cond b true c ≡ true → not b ≡ true → c ≡ true
either_passes true c h n = cc
either_passes false c h n = h

pub AtMost-either : {A : Type 0} (p q : A → Bool) {m n : ℕ} → AtMost (λ x. p x ≡ true) m → AtMost (λ x. q x ≡ true) n
    → AtMost (λ x. cond (p x) true (q x) ≡ true) (m + n)
AtMost-either {A} p q first second xs distinct all =
    let fails : A → Bool = λ x. not (p x) in
    let others = filter fails xs in
    let one = first (filter p xs) (AllPairs-filter (λ x y. x ≢ y) p xs distinct) (filter_passes p xs) in
    let rest : All (λ x. q x ≡ true) others = λ k d lt.
    either_passes (p (get_or others k d)) (q (get_or others k d)) (All-filter fails (λ x. cond (p x) true (q x) ≡ true) xs all k d lt) (filter_passes fails xs k d lt) in
    let two = second others (AllPairs-filter (λ x y. x ≢ y) fails xs distinct) rest in
    omega (arith, one, two, length-filter_both p fails (λ x. refl) xs)
