-- Names, one expression after another.
use Rattle.std.specs.Prelude.{slice_get}
use Rattle.std.proofs.Common.{◌≡◌, ℕ, zero, suc, ◌+◌, ◌<◌, ◌≤◌, Bool, true, false, ◌&&◌, cond, leb, List, [], ◌∷◌, ◌++◌, length, get_or, map, All, Result, Ok, Err, IfOk, Option, None, Some, is_some, option_map, refl, sym, ap, ap₂, ◌∙◌, arith, ⊎_elim, add-one}
use Rattle.std.specs.Option.{option_to_list}
use Rattle.std.specs.List.{range_with_len}
use Rattle.std.proofs.lemmas.Bool.{cases_lt, le-leb}
use Rattle.std.proofs.lemmas.List.Elements.{All-nil, All-cons, All-append}
use Rattle.std.proofs.lemmas.List.{get_or_past}
use Rattle.std.proofs.lemmas.List.FromFn.{map-range_with_len_more, get_or-map-range_with_len, length-map-range_with_len}
use Rattle.air_symbolic.specs.declared.pools.expr.SymbolicExpr.{SymbolicExpr}
use Rattle.air_print.specs.Names.{passing_below, name_by, is_reached, has_operation, count_of_places, is_named}
use Rattle.air_print.specs.Counts.{places_for, AreCounted, is_more, passes}
use Rattle.air_print.specs.declared.counts.Places.{Places}
use Rattle.air_print.specs.declared.counts.Places.TheVariants.{Nowhere}

-- ---- one more expression

pub named-more : (test : ℕ → Bool) (n : ℕ) (o : Option ℕ) (old new : List ℕ) → o ≡ cond (test n) (Some n) None → old ≡ passing_below test n → new ≡ old ++ option_to_list o → new ≡ passing_below test (n + 1)
named-more test n o old new is h e =
    e ∙ ap₂ (λ xs p. xs ++ option_to_list p) h is ∙ ap (λ xs. passing_below test n ++ xs) (either (test n)) ∙ ap (passing_below test) (sym (add-one n))
  where
    either : (b : Bool) → option_to_list (cond b (Some n) None) ≡ cond b (n ∷ []) []
    either true = refl
    either false = refl

pub names-more : (test : ℕ → Bool) (n : ℕ) (o : Option ℕ) (named : List ℕ) (old new : List (Option ℕ)) → o ≡ cond (test n) (Some n) None → named ≡ passing_below test n → old ≡ map (name_by test) (range_with_len 0 n) → new ≡ old ++ option_map (λ _. length named) o ∷ [] → new ≡ map (name_by test) (range_with_len 0 (n + 1))
names-more test n o named old new is many h e =
    e ∙ ap₂ (λ xs p. xs ++ p ∷ []) h (ap₂ (λ p xs. option_map (λ _. length xs) p) is many ∙ either (test n))
    ∙ sym (map-range_with_len_more (name_by test) 0 n n (omega arith))
  where
    either : (b : Bool) → option_map (λ _. length (passing_below test n)) (cond b (Some n) None) ≡ cond b (Some (length (passing_below test n))) None
    either true = refl
    either false = refl

-- ---- all expressions

module _ {A : Type 0} (ns : List (SymbolicExpr A)) (marks : List (Option ℕ)) (counts : List Places) where
  past-unmarked : (i : ℕ) → length marks ≤ i → is_reached marks i ≡ false
  past-unmarked i le = ap is_some (get_or_past marks i None le)

  -- the name of each expression, also past the end
  pub names-all : (names : List (Option ℕ)) (n : ℕ) → length marks ≤ n → names ≡ map (name_by (passes ns marks counts)) (range_with_len 0 n) → (i : ℕ) → get_or names i None ≡ name_by (passes ns marks counts) i
  names-all names n le e i =
      ap (λ (xs : List (Option ℕ)). get_or xs i None) e
      ∙ ⊎_elim
      (λ (lt : i < n). get_or-map-range_with_len (name_by (passes ns marks counts)) 0 n i i None lt (omega arith))
      (λ (past : n ≤ i).
      get_or_past (map (name_by (passes ns marks counts)) (range_with_len 0 n)) i None (omega (arith, past, length-map-range_with_len (name_by (passes ns marks counts)) 0 n))
      ∙ sym (ap (λ b. cond (b && (has_operation (slice_get ns i) && is_more (get_or counts i Nowhere))) (Some (length (passing_below (passes ns marks counts) i))) None)
      (past-unmarked i (omega (arith, le, past)))))
      (cases_lt i n)

  -- the counts and the definition name the same expressions
  pub passes-is : (roots : List ℕ) → length marks ≡ length ns → length counts ≡ length ns → AreCounted (count_of_places ns roots marks) counts → (i : ℕ) → passes ns marks counts i ≡ is_named ns roots marks i
  passes-is roots same_marks same_counts h i =
      ⊎_elim
      (λ (lt : i < length ns).
      ap (λ b. is_reached marks i && (has_operation (slice_get ns i) && b))
      (ap is_more (h.each i (omega (arith, lt, same_counts))) ∙ more-is (count_of_places ns roots marks i)))
      (λ (past : length ns ≤ i).
      let none : is_reached marks i ≡ false = past-unmarked i (omega (arith, past, same_marks)) in
      ap (λ b. b && (has_operation (slice_get ns i) && is_more (get_or counts i Nowhere))) none
      ∙ sym (ap (λ b. b && (has_operation (slice_get ns i) && leb 2 (count_of_places ns roots marks i))) none))
      (cases_lt i (length ns))
    where
      more-is : (n : ℕ) → is_more (places_for n) ≡ leb 2 n
      more-is zero = refl
      more-is (suc zero) = refl
      more-is (suc (suc n)) = sym (le-leb 2 (suc (suc n)) (omega arith))

-- ---- tests that agree

pub passing_below-same : (p q : ℕ → Bool) → ((i : ℕ) → p i ≡ q i) → (n : ℕ) → passing_below p n ≡ passing_below q n
passing_below-same p q e zero = refl
passing_below-same p q e (suc n) = ap₂ (λ xs b. xs ++ cond b (n ∷ []) []) (passing_below-same p q e n) (e n)

pub name_by-same : (p q : ℕ → Bool) → ((i : ℕ) → p i ≡ q i) → (i : ℕ) → name_by p i ≡ name_by q i
name_by-same p q e i = ap₂ (λ b xs. cond b (Some (length xs)) None) (e i) (passing_below-same p q e i)

-- whatever passes below n is below k, if n ≤ k
pub passing-low : (test : ℕ → Bool) (k n : ℕ) → n ≤ k → All (λ x. x < k) (passing_below test n)
passing-low test k zero le = All-nil (λ x. x < k)
passing-low test k (suc n) le =
    All-append (λ x. x < k) (passing_below test n) (cond (test n) (n ∷ []) []) (passing-low test k n (omega (arith, le))) (either (test n))
  where
    either : (b : Bool) → All (λ x. x < k) (cond b (n ∷ []) [])
    either true = All-cons (λ x. x < k) n [] (omega (arith, le)) (All-nil (λ x. x < k))
    either false = All-nil (λ x. x < k)

-- two facts about one answer, combined
pub if_both : {T E : Type 0} (P Q R : T → Type 0) (r : Result T E) → ((x : T) → P x → Q x → R x) → IfOk r P → IfOk r Q → IfOk r R
if_both P Q R (Ok x) h p q = h x p q
if_both P Q R (Err e) h p q = tt
