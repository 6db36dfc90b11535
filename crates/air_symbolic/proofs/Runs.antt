-- Looking up keys in ascending runs.
use Rattle.std.proofs.Common.{◌≡◌, ⊎_elim, ℕ, zero, suc, ◌<◌, ◌≤◌, Bool, true, false, cond, List, [], ◌∷◌, ◌++◌, length, get_or, None, Some, Result, Ok, Err, MatchResult, refl, sym, ap, subst, ◌∙◌, arith, slice_get}
use Rattle.std.specs.declared.cmp.Ordering.{Ordering}
use Rattle.std.specs.declared.cmp.Ordering.TheVariants.{Less, Equal, Greater}
use Rattle.std.specs.Ordering.{is_eq, ordering_reverse, ordering_index}
use Rattle.std.specs.Cmp.{IsTotalOrder}
use Rattle.std.specs.List.Sorted.{IsNonDecreasingBy, IsBinarySearchResult, IsSearchInRange}
use Rattle.std.specs.Map.{lookup}
use Rattle.std.specs.BTreeMap.{is_at}
use Rattle.std.proofs.lemmas.Cmp.{alike_right}
use Rattle.std.proofs.lemmas.Bool.{cases_Bool, cases_lt}
use Rattle.std.proofs.lemmas.Map.Entries.{lookup_head, lookup_tail}
use Rattle.std.proofs.lemmas.Option.{same_Some, slice_get_within, slice_get-get_or, get_or_from_slice_get}
use Rattle.air_symbolic.specs.Runs.{IsAscending, IsBelow}

-- ---- Looking up

module _ {K : Type 0} (test : K → Bool) where
  -- no key passes the test
  lookup-none_at : (es : List (K × ℕ)) → ((i : ℕ) (d : K × ℕ) → slice_get es i ≡ Some d → test d.0 ≡ false) → lookup test es ≡ None
  lookup-none_at [] fails = refl
  lookup-none_at (e ∷ es) fails = lookup_tail test e es (fails 0 e refl) ∙ lookup-none_at es (λ i d. fails (suc i) d)

  -- an appended key that passes where no other did
  pub lookup-pushed : (es : List (K × ℕ)) (e : K × ℕ) → lookup test es ≡ None → test e.0 ≡ true → lookup test (es ++ e ∷ []) ≡ Some e.1
  lookup-pushed [] e none passes = lookup_head test e [] passes
  lookup-pushed (d ∷ es) e none passes =
      ⊎_elim
      (λ (y : test d.0 ≡ true). absurd (let found = lookup_head test d es y in cc))
      (λ (n : test d.0 ≡ false). lookup_tail test d (es ++ e ∷ []) n ∙ lookup-pushed es e (sym (lookup_tail test d es n) ∙ none) passes)
      (cases_Bool (test d.0))

  -- an appended key that doesn't pass
  pub lookup-pushed_other : (es : List (K × ℕ)) (e : K × ℕ) → test e.0 ≡ false → lookup test (es ++ e ∷ []) ≡ lookup test es
  lookup-pushed_other [] e fails = lookup_tail test e [] fails
  lookup-pushed_other (d ∷ es) e fails = ap (λ o. cond (test d.0) (Some d.1) o) (lookup-pushed_other es e fails)

-- ---- Runs

turned : (o : Ordering) → is_eq (ordering_reverse o) ≡ is_eq o
turned Less = refl
turned Equal = refl
turned Greater = refl

module _ {K : Type 0} {cmp : K → K → Ordering} (total : IsTotalOrder cmp) where
  -- comparing two keys for equality in either order
  pub is_at-turned : (key k : K) → is_at (cmp key) k ≡ is_eq (cmp k key)
  is_at-turned key k = ap is_eq (total.antisymm key k) ∙ turned (cmp k key)

  -- a key above all keys of a run isn't in the run
  pub below-none : (run : List (K × ℕ)) (key : K) → IsBelow cmp run key → lookup (is_at (cmp key)) run ≡ None
  below-none run key below = lookup-none_at (is_at (cmp key)) run (λ i d e. is_at-turned key d.0 ∙ ap is_eq (below i d e))

  -- the first key that is equal is the only one
  found-at : (run : List (K × ℕ)) (key : K) (i : ℕ) (e : K × ℕ) → IsAscending cmp run → slice_get run i ≡ Some e → cmp e.0 key ≡ Equal → lookup (is_at (cmp key)) run ≡ Some e.1
  found-at [] key i e ascending at equal = absurd (cc)
  found-at (d ∷ run) key zero e ascending at equal =
      lookup_head (is_at (cmp key)) d run (is_at-turned key d.0 ∙ ap (λ (p : K × ℕ). is_eq (cmp p.0 key)) (same_Some d e at) ∙ ap is_eq equal) ∙ ap (λ (p : K × ℕ). Some p.1) (same_Some d e at)
  found-at (d ∷ run) key (suc i) e ascending at equal =
      let less : cmp d.0 key ≡ Less = sym (alike_right total e.0 key d.0 equal) ∙ ascending 0 (suc i) d e (omega arith) refl at in
      lookup_tail (is_at (cmp key)) d run (is_at-turned key d.0 ∙ ap is_eq less)
      ∙ found-at run key i e (λ j k p q lt. ascending (suc j) (suc k) p q (omega (arith, lt))) at equal

  index-at-most : (o : Ordering) → ordering_index o ≤ 2
  index-at-most Less = omega arith
  index-at-most Equal = omega arith
  index-at-most Greater = omega arith

  -- a smaller key compares no greater
  rises-from : (a b key : K) → cmp a b ≡ Less → (o : Ordering) → cmp b key ≡ o → ordering_index (cmp a key) ≤ ordering_index o
  rises-from a b key less Less is = subst (λ o. ordering_index o ≤ 0) (sym (total.trans a b key less is)) (omega arith)
  rises-from a b key less Equal is = subst (λ o. ordering_index o ≤ 1) (sym (sym (alike_right total b key a is) ∙ less)) (omega arith)
  rises-from a b key less Greater is = index-at-most (cmp a key)

  -- comparisons with a key don't decrease along the run, as binary search requires
  rises : (run : List (K × ℕ)) (key : K) → IsAscending cmp run → IsNonDecreasingBy (λ (e : K × ℕ). ordering_index (cmp e.0 key)) run
  rises run key ascending i j d le within =
      ⊎_elim
      (λ (lt : i < j). rises-from _ _ key (ascending i j (get_or run i d) (get_or run j d) lt (slice_get-get_or run i d (omega (arith, lt, within))) (slice_get-get_or run j d within)) _ refl)
      (λ (ge : j ≤ i). let same : i ≡ j = omega (arith, le, ge) in subst (λ k. ordering_index (cmp (get_or run i d).0 key) ≤ ordering_index (cmp (get_or run k d).0 key)) same (omega arith))
      (cases_lt i j)

  -- binary search in a run answers the same as `lookup`
  pub halved : (run : List (K × ℕ)) (key : K) (r : Result ℕ ℕ) → IsAscending cmp run → IsSearchInRange r (length run) → IsBinarySearchResult (λ (e : K × ℕ). cmp e.0 key) run r
      → MatchResult r (λ i. (d : K × ℕ) → lookup (is_at (cmp key)) run ≡ Some (get_or run i d).1) (λ _. lookup (is_at (cmp key)) run ≡ None)
  halved run key (Ok i) ascending within equal = λ d. found-at run key i (get_or run i d) ascending (slice_get-get_or run i d within) (equal d)
  halved run key (Err i) ascending within parts =
      let parted = parts (rises run key ascending) in
      lookup-none_at (is_at (cmp key)) run (λ j d e.
      let is : get_or run j d ≡ d = get_or_from_slice_get run j d d e in
      ⊎_elim
      (λ (lt : j < i). is_at-turned key d.0 ∙ ap is_eq (subst (λ (p : K × ℕ). cmp p.0 key ≡ Less) is (parted.0 j d (omega arith) lt)))
      (λ (ge : i ≤ j). is_at-turned key d.0 ∙ ap is_eq (subst (λ (p : K × ℕ). cmp p.0 key ≡ Greater) is (parted.1 j d ge (slice_get_within run j d e))))
      (cases_lt j i))
