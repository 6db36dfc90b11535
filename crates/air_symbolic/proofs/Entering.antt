-- Entering a key in a table: at a run's end, in a new run, or in the map.
use Rattle.std.proofs.Common.{◌≡◌, inl, inr, ⊎_elim, ℕ, zero, suc, true, false, List, [], ◌∷◌, ◌++◌, get_or, set, Option, None, Some, refl, sym, ap, subst, ◌∙◌, slice_get}
use Rattle.std.specs.declared.cmp.Ordering.{Ordering}
use Rattle.std.specs.declared.cmp.Ordering.TheVariants.{Equal}
use Rattle.std.specs.Option.{option_or}
use Rattle.std.specs.Cmp.{IsTotalOrder, Equal-is}
use Rattle.std.specs.Map.{lookup}
use Rattle.std.specs.BTreeMap.{BTreeMap, get, is_at, Updates}
use Rattle.std.proofs.lemmas.Cmp.{tied_itself, tied_back}
use Rattle.std.proofs.lemmas.Bool.{cases_Bool}
use Rattle.std.proofs.lemmas.Option.{same_Some, get_or_from_slice_get}
use Rattle.air_symbolic.specs.Numbering.{number_in, Entered}
use Rattle.air_symbolic.proofs.Runs.{lookup-pushed, lookup-pushed_other, is_at-turned}

-- if two together find nothing, neither of them does
option_or-none_left : (o p : Option ℕ) → option_or o p ≡ None → o ≡ None
option_or-none_left None p e = refl
option_or-none_left (Some x) p e = e

option_or-none_right : (o p : Option ℕ) → option_or o p ≡ None → p ≡ None
option_or-none_right None p e = e
option_or-none_right (Some x) p e = absurd (cc)

module _ {K : Type 0} {cmp : K → K → Ordering} (total : IsTotalOrder cmp) (key : K) (number : ℕ) where
  -- new finds the number at the key, and agrees with old at every key that isn't equal
  abbrev IsEntry : (K → Option ℕ) → (K → Option ℕ) → Type 0
  IsEntry old new = (new key ≡ Some number) × ((k : K) → is_at (cmp k) key ≡ false → new k ≡ old k)

  Entered-from : ((k : K) → cmp key k ≡ Equal → key ≡ k) → (old new : K → Option ℕ) → IsEntry old new → Entered old new key number
  Entered-from exact old new entry k =
      ⊎_elim
      (λ (y : is_at (cmp k) key ≡ true).
      let same : key ≡ k = exact k (tied_back total k key ((Equal-is (cmp k key)).0 y)) in
      inl (sym same, subst (λ l. new l ≡ Some number) same entry.0))
      (λ (n : is_at (cmp k) key ≡ false).
      inr (
        λ e. let tied : cmp k key ≡ Equal = subst (λ y. cmp k y ≡ Equal) e (tied_itself total k) in let t : is_at (cmp k) key ≡ true = (Equal-is (cmp k key)).1 tied in cc,
        entry.1 k n,
      ))
      (cases_Bool (is_at (cmp k) key))

  -- an entry after a run that doesn't have the key
  entry-behind : (run : List (K × ℕ)) (old new : K → Option ℕ) → lookup (is_at (cmp key)) run ≡ None → IsEntry old new → IsEntry (λ k. option_or (lookup (is_at (cmp k)) run) (old k)) (λ k. option_or (lookup (is_at (cmp k)) run) (new k))
  entry-behind run old new none entry =
      (ap (λ o. option_or o (new key)) none ∙ entry.0, λ k n. ap (option_or (lookup (is_at (cmp k)) run)) (entry.1 k n))

  -- an entry at a run's end
  entry-at_end : (run : List (K × ℕ)) (behind : K → Option ℕ) → lookup (is_at (cmp key)) run ≡ None → IsEntry (λ k. option_or (lookup (is_at (cmp k)) run) (behind k)) (λ k. option_or (lookup (is_at (cmp k)) (run ++ (key, number) ∷ [])) (behind k))
  entry-at_end run behind none = (
    ap (λ o. option_or o (behind key)) (lookup-pushed (is_at (cmp key)) run (key, number) none ((Equal-is (cmp key key)).1 (tied_itself total key))),
    λ k n. ap (λ o. option_or o (behind k)) (lookup-pushed_other (is_at (cmp k)) run (key, number) n),
  )

  entry-in_run : (runs : List (List (K × ℕ))) (rest : BTreeMap K ℕ) (i : ℕ) (run : List (K × ℕ)) → slice_get runs i ≡ Some run → number_in cmp runs rest key ≡ None → IsEntry (number_in cmp runs rest) (number_in cmp (set runs i (run ++ (key, number) ∷ [])) rest)
  entry-in_run [] rest i run at none = absurd (cc)
  entry-in_run (r ∷ runs) rest zero run at none =
      subst (λ (q : List (K × ℕ)). IsEntry (number_in cmp (r ∷ runs) rest) (number_in cmp ((q ++ (key, number) ∷ []) ∷ runs) rest)) (same_Some r run at) (entry-at_end r (number_in cmp runs rest) (option_or-none_left _ _ none))
  entry-in_run (r ∷ runs) rest (suc i) run at none =
      entry-behind r (number_in cmp runs rest) (number_in cmp (set runs i (run ++ (key, number) ∷ [])) rest) (option_or-none_left _ _ none) (entry-in_run runs rest i run at (option_or-none_right _ _ none))

  entry-in_new_run : (runs : List (List (K × ℕ))) (rest : BTreeMap K ℕ) → number_in cmp runs rest key ≡ None → IsEntry (number_in cmp runs rest) (number_in cmp (runs ++ ((key, number) ∷ []) ∷ []) rest)
  entry-in_new_run [] rest none = entry-at_end [] (get cmp rest) refl
  entry-in_new_run (r ∷ runs) rest none =
      entry-behind r (number_in cmp runs rest) (number_in cmp (runs ++ ((key, number) ∷ []) ∷ []) rest) (option_or-none_left _ _ none) (entry-in_new_run runs rest (option_or-none_right _ _ none))

  entry-in_rest : (runs : List (List (K × ℕ))) (rest new : BTreeMap K ℕ) → Updates cmp rest new key (Some number) → number_in cmp runs rest key ≡ None → IsEntry (number_in cmp runs rest) (number_in cmp runs new)
  entry-in_rest [] rest new updates none =
      (updates.1, λ k n. updates.2 k (is_at-turned total key k ∙ n))
  entry-in_rest (r ∷ runs) rest new updates none =
      entry-behind r (number_in cmp runs rest) (number_in cmp runs new) (option_or-none_left _ _ none) (entry-in_rest runs rest new updates (option_or-none_right _ _ none))

  module _ (exact : (k : K) → cmp key k ≡ Equal → key ≡ k) (runs : List (List (K × ℕ))) (rest : BTreeMap K ℕ) where
    -- the run at an index now has the key at its end
    pub Entered-in_run : (i : ℕ) (run lent new : List (K × ℕ)) → slice_get runs i ≡ Some run → lent ≡ get_or runs i lent → new ≡ lent ++ (key, number) ∷ [] → number_in cmp runs rest key ≡ None → Entered (number_in cmp runs rest) (number_in cmp (set runs i new) rest) key number
    Entered-in_run i run lent new at is pushed none =
        let same : run ≡ lent = sym (get_or_from_slice_get runs i run lent at) ∙ sym is in
        subst (λ (q : List (K × ℕ)). Entered (number_in cmp runs rest) (number_in cmp (set runs i q) rest) key number) (ap (λ q. q ++ (key, number) ∷ []) same ∙ sym pushed)
        (Entered-from exact (number_in cmp runs rest) (number_in cmp (set runs i (run ++ (key, number) ∷ [])) rest) (entry-in_run runs rest i run at none))

    -- a new run has the key
    pub Entered-in_new_run : number_in cmp runs rest key ≡ None → Entered (number_in cmp runs rest) (number_in cmp (runs ++ ((key, number) ∷ []) ∷ []) rest) key number
    Entered-in_new_run none = Entered-from exact (number_in cmp runs rest) (number_in cmp (runs ++ ((key, number) ∷ []) ∷ []) rest) (entry-in_new_run runs rest none)

    -- the map has the key
    pub Entered-in_rest : (new : BTreeMap K ℕ) → Updates cmp rest new key (Some number) → number_in cmp runs rest key ≡ None → Entered (number_in cmp runs rest) (number_in cmp runs new) key number
    Entered-in_rest new updates none = Entered-from exact (number_in cmp runs rest) (number_in cmp runs new) (entry-in_rest runs rest new updates none)

-- the map's entries decide what it finds
pub number_in-same_rest : {K : Type 0} (cmp : K → K → Ordering) (runs : List (List (K × ℕ))) (rest new : BTreeMap K ℕ) → new.entries ≡ rest.entries → (k : K) → number_in cmp runs new k ≡ number_in cmp runs rest k
number_in-same_rest cmp [] rest new same k = ap (lookup (is_at (cmp k))) same
number_in-same_rest cmp (run ∷ runs) rest new same k = ap (option_or (lookup (is_at (cmp k)) run)) (number_in-same_rest cmp runs rest new same k)
