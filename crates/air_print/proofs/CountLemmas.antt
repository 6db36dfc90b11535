-- Counts, one use after another.
use Rattle.std.specs.Prelude.{slice_get}
use Rattle.std.proofs.Common.{◌≡◌, ◌≢◌, ℕ, ◌+◌, ◌<◌, true, false, cond, eqb, List, length, get_or, set, Option, None, Some, is_some, refl, sym, ap, subst, ◌∙◌, arith, ⊎_elim, add-one, length-set}
use Rattle.std.proofs.lemmas.Bool.{cases_eq, ne_eqb}
use Rattle.std.proofs.lemmas.Bool.Decides.{eqb_tells}
use Rattle.std.proofs.lemmas.List.{get_or-set_same, get_or-set_other, get_or_default}
use Rattle.air_symbolic.specs.declared.pools.expr.SymbolicExpr.{SymbolicExpr}
use Rattle.air_print.specs.Names.{one_if_is, total_below, node_places, operand_places, places_at}
use Rattle.air_print.specs.Counts.{AreMarks, places_for, AreCounted}
use Rattle.air_print.specs.declared.counts.Places.{Places}
use Rattle.air_print.specs.declared.counts.Places.TheVariants.{Nowhere}

-- counts by functions that agree
pub AreCounted-same : (f g : ℕ → ℕ) (counts : List Places) → ((i : ℕ) → f i ≡ g i) → AreCounted f counts → AreCounted g counts
AreCounted-same f g counts e h = record { each = λ i b. h.each i b ∙ ap places_for (e i) }

place-same : (i : ℕ) → one_if_is i i ≡ 1
place-same i = ap (λ b. cond b 1 0) (⊎_elim (λ (h : (eqb i i ≡ true) × (i ≡ i)). h.0) (λ (h : (eqb i i ≡ false) × (i ≢ i)). absurd (h.1 refl)) (eqb_tells i i))

place-other : (i x : ℕ) → i ≢ x → one_if_is i x ≡ 0
place-other i x ne = ap (λ b. cond b 1 0) (ne_eqb x i (λ e. ne (sym e)))

-- a use of x is counted
pub place-counted : (f : ℕ → ℕ) (counts : List Places) (x : ℕ) (new : Places) → x < length counts → ((n : ℕ) → get_or counts x Nowhere ≡ places_for n → new ≡ places_for (n + 1)) → AreCounted f counts → AreCounted (λ i. f i + one_if_is i x) (set counts x new)
place-counted f counts x new lt now h = record {
  each = λ i b.
      let within : i < length counts = omega (arith, b, length-set counts x new) in
      ⊎_elim
      (λ (e : i ≡ x).
      let at : get_or (set counts x new) x Nowhere ≡ places_for (f x + 1) = get_or-set_same counts x new Nowhere lt ∙ now (f x) (h.each x lt) in
      let one : places_for (f x + 1) ≡ places_for (f x + one_if_is x x) = ap (λ k. places_for (f x + k)) (sym (place-same x)) in
      subst (λ j. get_or (set counts x new) j Nowhere ≡ places_for (f j + one_if_is j x)) (sym e) (at ∙ one))
      (λ (ne : i ≢ x).
      let none : f i ≡ f i + one_if_is i x = omega (arith, place-other i x ne) in
      get_or-set_other counts x i new Nowhere ne ∙ h.each i within ∙ ap places_for none)
      (cases_eq i x);
}

-- a mark is its own index, which is below n
pub mark-own : (n : ℕ) (marks : List (Option ℕ)) (k : ℕ) (d : Option ℕ) (id : ℕ) → AreMarks n marks → k < length marks → get_or marks k d ≡ Some id → (id ≡ k) × (id < n) × (get_or marks k None ≡ Some id)
mark-own n marks k d id h lt e =
    let at : get_or marks k None ≡ Some id = get_or_default marks k None d lt ∙ e in
    let is : id ≡ k = h.own k id at in
    (is, omega (arith, is, lt, h.places), at)

module _ {A : Type 0} (ns : List (SymbolicExpr A)) (marks : List (Option ℕ)) where
  -- a marked node's operands
  pub places-marked : (i k id : ℕ) (n : SymbolicExpr A) → get_or marks k None ≡ Some id → id ≡ k → slice_get ns id ≡ Some n → places_at ns marks i k ≡ operand_places i n
  places-marked i k id n at own is =
      let here : slice_get ns k ≡ Some n = subst (λ j. slice_get ns j ≡ Some n) own is in
      ap (λ o. cond (is_some o) (node_places i (slice_get ns k)) 0) at ∙ ap (node_places i) here

-- one more expression
pub sum-more : (f : ℕ → ℕ) (n : ℕ) → total_below f (n + 1) ≡ total_below f n + f n
sum-more f n = ap (total_below f) (add-one n)
