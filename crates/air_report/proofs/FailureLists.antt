-- The text of a list of failures, one failure after another.
use Rattle.std.proofs.Common.{◌≡◌, ℕ, ◌+◌, ◌<◌, ◌≤◌, zero, suc, List, [], ◌∷◌, ◌++◌, Option, Some, None, if◌then◌else◌, ◌==◌, drop, length, get_or, refl, sym, ap, ◌∙◌, subst, append_assoc, append-nil, arith, add-one}
use Rattle.std.proofs.Math.Dec.{eqb-suc-zero}
use Rattle.std.proofs.lemmas.List.{drop_more}
use Rattle.std.specs.Fmt.{◌++?◌, debug_items, comma_space, AppendsText}
use Rattle.air_report.specs.declared.debug.failure.ConstraintFailure.{ConstraintFailure}
use Rattle.air_report.specs.FailureTexts.{shown_failure, failures_text}

-- the text begins the list, up to its first i failures
pub record HasListed (failures : List ConstraintFailure) (i : ℕ) (text : List ℕ) : Type 0 where
  pub rest : (whole : List ℕ) → failures_text failures ≡ Some whole
      → (tail : List ℕ) × (debug_items shown_failure (if i == 0 then [] else comma_space) (drop i failures) ≡ Some tail)
      × (whole ≡ text ++ (tail ++ 93 ∷ []))

-- if the text of two parts is specified, so is each part
pub append-some : (o p : Option (List ℕ)) (r : List ℕ) → (o ++? p) ≡ Some r
    → (a : List ℕ) × (b : List ℕ) × (o ≡ Some a) × (p ≡ Some b) × (r ≡ a ++ b)
append-some None p r e = cc
append-some (Some a) None r e = cc
append-some (Some a) (Some b) r e = (a, b, refl, refl, cc)

-- a text that was appended
after_text : (old new : List ℕ) (o : Option (List ℕ)) (t : List ℕ) → o ≡ Some t → AppendsText old new o → new ≡ old ++ t
after_text old new o t e h = let P : Option (List ℕ) → Type 0 = λ v. AppendsText old new v in subst P e h

-- the text before the failure at i
lead_at : (i : ℕ) (old mid : List ℕ) → (0 < i → mid ≡ old ++ comma_space) → (i ≤ 0 → mid ≡ old)
    → mid ≡ old ++ (if i == 0 then [] else comma_space)
lead_at zero old mid later first = first (omega arith) ∙ sym (append-nil old)
lead_at (suc i) old mid later first =
    later (omega arith) ∙ ap (λ b. old ++ (if b then [] else comma_space)) (sym (eqb-suc-zero i))

-- every later failure has a comma before it
later_lead : (i : ℕ) → (if (i + 1) == 0 then [] else comma_space) ≡ comma_space
later_lead i = rw (add-one, eqb-suc-zero)

regroup : (old lead t b close : List ℕ) → old ++ ((lead ++ (t ++ b)) ++ close) ≡ ((old ++ lead) ++ t) ++ (b ++ close)
regroup old lead t b close = simp append_assoc

-- one more failure
pub HasListed-more : (xs : List ConstraintFailure) (i : ℕ) (old mid new : List ℕ) (x : ConstraintFailure)
    → i < length xs → x ≡ get_or xs i x → (0 < i → mid ≡ old ++ comma_space) → (i ≤ 0 → mid ≡ old)
    → AppendsText mid new (shown_failure x) → HasListed xs i old → HasListed xs (i + 1) new
HasListed-more xs i old mid new x lt is later first write listed = record {
  rest = λ whole e.
      let h = listed.rest whole e in
      let lead : List ℕ = if i == 0 then [] else comma_space in
      let cons : drop i xs ≡ x ∷ drop (i + 1) xs = drop_more xs i x lt ∙ ap (λ v. v ∷ drop (i + 1) xs) (sym is) in
      let here : debug_items shown_failure lead (x ∷ drop (i + 1) xs) ≡ Some h.0 = ap (debug_items shown_failure lead) (sym cons) ∙ h.1 in
      let outer = append-some (Some lead) (shown_failure x ++? debug_items shown_failure comma_space (drop (i + 1) xs)) h.0 here in
      let inner = append-some (shown_failure x) (debug_items shown_failure comma_space (drop (i + 1) xs)) outer.1 outer.3 in
      let lead_is : lead ≡ outer.0 = cc in
      let written : new ≡ mid ++ inner.0 = after_text mid new (shown_failure x) inner.0 inner.2 write in
      let before : mid ≡ old ++ lead = lead_at i old mid later first in
      let grouped = regroup old lead inner.0 inner.1 (93 ∷ []) in
      (inner.1, ap (λ v. debug_items shown_failure v (drop (i + 1) xs)) (later_lead i) ∙ inner.3, cc);
}
