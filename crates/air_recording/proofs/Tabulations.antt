-- Lists that grow at their end by one value for each number.
use Rattle.std.proofs.Common.{◌≡◌, ℕ, zero, suc, ◌+◌, ◌<◌, ◌≤◌, ⊎_elim, List, [], ◌∷◌, ◌++◌, length, get_or, sym, ap, ◌∙◌, subst, arith, length-append}
use Rattle.std.proofs.lemmas.Bool.{cases_lt}
use Rattle.std.proofs.lemmas.List.{get_or_at, get_or_append_left}

-- l m has the values of f below m
pub record IsTabulation {X : Type 0} (l : ℕ → List X) (f : ℕ → X) : Type 0 where
  pub none : l 0 ≡ []
  pub more : (m : ℕ) → l (suc m) ≡ l m ++ f m ∷ []

module _ {X : Type 0} (l : ℕ → List X) (f : ℕ → X) (t : IsTabulation l f) where
  pub length-tabulation : (m : ℕ) → length (l m) ≡ m
  length-tabulation zero = ap length t.none
  length-tabulation (suc m) =
      ap length (t.more m) ∙ (length-append (l m) (f m ∷ []) ∙ (ap (λ i. i + 1) (length-tabulation m) ∙ omega arith))

  pub get_or-tabulation : (m j : ℕ) (d : X) → j < m → get_or (l m) j d ≡ f j
  get_or-tabulation zero j d h = absurd (omega arith)
  get_or-tabulation (suc m) j d h =
      ap (λ k. get_or k j d) (t.more m)
      ∙ ⊎_elim (λ (b : j < m). earlier b (get_or-tabulation m j d b)) (λ (b : m ≤ j). here (omega arith)) (cases_lt j m)
    where
      earlier : j < m → get_or (l m) j d ≡ f j → get_or (l m ++ f m ∷ []) j d ≡ f j
      earlier b rest = get_or_append_left (l m) (f m ∷ []) d j (subst (λ (i : ℕ). j < i) (sym (length-tabulation m)) b) ∙ rest

      here : j ≡ m → get_or (l m ++ f m ∷ []) j d ≡ f j
      here e = get_or_at (l m) (f m) [] d j (length-tabulation m ∙ sym e) ∙ ap f (sym e)
