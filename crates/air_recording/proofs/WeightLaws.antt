-- Weights by index in a list of powers.
use Rattle.std.proofs.Common.{◌≡◌, ℕ, suc, ◌+◌, ◌-◌, ◌<◌, List, [], ◌∷◌, ◌++◌, length, map, get_or, All, refl, sym, ap, ap₂, ◌∙◌, subst, arith, length-append}
use Rattle.std.proofs.lemmas.List.{get_or_append_left, get_or-append-add}
use Rattle.air_field.specs.Ring.{CommRing}
use Rattle.air_field.specs.Powers.{power, powers_of}
use Rattle.air_recording.specs.AlphaPowers.{alpha_powers_at}
use Rattle.air_recording.proofs.Tabulations.{IsTabulation, length-tabulation, get_or-tabulation}

module _ {E : Type 0} (r : CommRing E) (alpha : E) where
  tabulated : IsTabulation (powers_of r alpha) (power r alpha)
  tabulated = record { none = refl; more = λ m. refl }

  length-powers : (k : ℕ) → length (powers_of r alpha k) ≡ k
  length-powers = length-tabulation (powers_of r alpha) (power r alpha) tabulated

  weights-by_index : (k : ℕ) (d : E) (indices : List ℕ) → All (λ i. i < k) indices → map (λ i. get_or (powers_of r alpha k) (k - 1 - i) d) indices ≡ alpha_powers_at r alpha k indices
  weights-by_index k d [] h = refl
  weights-by_index k d (i ∷ indices) h =
      let lt : i < k = h 0 0 (omega arith) in
      ap₂ (λ x l. x ∷ l) (get_or-tabulation (powers_of r alpha) (power r alpha) tabulated k (k - 1 - i) d (omega arith)) (weights-by_index k d indices (λ j e b. h (suc j) e (omega arith)))

  -- if the powers below the k-th are given, indices below k are below their number
  pub below-powers : (k : ℕ) (given powers : List E) (indices below : List ℕ) → given ≡ powers → powers ≡ powers_of r alpha k → indices ≡ below → All (λ i. i < k) below → All (λ i. i < length given) indices
  below-powers k given powers indices below lent are same h =
      subst (λ (l : List ℕ). All (λ i. i < length given) l) (sym same) (subst (λ (m : ℕ). All (λ i. i < m) below) (sym (ap length (lent ∙ are) ∙ length-powers k)) h)

  -- the powers at these indices, counted from the last power backwards, are the weights
  pub picked-weights : (k count : ℕ) (given powers : List E) (indices below : List ℕ) (picked : List E) → given ≡ powers → powers ≡ powers_of r alpha k → indices ≡ below → k ≡ count → All (λ i. i < k) below → ((d : E) → picked ≡ map (λ i. get_or given (length given - 1 - i) d) indices) → picked ≡ alpha_powers_at r alpha count below
  picked-weights k count given powers indices below picked lent are same counted h picks =
      picks r.zero
      ∙ (ap₂ (λ l is. map (λ i. get_or l (length l - 1 - i) r.zero) is) (lent ∙ are) same
      ∙ (ap (λ m. map (λ i. get_or (powers_of r alpha k) (m - 1 - i) r.zero) below) (length-powers k)
      ∙ (weights-by_index k r.zero below h ∙ ap (λ m. alpha_powers_at r alpha m below) counted)))

-- a fact that holds of all of a joined list holds of all of each part
pub All-left : (P : ℕ → Type 0) (xs ys : List ℕ) → All P (xs ++ ys) → All P xs
All-left P xs ys h k d b =
    let lt : k < length (xs ++ ys) = omega (arith, length-append xs ys) in
    subst P (get_or_append_left xs ys d k b) (h k d lt)

pub All-right : (P : ℕ → Type 0) (xs ys : List ℕ) → All P (xs ++ ys) → All P ys
All-right P xs ys h k d b =
    let lt : length xs + k < length (xs ++ ys) = omega (arith, length-append xs ys) in
    subst P (get_or-append-add xs ys k d) (h (length xs + k) d lt)
