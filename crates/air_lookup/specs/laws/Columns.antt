-- If the constraints of a running sum vanish on all rows, the entries sum to what it ends with.
use Rattle.std.specs.Prelude.{◌≡◌, ℕ, zero, suc, ◌<◌, List, [], ◌∷◌, ◌++◌, refl}
use Rattle.std.proofs.Common.{sym, ◌∙◌, ap, ap₂, arith}
use Rattle.air_field.specs.Ring.{CommRing, AlgebraOver, minus}
use Rattle.air_field.specs.Term.{Leaf, first_row, last_row, transition, permutation, challenge, permutation_value}
use Rattle.air_field.specs.Value.{value}
use Rattle.air_field.specs.laws.Ring.{zero_add}
use Rattle.air_field.specs.laws.Roots.{same_of_minus}
use Rattle.air_builder.specs.Assertion.{Assertion, Base, Extension}
use Rattle.air_lookup.specs.Balance.{Entry, sum_of, AreShares, Balances, SumsTo}
use Rattle.air_lookup.specs.Buses.{bus_terms}
use Rattle.air_lookup.specs.Columns.{Interaction, Places, share_terms, shares_term, after_term, running_terms, lookup_terms, ExtVanish, entries_at, entries_below, AreRows}

module _ {A : Type 0} (r : CommRing A) where
  sum_of-append : (xs ys : List A) → sum_of r (xs ++ ys) ≡ r.add (sum_of r xs) (sum_of r ys)
  sum_of-append [] ys = sym (zero_add r (sum_of r ys))
  sum_of-append (x ∷ xs) ys = ap (r.add x) (sum_of-append xs ys) ∙ sym (r.add_assoc x (sum_of r xs) (sum_of r ys))

  shares-append : (alpha : A) (es fs : List (Entry A)) (ds cs : List A) → AreShares r alpha es ds → AreShares r alpha fs cs
      → AreShares r alpha (es ++ fs) (ds ++ cs)
  shares-append alpha [] fs [] cs h k = k
  shares-append alpha [] fs (d ∷ ds) cs h k = absurd h
  shares-append alpha (e ∷ es) fs [] cs h k = absurd h
  shares-append alpha (e ∷ es) fs (d ∷ ds) cs h k = (h.0, shares-append alpha es fs ds cs h.1 k)

  -- the sum of joined entries
  pub sums_joined : (alpha : A) (es fs : List (Entry A)) (s t : A) → SumsTo r alpha es s → SumsTo r alpha fs t → SumsTo r alpha (es ++ fs) (r.add s t)
  sums_joined alpha es fs s t h k = record {
    shares = h.shares ++ k.shares;
    are_shares = shares-append alpha es fs h.shares k.shares h.are_shares k.are_shares;
    sum = sum_of-append h.shares k.shares ∙ ap₂ r.add h.sum k.sum;
  }

  pub equal_of_minus : (x y : A) → minus r x y ≡ r.zero → x ≡ y
  equal_of_minus x y h = sym (same_of_minus r y x h)

  -- a product with one is zero only if the other factor is
  pub zero_of_one : (x y : A) → y ≡ r.one → r.mul x y ≡ r.zero → x ≡ r.zero
  zero_of_one x y is h = sym (r.mul_one x) ∙ (ap (r.mul x) (sym is) ∙ h)

module _ {F E : Type 0} (r : CommRing F) (a : AlgebraOver F E) (embed_zero : a.embed r.zero ≡ a.ring.zero) where
  both_vanish : (s : Leaf → E) (ts us : List (Assertion F)) → ExtVanish a s (ts ++ us) → ExtVanish a s ts × ExtVanish a s us
  both_vanish s [] us h = (tt, h)
  both_vanish s (Base t ∷ ts) us h = both_vanish s ts us h
  both_vanish s (Extension t ∷ ts) us h = let more = both_vanish s ts us h.1 in ((h.0, more.0), more.1)

  -- the shares of a row
  abbrev shares_at : (Leaf → E) → ℕ → List (Interaction F) → List E
  shares_at s k [] = []
  shares_at s k (x ∷ xs) = s (permutation 0 k) ∷ shares_at s (suc k) xs

  are_shares : (s : Leaf → E) (c : ℕ) (alpha : E) → s (challenge c) ≡ alpha → (k : ℕ) (xs : List (Interaction F))
      → ExtVanish a s (share_terms c k xs) → AreShares a.ring alpha (entries_at a s xs) (shares_at s k xs)
  are_shares s c alpha is k [] h = tt
  are_shares s c alpha is k (x ∷ xs) h = (
    ap (λ y. a.ring.mul (minus a.ring y (value a s x.value)) (s (permutation 0 k))) (sym is)
        ∙ equal_of_minus a.ring (a.ring.mul (minus a.ring (s (challenge c)) (value a s x.value)) (s (permutation 0 k))) (value a s x.multiplicity) h.0,
    are_shares s c alpha is (suc k) xs h.1,
  )

  sum_is : (s : Leaf → E) (k : ℕ) (xs : List (Interaction F)) → value a s (shares_term r k xs) ≡ sum_of a.ring (shares_at s k xs)
  sum_is s k [] = embed_zero
  sum_is s k (x ∷ []) = sym (a.ring.add_zero (s (permutation 0 k)))
  sum_is s k (x ∷ y ∷ ys) = ap (a.ring.add (s (permutation 0 k))) (sum_is s (suc k) (y ∷ ys))

  module _ (p : Places) (xs : List (Interaction F)) (n : ℕ) (alpha : E) (s : ℕ → Leaf → E) (rows : AreRows a.ring.one n p.challenge alpha s) where
    module _ (vanish : (i : ℕ) → i < n → ExtVanish a (s i) (running_terms r p xs)) where
      abbrev acc : ℕ → E
      acc i = s i (permutation 0 p.accumulator)

      row_sum : (i : ℕ) → i < n → SumsTo a.ring alpha (entries_at a (s i) xs) (value a (s i) (shares_term r p.shares xs))
      row_sum i lt = record {
        shares = shares_at (s i) p.shares xs;
        are_shares = are_shares (s i) p.challenge alpha (rows.challenge_is i lt) p.shares xs
            (both_vanish (s i) (share_terms p.challenge p.shares xs) _ (vanish i lt)).0;
        sum = sym (sum_is (s i) p.shares xs);
      }

      -- the constraints of the accumulator at a row
      running : (i : ℕ) → i < n → (a.ring.mul (acc i) (s i first_row) ≡ a.ring.zero)
          × (a.ring.mul (minus a.ring (s i (permutation 1 p.accumulator)) (value a (s i) (after_term r p xs))) (s i transition) ≡ a.ring.zero)
      running i lt = let h = (both_vanish (s i) (share_terms p.challenge p.shares xs) _ (vanish i lt)).1 in (h.0, h.1.0)

      joined : (i : ℕ) → i < n → SumsTo a.ring alpha (entries_below a s xs i) (acc i)
          → SumsTo a.ring alpha (entries_below a s xs (suc i)) (value a (s i) (after_term r p xs))
      joined i lt h =
          sums_joined a.ring alpha (entries_below a s xs i) (entries_at a (s i) xs) (acc i) (value a (s i) (shares_term r p.shares xs)) h (row_sum i lt)

      -- the entries of the rows before a row sum to its accumulator
      before_sum : (i : ℕ) → i < n → SumsTo a.ring alpha (entries_below a s xs i) (acc i)
      before_sum zero lt = record { shares = []; are_shares = tt; sum = sym (zero_of_one a.ring (acc 0) (s 0 first_row) rows.first (running 0 lt).0) }
      before_sum (suc i) lt =
          let earlier : i < n = omega (arith, lt) in
          let step : acc (suc i) ≡ value a (s i) (after_term r p xs) =
          sym (rows.next i lt p.accumulator)
          ∙ equal_of_minus a.ring (s i (permutation 1 p.accumulator)) (value a (s i) (after_term r p xs))
          (zero_of_one a.ring _ (s i transition) (rows.on_transition i lt) (running i earlier).1) in
          let h = joined i earlier (before_sum i earlier) in
          record { shares = h.shares; are_shares = h.are_shares; sum = h.sum ∙ sym step }

      sum_at : (e : E) → (n ≡ 0 → e ≡ a.ring.zero) → ((i : ℕ) → suc i ≡ n → value a (s i) (after_term r p xs) ≡ e)
          → (m : ℕ) → m ≡ n → SumsTo a.ring alpha (entries_below a s xs m) e
      sum_at e none last zero is = record { shares = []; are_shares = tt; sum = sym (none (sym is)) }
      sum_at e none last (suc i) is =
          let lt : i < n = omega (arith, is) in
          let h = joined i lt (before_sum i lt) in
          record { shares = h.shares; are_shares = h.are_shares; sum = h.sum ∙ last i is }

      -- the entries of all rows sum to what the accumulator ends with
      pub rows_sum : (e : E) → (n ≡ 0 → e ≡ a.ring.zero) → ((i : ℕ) → suc i ≡ n → value a (s i) (after_term r p xs) ≡ e)
          → SumsTo a.ring alpha (entries_below a s xs n) e
      rows_sum e none last = sum_at e none last n refl

    -- if the constraints of a lookup argument vanish, the entries of all rows balance
    pub rows_balance : ((i : ℕ) → i < n → ExtVanish a (s i) (lookup_terms r p xs)) → Balances a.ring alpha (entries_below a s xs n)
    rows_balance vanish =
        rows_sum (λ i lt. (both_vanish (s i) (running_terms r p xs) _ (vanish i lt)).0) a.ring.zero (λ e. refl)
        (λ i is. zero_of_one a.ring _ (s i last_row) (rows.last i is) (both_vanish (s i) (running_terms r p xs) _ (vanish i (omega (arith, is)))).1.0)

    -- if those of a bus vanish, the entries of all rows sum to the exposed value
    pub rows_exposed : (k : ℕ) (e : E) → 0 < n → ((i : ℕ) → i < n → s i (permutation_value k) ≡ e)
        → ((i : ℕ) → i < n → ExtVanish a (s i) (bus_terms r p k xs)) → SumsTo a.ring alpha (entries_below a s xs n) e
    rows_exposed k e some exposed vanish =
        rows_sum (λ i lt. (both_vanish (s i) (running_terms r p xs) _ (vanish i lt)).0) e (λ none. absurd (omega (arith, none, some)))
        (λ i is.
        let lt : i < n = omega (arith, is) in
        sym (equal_of_minus a.ring (s i (permutation_value k)) (value a (s i) (after_term r p xs))
        (zero_of_one a.ring _ (s i last_row) (rows.last i is) (both_vanish (s i) (running_terms r p xs) _ (vanish i lt)).1.0))
        ∙ exposed i lt)
