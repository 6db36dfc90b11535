-- If the constraints of a gadget vanish on all rows, the groups of all rows balance.
use Rattle.std.specs.Prelude.{◌≡◌, ◌↔◌, ℕ, zero, suc, ◌+◌, ◌<◌, List, [], ◌∷◌, Bool, true, refl}
use Rattle.std.proofs.Common.{subst, sym, ◌∙◌, ap, ap₂, arith}
use Rattle.air_field.specs.Domain.{IsDomain}
use Rattle.air_field.specs.Ring.{CommRing, AlgebraOver, AlgebraOverLaws, minus}
use Rattle.air_field.specs.Term.{Leaf, first_row, last_row, transition, permutation, challenge}
use Rattle.air_field.specs.Value.{value}
use Rattle.air_field.specs.Assignment.{row_at}
use Rattle.air_field.specs.laws.Distinct.{AtMost-weaker}
use Rattle.air_field.specs.laws.Ring.{neg_zero}
use Rattle.air_field.specs.laws.RingSolver.{var, plus, opp, less, ring}
use Rattle.air_report.specs.Instances.{Instance, instance_trace, row_count}
use Rattle.air_report.specs.Permuted.{PermutationTrace, permutation_at}
use Rattle.air_lookup.specs.Balance.{sum_of}
use Rattle.air_lookup.specs.Columns.{Interaction, ExtVanish, entries_at, AreRows}
use Rattle.air_lookup.specs.Gadgets.{groups_with, FewGadgetsPass}
use Rattle.air_lookup.specs.Groups.{denominator, numerator, AreGroupShares, GroupsBalance, denominator_term, numerator_term, gadget_terms, groups_from}
use Rattle.air_lookup.specs.Theorem.{challenge_of}
use Rattle.air_lookup.specs.Tuples.{AllAvoid, only_challenges, leaves_with, AgreeBut, PassesBeside}
use Rattle.air_lookup.specs.laws.Columns.{equal_of_minus, zero_of_one}
use Rattle.air_lookup.specs.laws.Groups.{few_groups_balance}
use Rattle.air_lookup.specs.laws.Traces.{leaves, part_vanishes, are_rows}
use Rattle.air_lookup.specs.laws.Tuples.{row_beside}

module _ {F E : Type 0} (r : CommRing F) (a : AlgebraOver F E) (laws : AlgebraOverLaws r a) where
  denominator_is : (s : Leaf → E) (c : ℕ) (alpha : E) → s (challenge c) ≡ alpha → (xs : List (Interaction F))
      → value a s (denominator_term r c xs) ≡ denominator a.ring alpha (entries_at a s xs)
  denominator_is s c alpha is [] = laws.embed_one
  denominator_is s c alpha is (x ∷ xs) = ap₂ (λ y d. a.ring.mul (minus a.ring y (value a s x.value)) d) is (denominator_is s c alpha is xs)

  numerator_is : (s : Leaf → E) (c : ℕ) (alpha : E) → s (challenge c) ≡ alpha → (xs : List (Interaction F))
      → value a s (numerator_term r c xs) ≡ numerator a.ring alpha (entries_at a s xs)
  numerator_is s c alpha is [] = laws.embed_zero
  numerator_is s c alpha is (x ∷ xs) =
      ap₂ a.ring.add (ap (a.ring.mul (value a s x.multiplicity)) (denominator_is s c alpha is xs))
      (ap₂ (λ y n. a.ring.mul (minus a.ring y (value a s x.value)) n) is (numerator_is s c alpha is xs))

  module _ (k c : ℕ) (xs : List (Interaction F)) (n : ℕ) (alpha : E) (s : ℕ → Leaf → E) (rows : AreRows a.ring.one n c alpha s)
      (vanish : (i : ℕ) → i < n → ExtVanish a (s i) (gadget_terms r k c xs)) where
    abbrev acc : ℕ → E
    acc i = s i (permutation 0 k)

    abbrev shares_from : ℕ → ℕ → List E
    shares_from i zero = []
    shares_from i (suc zero) = a.ring.neg (acc i) ∷ []
    shares_from i (suc (suc m)) = minus a.ring (acc (suc i)) (acc i) ∷ shares_from (suc i) (suc m)

    telescoped : (x y : E) → a.ring.add (minus a.ring y x) (a.ring.neg y) ≡ a.ring.neg x
    telescoped x y = ring a.ring (x ∷ y ∷ []) (plus (less (var 1) (var 0)) (opp (var 1))) (opp (var 0)) refl

    sum_from : (i m : ℕ) → sum_of a.ring (shares_from i (suc m)) ≡ a.ring.neg (acc i)
    sum_from i zero = a.ring.add_zero (a.ring.neg (acc i))
    sum_from i (suc m) = ap (a.ring.add (minus a.ring (acc (suc i)) (acc i))) (sum_from (suc i) m) ∙ telescoped (acc i) (acc (suc i))

    share_is : (i : ℕ) → i < n → (x : E) → a.ring.mul x (value a (s i) (denominator_term r c xs)) ≡ value a (s i) (numerator_term r c xs)
        → a.ring.mul x (denominator a.ring alpha (entries_at a (s i) xs)) ≡ numerator a.ring alpha (entries_at a (s i) xs)
    share_is i lt x h =
        ap (a.ring.mul x) (sym (denominator_is (s i) c alpha (rows.challenge_is i lt) xs)) ∙ (h ∙ numerator_is (s i) c alpha (rows.challenge_is i lt) xs)

    shares_are : (i m : ℕ) → i + m ≡ n → AreGroupShares a.ring alpha (groups_from a s xs i m) (shares_from i m)
    shares_are i zero e = tt
    shares_are i (suc zero) e =
        let lt : i < n = omega (arith, e) in (
          share_is i lt (a.ring.neg (acc i))
              (equal_of_minus a.ring _ _ (zero_of_one a.ring _ (s i last_row) (rows.last i (omega (arith, e))) (vanish i lt).1.1.0)),
          tt,
        )
    shares_are i (suc (suc m)) e =
        let lt : i < n = omega (arith, e) in
        let inside : suc i < n = omega (arith, e) in (
          ap (λ y. a.ring.mul (minus a.ring y (acc i)) (denominator a.ring alpha (entries_at a (s i) xs))) (sym (rows.next i inside k))
              ∙ share_is i lt (minus a.ring (s i (permutation 1 k)) (acc i))
              (equal_of_minus a.ring _ _ (zero_of_one a.ring _ (s i transition) (rows.on_transition i inside) (vanish i lt).1.0)),
          shares_are (suc i) (suc m) (omega (arith, e)),
        )

    balance_at : (m : ℕ) → 0 + m ≡ n → GroupsBalance a.ring alpha (groups_from a s xs 0 m)
    balance_at zero e = record { shares = []; are_shares = tt; sum = refl }
    balance_at (suc m) e = record {
      shares = shares_from 0 (suc m);
      are_shares = shares_are 0 (suc m) e;
      sum = sum_from 0 m ∙ (ap a.ring.neg (zero_of_one a.ring (acc 0) (s 0 first_row) rows.first (vanish 0 (omega (arith, e))).0) ∙ neg_zero a.ring);
    }

    -- the groups of all rows balance at the challenge
    pub gadget_balances : GroupsBalance a.ring alpha (groups_from a s xs 0 n)
    gadget_balances = balance_at n (omega arith)

module _ {F E : Type 0} (r : CommRing F) (a : AlgebraOver F E) (c : ℕ) where
  groups_beside : (g : Instance F) (q : PermutationTrace E) (challenges : List E) → AgreeBut a.ring.zero c q.challenges challenges
      → (xs : List (Interaction F)) → AllAvoid c xs → (i n : ℕ)
      → groups_from a (leaves r a g q) xs i n ≡ groups_from a (leaves_with r a g challenges) xs i n
  groups_beside g q challenges agree xs h i zero = refl
  groups_beside g q challenges agree xs h i (suc n) =
      ap₂ (λ e es. e ∷ es) (row_beside r a c (row_at r (instance_trace g) i) (permutation_at q i) (only_challenges challenges) agree xs h)
      (groups_beside g q challenges agree xs h (suc i) n)

module _ {F E : Type 0} (r : CommRing F) (a : AlgebraOver F E) (eq : F → F → Bool) (ext_eq : E → E → Bool) (decides : (x y : E) → (ext_eq x y ≡ true) ↔ (x ≡ y))
    (laws : AlgebraOverLaws r a) where
  pub few_gadgets_pass : IsDomain a.ring → FewGadgetsPass r a eq ext_eq
  few_gadgets_pass domain g k c xs avoid has challenges v other =
      let gs = groups_with r a g challenges xs in
      AtMost-weaker {P = λ alpha. GroupsBalance a.ring alpha gs} {Q = λ alpha. PassesBeside r a eq ext_eq g c challenges alpha}
      (λ alpha h.
      let q = h.permutation in
      let balance = gadget_balances r a laws k c xs (row_count g) (challenge_of a q c) (leaves r a g q) (are_rows r a laws g q c h.lists.height)
      (part_vanishes r a eq ext_eq decides g q (gadget_terms r k c xs) has h.lists) in
      subst (λ x. GroupsBalance a.ring x gs) h.challenge_is
      (subst (GroupsBalance a.ring (challenge_of a q c)) (groups_beside r a c g q challenges h.beside xs avoid 0 (row_count g)) balance))
      (few_groups_balance a.ring ext_eq decides domain gs v other)
