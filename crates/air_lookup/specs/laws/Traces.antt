-- What an empty report says of a lookup argument.
use Rattle.std.specs.Prelude.{◌≡◌, ◌↔◌, ◌==◌, if◌then◌else◌}
use Rattle.std.proofs.Common.{ℕ, zero, suc, ◌+◌, ◌<◌, List, [], ◌∷◌, ◌++◌, length, map, Bool, true, false, slice_get, slice_index_or, refl, ap, ap₂, subst, ◌∙◌, arith, eq-eqb}
use Rattle.std.proofs.Math.Nat.{mod-eq_of_lt}
use borrow.Author.Tests.{eqb-true}
use Rattle.air_field.specs.Domain.{IsDomain}
use Rattle.air_field.specs.Ring.{CommRing, AlgebraOver, AlgebraOverLaws}
use Rattle.air_field.specs.Term.{Leaf}
use Rattle.air_field.specs.Value.{value}
use Rattle.air_field.specs.Assignment.{row_at, row_or_none}
use Rattle.air_field.specs.OneRow.{one_row_value}
use Rattle.air_field.specs.laws.Distinct.{AtMost-weaker}
use Rattle.air_builder.specs.Assertion.{Assertion, Base, Extension}
use Rattle.air_report.specs.Instances.{Instance, instance_trace, row_count}
use Rattle.air_report.specs.Permuted.{PermutationTrace, HasHeight, permutation_at, permuted_zero}
use Rattle.air_report.specs.laws.Over.{base_embedded}
use Rattle.air_report.specs.laws.VanishingReports.{EachZero, all_zero}
use Rattle.air_lookup.specs.Balance.{Entry, Balances}
use Rattle.air_lookup.specs.Columns.{Interaction, Places, lookup_terms, ExtVanish, entries_at, entries_below, AreRows, AreBase, Includes}
use Rattle.air_lookup.specs.Theorem.{trace_entries, on_row, ListsNothing, challenge_of, PassesAt, FewChallengesPass}
use Rattle.air_lookup.specs.laws.Balance.{few_balance}
use Rattle.air_lookup.specs.laws.Columns.{rows_balance}

each_zero-append : {F : Type 0} (test : Assertion F → Bool) (xs ys : List (Assertion F)) → EachZero test (xs ++ ys) → EachZero test xs × EachZero test ys
each_zero-append test [] ys h = (tt, h)
each_zero-append test (x ∷ xs) ys h = let k = each_zero-append test xs ys h.1 in ((h.0, k.0), k.1)

-- a part of the list
part_zero : {F : Type 0} (test : Assertion F → Bool) (part ts : List (Assertion F)) → Includes part ts → EachZero test ts → EachZero test part
part_zero test part ts is h =
    let whole = subst (EachZero test) is.is_part h in
    (each_zero-append test part is.after (each_zero-append test is.before (part ++ is.after) whole).1).0

-- the assignment of row i of a trace and its permutation trace
abbrev pub leaves : {F E : Type 0} → CommRing F → AlgebraOver F E → Instance F → PermutationTrace E → ℕ → Leaf → E
leaves r a g q i = one_row_value r.zero a (row_at r (instance_trace g) i) (permutation_at q i)

module _ {F E : Type 0} (r : CommRing F) (a : AlgebraOver F E) (eq : F → F → Bool) (ext_eq : E → E → Bool) (decides : (x y : E) → (ext_eq x y ≡ true) ↔ (x ≡ y))
    (g : Instance F) (q : PermutationTrace E) where
  ext_vanish : (i : ℕ) (ts : List (Assertion F)) → EachZero (permuted_zero r a eq ext_eq g q i) ts → ExtVanish a (leaves r a g q i) ts
  ext_vanish i [] h = tt
  ext_vanish i (Base t ∷ ts) h = ext_vanish i ts h.1
  ext_vanish i (Extension t ∷ ts) h = ((decides (value a (leaves r a g q i) t) a.ring.zero).0 h.0, ext_vanish i ts h.1)

  -- if the report is empty, a part of the declared list vanishes at each row
  pub part_vanishes : (part : List (Assertion F)) → Includes part g.air.constraints → ListsNothing r a eq ext_eq g q
      → (i : ℕ) → i < row_count g → ExtVanish a (leaves r a g q i) part
  part_vanishes part is lists i lt =
      ext_vanish i part (part_zero (permuted_zero r a eq ext_eq g q i) part g.air.constraints is
      (all_zero (permuted_zero r a eq ext_eq g q) g.air.constraints (row_count g) lists.nothing i lt))

module _ {F E : Type 0} (r : CommRing F) (a : AlgebraOver F E) (laws : AlgebraOverLaws r a) (g : Instance F) (q : PermutationTrace E) where
  not_last : (i h : ℕ) (b : Bool) → suc i < h → (b ≡ true → i + 1 ≡ h) → a.embed (if b then r.zero else r.one) ≡ a.ring.one
  not_last i h true lt e = let same : i + 1 ≡ h = e refl in absurd (omega (arith, lt, same))
  not_last i h false lt e = laws.embed_one

  is_last : (b : Bool) → b ≡ true → a.embed (if b then r.one else r.zero) ≡ a.ring.one
  is_last true e = laws.embed_one
  is_last false e = cc

  pub are_rows : (c : ℕ) → HasHeight g q → AreRows a.ring.one (row_count g) c (challenge_of a q c) (leaves r a g q)
  are_rows c high = record {
    first = laws.embed_one;
    on_transition = λ i lt. not_last i (row_count g) (i + 1 == row_count g) lt (eqb-true (i + 1) (row_count g));
    last = λ i e. is_last (i + 1 == row_count g) (eq-eqb (i + 1) (row_count g) (omega (arith, e)));
    next = λ i lt k.
        let up : i + 1 ≡ suc i = omega arith in
        let low : i + 1 < length q.trace.rows = omega (arith, lt, high) in
        ap (λ j. slice_index_or (row_or_none (slice_get q.trace.rows j)) k a.ring.zero) (mod-eq_of_lt low ∙ up);
    challenge_is = λ i lt. refl;
  }

  entry : E → E → Entry E
  entry m n = record { value = m; multiplicity = n }

  row_entries : (i : ℕ) (xs : List (Interaction F)) → AreBase xs → entries_at a (leaves r a g q i) xs
      ≡ map (λ x. record { value = a.embed (on_row r g i x.value); multiplicity = a.embed (on_row r g i x.multiplicity) }) xs
  unfolding entry
  row_entries i [] h = refl
  row_entries i (x ∷ xs) h =
      let v = row_at r (instance_trace g) i in
      let p = permutation_at q i in
      ap₂ (λ e es. e ∷ es) (ap₂ entry (base_embedded r a laws x.value h.0 v p) (base_embedded r a laws x.multiplicity h.1 v p)) (row_entries i xs h.2)

  -- base interactions give the same entries with any permutation data
  pub below_entries : (xs : List (Interaction F)) → AreBase xs → (n : ℕ) → entries_below a (leaves r a g q) xs n ≡ trace_entries r a g xs n
  below_entries xs base zero = refl
  below_entries xs base (suc n) = ap₂ (λ es fs. es ++ fs) (below_entries xs base n) (row_entries n xs base)

module _ {F E : Type 0} (r : CommRing F) (a : AlgebraOver F E) (eq : F → F → Bool) (ext_eq : E → E → Bool) (decides : (x y : E) → (ext_eq x y ≡ true) ↔ (x ≡ y))
    (laws : AlgebraOverLaws r a) where
  -- if the report is empty, the entries of all rows balance at the challenge
  pub lookup_balances : (g : Instance F) (p : Places) (xs : List (Interaction F)) → Includes (lookup_terms r p xs) g.air.constraints
      → (q : PermutationTrace E) → ListsNothing r a eq ext_eq g q
      → Balances a.ring (challenge_of a q p.challenge) (entries_below a (leaves r a g q) xs (row_count g))
  lookup_balances g p xs has q lists =
      rows_balance r a laws.embed_zero p xs (row_count g) (challenge_of a q p.challenge) (leaves r a g q) (are_rows r a laws g q p.challenge lists.height)
      (part_vanishes r a eq ext_eq decides g q (lookup_terms r p xs) has lists)

  pub few_challenges_pass : IsDomain a.ring → FewChallengesPass r a eq ext_eq
  few_challenges_pass domain g p xs base has v other =
      let es = trace_entries r a g xs (row_count g) in
      AtMost-weaker {P = λ alpha. Balances a.ring alpha es} {Q = λ alpha. PassesAt r a eq ext_eq g p.challenge alpha}
      (λ alpha h. subst (λ x. Balances a.ring x es) h.challenge_is
      (subst (Balances a.ring (challenge_of a h.permutation p.challenge)) (below_entries r a laws g h.permutation xs base (row_count g))
      (lookup_balances g p xs has h.permutation h.lists)))
      (few_balance a.ring ext_eq v decides domain es other)
