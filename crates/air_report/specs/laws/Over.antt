-- The report of a check with permutation data, where every term is evaluated over the extension.
use Rattle.std.specs.Prelude.{◌≡◌, ◌↔◌, ◌⊎◌}
use Rattle.std.proofs.Common.{Option, length, ℕ, zero, suc, ◌+◌, List, [], ◌∷◌, ◌++◌, map, Bool, true, false, not, cond, refl, sym, ap, ap₂, subst, ◌∙◌}
use Rattle.std.specs.List.{filter, flat_map, range_with_len, enumerate_from}
use Rattle.std.proofs.lemmas.List.Elements.{filter-append}
use Rattle.air_field.specs.Ring.{CommRing, AlgebraOver, AlgebraOverLaws, self_algebra}
use Rattle.air_field.specs.Term.{Leaf, Term, preprocessed, main, periodic, public, first_row, last_row, transition, permutation, challenge, permutation_value}
use Rattle.air_field.specs.Term.{leaf_term, const_term, ext_const_term, add_term, sub_term, neg_term, mul_term, IsBase}
use Rattle.air_field.specs.Value.{value}
use Rattle.air_field.specs.Assignment.{RowValues, leaf_value, row_at}
use Rattle.air_field.specs.OneRow.{PermutationData, one_row_value}
use Rattle.air_field.specs.laws.Value.{value-embed}
use Rattle.air_builder.specs.Assertion.{Assertion, Base, Extension}
use Rattle.air_report.specs.Cells.{violated_cells, take_within_cap, ListsCells}
use Rattle.air_report.specs.Debug.{ext_row_leaves}
use Rattle.air_report.specs.Instances.{Instance, instance_trace, row_count}
use Rattle.air_report.specs.Permuted.{PermutationTrace, permutation_at, permuted_row, permuted_zero, value_over, zero_over, IsEmbedded, BaseEmbedded}
use Rattle.air_report.specs.Permuted.{BaseTermsAreBase, IsPermutedReport, IsReportOver}
use Rattle.air_report.specs.Report.{all_places, place, report_by, constraints_counted, IsReached}
use Rattle.air_report.specs.declared.checks.report.ConstraintReport.{ConstraintReport}

module _ {F E : Type 0} (r : CommRing F) (a : AlgebraOver F E) where
  base_leaf : (v : RowValues F) (p : PermutationData E) (t : Term F) → IsBase t
      → value a (one_row_value r.zero a v p) t ≡ value a (λ l. a.embed (leaf_value r.zero v l)) t
  base_leaf v p (leaf_term (preprocessed o i)) h = refl
  base_leaf v p (leaf_term (main o i)) h = refl
  base_leaf v p (leaf_term (periodic i)) h = refl
  base_leaf v p (leaf_term (public i)) h = refl
  base_leaf v p (leaf_term first_row) h = refl
  base_leaf v p (leaf_term last_row) h = refl
  base_leaf v p (leaf_term transition) h = refl
  base_leaf v p (leaf_term (permutation o i)) h = absurd h
  base_leaf v p (leaf_term (challenge i)) h = absurd h
  base_leaf v p (leaf_term (permutation_value i)) h = absurd h
  base_leaf v p (const_term c) h = refl
  base_leaf v p (ext_const_term c) h = absurd h
  base_leaf v p (add_term t u) h = ap₂ a.ring.add (base_leaf v p t h.0) (base_leaf v p u h.1)
  base_leaf v p (sub_term t u) h = ap₂ (λ x y. a.ring.add x (a.ring.neg y)) (base_leaf v p t h.0) (base_leaf v p u h.1)
  base_leaf v p (neg_term t) h = ap a.ring.neg (base_leaf v p t h)
  base_leaf v p (mul_term t u) h = ap₂ a.ring.mul (base_leaf v p t h.0) (base_leaf v p u h.1)

  module _ (laws : AlgebraOverLaws r a) where
    -- a term of base leaves and constants is embedded
    pub base_embedded : (t : Term F) → IsBase t → IsEmbedded r a t
    base_embedded t h v q = base_leaf v q t h ∙ value-embed r a laws (leaf_value r.zero v) t h

    -- and so is a term with the values of such a term
    pub recorded_embedded : (u t : Term F) → IsBase u → ((s : Leaf → F) → value (self_algebra r) s u ≡ value (self_algebra r) s t)
        → ((s : Leaf → E) → value a s u ≡ value a s t) → IsEmbedded r a t
    recorded_embedded u t base own over v q =
        sym (over (one_row_value r.zero a v q)) ∙ (base_embedded u base v q ∙ ap a.embed (own (leaf_value r.zero v)))

    pub base_terms_embedded : (ts : List (Assertion F)) → BaseTermsAreBase ts → BaseEmbedded r a ts
    base_terms_embedded [] h = tt
    base_terms_embedded (Base t ∷ ts) h = (base_embedded t h.0, base_terms_embedded ts h.1)
    base_terms_embedded (Extension t ∷ ts) h = base_terms_embedded ts h

    module _ (eq : F → F → Bool) (decides : (x y : F) → (eq x y ≡ true) ↔ (x ≡ y))
        (ext_eq : E → E → Bool) (ext_decides : (x y : E) → (ext_eq x y ≡ true) ↔ (x ≡ y))
        (same_in : (x y : F) → a.embed x ≡ a.embed y → x ≡ y) (g : Instance F) (p : PermutationTrace E) where
      same_test : (b c : Bool) → (b ≡ true → c ≡ true) → (c ≡ true → b ≡ true) → b ≡ c
      same_test true c f h = sym (f refl)
      same_test false true f h = h refl
      same_test false false f h = refl

      tested : (x : F) (y : E) → y ≡ a.embed x → eq x r.zero ≡ ext_eq y a.ring.zero
      tested x y is =
          same_test (eq x r.zero) (ext_eq y a.ring.zero)
          (λ h. (ext_decides y a.ring.zero).1 (is ∙ (ap a.embed ((decides x r.zero).0 h) ∙ laws.embed_zero)))
          (λ h. (decides x r.zero).1 (same_in x r.zero (sym is ∙ ((ext_decides y a.ring.zero).0 h ∙ sym laws.embed_zero))))

      abbrev in_field : ℕ × (ℕ × Assertion F) → Bool
      in_field q = not (permuted_zero r a eq ext_eq g p q.0 q.1.1)

      abbrev over_ext : ℕ × (ℕ × Assertion F) → Bool
      over_ext q = not (zero_over r a ext_eq g p q.0 q.1.1)

      -- both tests find the same nonzero assertions of a row
      row_same : (i n : ℕ) (ts : List (Assertion F)) → BaseEmbedded r a ts
          → filter in_field (map (λ q. (i, q)) (enumerate_from n ts))
          ≡ filter over_ext (map (λ q. (i, q)) (enumerate_from n ts))
      row_same i n [] h = refl
      row_same i n (Base t ∷ ts) h =
          ap₂ (λ b l. cond (not b) ((i, (n, Base t)) ∷ l) l)
          (tested (value (self_algebra r) (leaf_value r.zero (row_at r (instance_trace g) i)) t) (value a (ext_row_leaves r a (permuted_row r (instance_trace g) p i)) t)
          (h.0 (row_at r (instance_trace g) i) (permutation_at p i)))
          (row_same i (n + 1) ts h.1)
      row_same i n (Extension t ∷ ts) h =
          ap (λ l. cond (not (ext_eq (value a (ext_row_leaves r a (permuted_row r (instance_trace g) p i)) t) a.ring.zero)) ((i, (n, Extension t)) ∷ l) l)
          (row_same i (n + 1) ts h)

      rows_same : (ts : List (Assertion F)) → BaseEmbedded r a ts → (b n : ℕ)
          → filter in_field (flat_map (λ i. map (λ q. (i, q)) (enumerate_from 0 ts)) (range_with_len b n))
          ≡ filter over_ext (flat_map (λ i. map (λ q. (i, q)) (enumerate_from 0 ts)) (range_with_len b n))
      rows_same ts h b zero = refl
      rows_same ts h b (suc n) =
          let rest : List (ℕ × (ℕ × Assertion F)) = flat_map (λ i. map (λ q. (i, q)) (enumerate_from 0 ts)) (range_with_len (b + 1) n) in
          let here : List (ℕ × (ℕ × Assertion F)) = map (λ q. (b, q)) (enumerate_from 0 ts) in
          filter-append in_field here rest
          ∙ (ap₂ (λ xs ys. xs ++ ys) (row_same b 0 ts h) (rows_same ts h (b + 1) n)
          ∙ sym (filter-append over_ext here rest))

      -- the report lists the pairs whose values over the extension aren't zero
      pub report_over : (ts : List (Assertion F)) (h : ℕ) → BaseEmbedded r a ts
          → report_by (permuted_zero r a eq ext_eq g p) ts h ≡ report_by (zero_over r a ext_eq g p) ts h
      report_over ts h base = ap (map place) (rows_same ts base 0 h)

      pub permuted_report_over : BaseEmbedded r a g.air.constraints → (cap : Option ℕ) (report : ConstraintReport)
          → IsPermutedReport r a eq ext_eq g p cap report → IsReportOver r a eq ext_eq g p cap report
      permuted_report_over base cap report h =
          let ts = g.air.constraints in
          let listed : ℕ → List (ℕ × ℕ) = report_by (zero_over r a ext_eq g p) ts in
          let same : (k : ℕ) → report_by (permuted_zero r a eq ext_eq g p) ts k ≡ listed k = λ k. report_over ts k base in
          record {
            shapes = h.shapes;
            shown = h.shown;
            ran = record {
              rows = record {
                within = h.ran.rows.within;
                enough = subst (λ l. (h.shown ≡ row_count g) ⊎ IsReached cap (length l)) (same h.shown) h.ran.rows.enough;
                least = λ k lt reached. h.ran.rows.least k lt (subst (λ l. IsReached cap (length l)) (sym (same k)) reached);
              };
              there = h.ran.there;
            };
            cells = h.cells;
            of_rows = h.of_rows;
            places = h.places ∙ same h.shown;
            lists = subst (λ l. ListsCells (row_count g) (constraints_counted ts h.shown)
                (take_within_cap cap (length l) (violated_cells r eq g.main g.public g.air.cells)) h.of_rows report.failures.items) (same h.shown) h.lists;
            rows = h.rows;
            count = h.count;
          }
