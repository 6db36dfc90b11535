-- The report on one more row.
use Rattle.std.proofs.Common.{◌≡◌, ℕ, zero, suc, ◌+◌, List, [], ◌∷◌, ◌++◌, map, Bool, true, false, not, cond, refl, ◌∙◌, ap, arith}
use Rattle.std.specs.List.{filter, flat_map, range_with_len, enumerate_from}
use Rattle.std.proofs.lemmas.List.{map-append, append-nil}
use Rattle.std.proofs.lemmas.List.Elements.{filter-append}
use Rattle.std.proofs.lemmas.Grind.{flat_map-append}
use Rattle.air_field.specs.Ring.{CommRing}
use Rattle.air_field.specs.Assignment.{Trace, row_assignment}
use Rattle.air_builder.specs.Assertion.{Assertion}
use Rattle.air_report.specs.Report.{all_places, place, report_by, report_of, zero_at}
use Rattle.air_report.specs.Debug.{nonzero_by, nonzero_from}

range_more : (a n : ℕ) → range_with_len a (suc n) ≡ range_with_len a n ++ (a + n) ∷ []
range_more a zero = ap (λ m. m ∷ []) (omega arith)
range_more a (suc n) =
    let e : (a + 1) + n ≡ a + suc n = omega arith in
    ap (λ l. a ∷ l) (range_more (a + 1) n ∙ ap (λ m. range_with_len (a + 1) n ++ m ∷ []) e)

all_places-more : {F : Type 0} (ts : List (Assertion F)) (h : ℕ) → all_places (suc h) ts ≡ all_places h ts ++ map (λ p. (h, p)) (enumerate_from 0 ts)
all_places-more {F = F} ts h =
    let f : ℕ → List (ℕ × (ℕ × Assertion F)) = λ r. map (λ p. (r, p)) (enumerate_from 0 ts) in
    let e : 0 + h ≡ h = omega arith in
    ap (flat_map f) (range_more 0 h ∙ ap (λ m. range_with_len 0 h ++ m ∷ []) e)
    ∙ (flat_map-append f (range_with_len 0 h) (h ∷ []) ∙ ap (λ l. flat_map f (range_with_len 0 h) ++ l) (append-nil (f h)))

module _ {F : Type 0} (zero_at : ℕ → Assertion F → Bool) where
  row_places : (h : ℕ) (es : List (ℕ × Assertion F))
      → map place (filter (λ p. not (zero_at p.0 p.1.1)) (map (λ p. (h, p)) es))
      ≡ map (λ k. (h, k)) (map (λ p. p.0) (filter (λ p. not (zero_at h p.1)) es))
  row_places h [] = refl
  row_places h (e ∷ es) = step (not (zero_at h e.1)) _ _ (row_places h es)
    where
      step : (b : Bool) (us : List (ℕ × (ℕ × Assertion F))) (vs : List (ℕ × Assertion F))
          → map place us ≡ map (λ k. (h, k)) (map (λ (p : ℕ × Assertion F). p.0) vs)
          → map place (cond b ((h, e) ∷ us) us)
          ≡ map (λ k. (h, k)) (map (λ (p : ℕ × Assertion F). p.0) (cond b (e ∷ vs) vs))
      step b us vs q = elim b as
          (λ c. map place (cond c ((h, e) ∷ us) us)
          ≡ map (λ k. (h, k)) (map (λ (p : ℕ × Assertion F). p.0) (cond c (e ∷ vs) vs))) [
            | true ↦ ap (λ l. (h, e.0) ∷ l) q
            | false ↦ q
          ]

  -- one more row
  pub report_by-more : (ts : List (Assertion F)) (h : ℕ)
      → report_by zero_at ts (h + 1) ≡ report_by zero_at ts h ++ map (λ k. (h, k)) (nonzero_by (zero_at h) 0 ts)
  report_by-more ts h =
      let test : ℕ × (ℕ × Assertion F) → Bool = λ p. not (zero_at p.0 p.1.1) in
      let s : h + 1 ≡ suc h = omega arith in
      ap (λ n. report_by zero_at ts n) s
      ∙ (ap (λ l. map place (filter test l)) (all_places-more ts h)
      ∙ (ap (map place) (filter-append test (all_places h ts) (map (λ p. (h, p)) (enumerate_from 0 ts)))
      ∙ (map-append place (filter test (all_places h ts)) (filter test (map (λ p. (h, p)) (enumerate_from 0 ts)))
      ∙ ap (λ l. report_by zero_at ts h ++ l) (row_places h (enumerate_from 0 ts)))))

pub report_of-more : {F : Type 0} (r : CommRing F) (eq : F → F → Bool) (trace : Trace F) (ts : List (Assertion F)) (h : ℕ)
    → report_of r eq trace ts (h + 1) ≡ report_of r eq trace ts h ++ map (λ k. (h, k)) (nonzero_from r eq (row_assignment r trace h) 0 ts)
report_of-more r eq trace ts h = report_by-more (zero_at r eq trace) ts h
