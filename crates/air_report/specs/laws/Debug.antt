-- The debug builder keeps the laws of builders.
use Rattle.std.specs.Prelude.{◌≡◌, ◌⊎◌, ℕ, List, [], ◌∷◌, ◌++◌, length, map, Bool, true, false, not, cond, refl}
use Rattle.std.specs.List.{filter, enumerate_from}
use Rattle.std.proofs.Common.{inl, inr, sym, ◌∙◌, ap, subst, arith, append_assoc, length-append, ◌+◌}
use Rattle.std.proofs.lemmas.List.{map-append, append-nil}
use Rattle.std.proofs.lemmas.List.Elements.{filter-append}
use Rattle.air_field.specs.Term.{Leaf, Term}
use Rattle.air_field.specs.Assignment.{Shape}
use Rattle.air_field.specs.OneRow.{one_row_shape}
use Rattle.air_builder.specs.Assertion.{Assertion}
use Rattle.air_builder.specs.Builders.{BuilderLaws}
use Rattle.air_builder.specs.Refusals.{NamesLeaf}
use Rattle.air_builder.specs.laws.RowBuilders.{row_view, row_over, GrowsAtRow, row_laws, row_extension_laws}
use Rattle.air_builder.specs.Extensions.{ExtensionRingLaws}
use Rattle.air_builder.specs.Refused.{Refused}
use Rattle.air_builder.specs.laws.Refused.{Refused-first, Refused-then, Refused-missing}
use Rattle.air_core.specs.declared.errors.AirError.{AirError}
use Rattle.air_core.specs.declared.errors.AirError.TheVariants.{Memory}
use Rattle.air_report.specs.Report.{failure_place}
use Rattle.air_report.specs.Debug.{RowData, nonzero_by, GrewAtRow}
use Rattle.air_report.specs.declared.debug.failure.ConstraintFailure.{ConstraintFailure}
use Rattle.air_report.specs.RowRefusals.{RowMissing, IsFull, SomeNonzero, RefusedAtRow}

pub enumerate_from-append : {X : Type 0} (n : ℕ) (xs ys : List X) → enumerate_from n (xs ++ ys) ≡ enumerate_from n xs ++ enumerate_from (n + length xs) ys
enumerate_from-append n [] ys = ap (λ m. enumerate_from m ys) (omega arith)
enumerate_from-append n (x ∷ xs) ys =
    let e : (n + 1) + length xs ≡ n + length (x ∷ xs) = omega arith in
    ap (λ l. (n, x) ∷ l) (enumerate_from-append (n + 1) xs ys ∙ ap (λ m. enumerate_from (n + 1) xs ++ enumerate_from m ys) e)

-- an AIR refuses with its own `Memory`, or as its builder does
pub refused_anyway : {F E : Type 0} {zero : RowData F E → Assertion F → Bool} {d : RowData F E} {n : ℕ}
    {ts : List (Assertion F)} (e : AirError)
    → (e ≡ Memory) ⊎ RefusedAtRow zero d n e ts → Refused (RowMissing d) (λ _. ⊥) (IsFull n) e ts
refused_anyway {d = d} {n = n} {ts = ts} e (inl m) = subst (λ x. Refused (RowMissing d) (λ _. ⊥) (IsFull n) x ts) (sym m) tt
refused_anyway e (inr h) = h.refused

SomeNonzero-first : {F : Type 0} (zero : Assertion F → Bool) (xs ys : List (Assertion F)) → SomeNonzero zero xs → SomeNonzero zero (xs ++ ys)
SomeNonzero-first zero [] ys h = absurd h
SomeNonzero-first zero (x ∷ xs) ys (inl h) = inl h
SomeNonzero-first zero (x ∷ xs) ys (inr h) = inr (SomeNonzero-first zero xs ys h)

SomeNonzero-then : {F : Type 0} (zero : Assertion F → Bool) (xs ys : List (Assertion F)) → SomeNonzero zero ys → SomeNonzero zero (xs ++ ys)
SomeNonzero-then zero [] ys h = h
SomeNonzero-then zero (x ∷ xs) ys h = inr (SomeNonzero-then zero xs ys h)

nonzero_by-append : {F : Type 0} (zero : Assertion F → Bool) (n : ℕ) (xs ys : List (Assertion F)) → nonzero_by zero n (xs ++ ys) ≡ nonzero_by zero n xs ++ nonzero_by zero (n + length xs) ys
nonzero_by-append {F} zero n xs ys =
    let test : ℕ × Assertion F → Bool = λ p. not (zero p.1) in
    ap (λ l. map (λ p. p.0) (filter test l)) (enumerate_from-append n xs ys)
    ∙ (ap (λ l. map (λ p. p.0) l) (filter-append test (enumerate_from n xs) (enumerate_from (n + length xs) ys))
    ∙ map-append (λ p. p.0) (filter test (enumerate_from n xs)) (filter test (enumerate_from (n + length xs) ys)))

module _ {F E : Type 0} (zero : RowData F E → Assertion F → Bool) where
  pub same_at_row : (d : RowData F E) (m : ℕ) (fs : List ConstraintFailure) → GrewAtRow zero d d m m fs fs []
  same_at_row d m fs = record { same_row = refl; count = omega arith; more = []; failures = sym (append-nil fs); places = refl }

  pub joined_at_row : (d e f : RowData F E) (m n k : ℕ) (fs gs hs : List ConstraintFailure)
      (xs ys : List (Assertion F))
      → GrewAtRow zero d e m n fs gs xs → GrewAtRow zero e f n k gs hs ys → GrewAtRow zero d f m k fs hs (xs ++ ys)
  joined_at_row d e f m n k fs gs hs xs ys g h =
      let at : RowData F E → ℕ → List (Assertion F) → List (ℕ × ℕ) = λ c j ts. map (λ i. (c.row, i)) (nonzero_by (zero c) j ts) in
      let later : at e n ys ≡ at d (m + length xs) ys = ap (λ c. at c n ys) g.same_row ∙ ap (λ j. at d j ys) g.count in
      record {
        same_row = h.same_row ∙ g.same_row;
        count = omega (arith, length-append xs ys, g.count, h.count);
        more = g.more ++ h.more;
        failures = h.failures ∙ (ap (λ us. us ++ h.more) g.failures ∙ append_assoc fs g.more h.more);
        places = map-append failure_place g.more h.more
            ∙ (ap (λ us. us ++ map failure_place h.more) g.places
            ∙ (ap (λ us. at d m xs ++ us) (h.places ∙ later)
            ∙ (sym (map-append (λ i. (d.row, i)) (nonzero_by (zero d) m xs) (nonzero_by (zero d) (m + length xs) ys))
            ∙ ap (λ l. map (λ i. (d.row, i)) l) (sym (nonzero_by-append (zero d) m xs ys)))));
      }

  -- one assertion
  module _ (d f : RowData F E) (m n : ℕ) (fs gs : List ConstraintFailure) (s : Assertion F) (same : f ≡ d) (count : n ≡ m + 1) where
    pub asserted_zero : zero d s ≡ true → gs ≡ fs → GrewAtRow zero d f m n fs gs (s ∷ [])
    asserted_zero z p =
        record {
          same_row = same;
          count = omega (arith, count);
          more = [];
          failures = p ∙ sym (append-nil fs);
          places = ap (λ c. map (λ i. (d.row, i)) (map (λ (p : ℕ × Assertion F). p.0) (cond (not c) ((m, s) ∷ []) []))) (sym z);
        }

    pub asserted_other : (failure : ConstraintFailure) → zero d s ≡ false → gs ≡ fs ++ failure ∷ [] → failure_place failure ≡ (d.row, m) → GrewAtRow zero d f m n fs gs (s ∷ [])
    asserted_other failure z p q =
        record {
          same_row = same;
          count = omega (arith, count);
          more = failure ∷ [];
          failures = p;
          places = ap (λ x. x ∷ []) q ∙ ap (λ c. map (λ i. (d.row, i)) (map (λ (p : ℕ × Assertion F). p.0) (cond (not c) ((m, s) ∷ []) []))) (sym z);
        }

  module _ {S : Type 0} (data_of : S → RowData F E) (count : S → ℕ) (failures : S → List ConstraintFailure) where
    -- a builder of the same row, counter and failures grew by nothing
    unchanged : (a b : S) → data_of b ≡ data_of a → count b ≡ count a → failures b ≡ failures a → GrewAtRow zero (data_of a) (data_of b) (count a) (count b) (failures a) (failures b) []
    unchanged a b d c f =
        let s = same_at_row (data_of a) (count a) (failures a) in
        record { same_row = d; count = c ∙ s.count; more = []; failures = f ∙ sym (append-nil (failures a)); places = refl }

    abbrev shape : RowData F E → Shape
    shape d = one_row_shape d.values d.permutation

    abbrev grew : S → S → List (Assertion F) → Type 0
    grew a b ts = GrewAtRow zero (data_of a) (data_of b) (count a) (count b) (failures a) (failures b) ts

    abbrev refuses : S → AirError → List (Assertion F) → Type 0
    refuses b e ts = RefusedAtRow zero (data_of b) (count b) e ts

    grows : (reads_as : RowData F E → Leaf → Term F) → GrowsAtRow data_of shape reads_as grew refuses
    grows reads_as = record {
      same = λ a. same_at_row (data_of a) (count a) (failures a);
      joined = λ a b c xs ys g h. joined_at_row (data_of a) (data_of b) (data_of c) (count a) (count b) (count c) (failures a) (failures b) (failures c) xs ys g h;
      same_row = λ a b xs g. g.same_row;
      refuses_first = λ a e xs ys h. record {
        refused = Refused-first (RowMissing (data_of a)) (λ _. ⊥) (IsFull (count a)) e xs ys (λ f. omega (arith, f, length-append xs ys)) h.refused;
        memory = λ m. SomeNonzero-first (zero (data_of a)) xs ys (h.memory m);
      };
      refuses_then = λ a b e xs ys g h. record {
        refused = subst (λ d. Refused (RowMissing d) (λ _. ⊥) (IsFull (count a)) e (xs ++ ys)) g.same_row
            (Refused-then (RowMissing (data_of b)) (λ _. ⊥) (IsFull (count b)) (IsFull (count a)) e xs ys (λ f. omega (arith, f, g.count, length-append xs ys)) h.refused);
        memory = λ m. SomeNonzero-then (zero (data_of a)) xs ys (subst (λ d. SomeNonzero (zero d) ys) g.same_row (h.memory m));
      };
      refuses_missing = λ a e l ts m n p. record {
        refused = Refused-missing (RowMissing (data_of a)) (λ _. ⊥) (IsFull (count a)) e l ts m n p;
        memory = λ q. absurd (subst (λ x. NamesLeaf x l) q n);
      };
    }

    module _ (reads_as : RowData F E → Leaf → Term F) {R V : Type 0} (ring_of : S → R) (with_ring : S → R → S)
        (data_is : (a : S) (q : R) → data_of (with_ring a q) ≡ data_of a)
        (count_is : (a : S) (q : R) → count (with_ring a q) ≡ count a)
        (failures_is : (a : S) (q : R) → failures (with_ring a q) ≡ failures a)
        (ring_is : (a : S) (q : R) → ring_of (with_ring a q) ≡ q)
        {means : V → Term F → Type 0} where
      -- the debug builder keeps the laws of builders
      pub debug_laws : BuilderLaws (row_view data_of shape reads_as grew refuses ring_of with_ring means)
      debug_laws = row_laws data_of shape reads_as grew refuses ring_of with_ring (λ a q. unchanged a (with_ring a q) (data_is a q) (count_is a q) (failures_is a q)) ring_is (grows reads_as)

      -- the laws of builders over an extension, for its ring over the extension
      pub debug_extension_laws : {B U : Type 0} (base_of : S → B) (base_means : U → Term F → Type 0) {with_base : S → B → S}
          → ExtensionRingLaws (row_view data_of shape reads_as grew refuses base_of with_base base_means)
          (row_over data_of shape reads_as grew refuses ring_of with_ring base_means means)
      debug_extension_laws = row_extension_laws data_of shape reads_as grew refuses ring_of with_ring (λ a q. unchanged a (with_ring a q) (data_is a q) (count_is a q) (failures_is a q)) ring_is
