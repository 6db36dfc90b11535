-- From what is read back of an object to the AIR that was exported.
use Rattle.std.proofs.Common.{◌≡◌, ◌≢◌, ℕ, zero, ◌<◌, ◌≤◌, ◌==◌, eqb, ⊎_elim, take, true, false, List, [], ◌∷◌, length, map, replicate, All, Option, Some, None, Result, Ok, Err, option_map, string_bytes, String, Vec, suc, refl, sym, ap, ap₂, subst, ◌∙◌, arith}
use Rattle.std.specs.Global.{Global}
use Rattle.std.specs.List.{AllZip}
use Rattle.std.specs.Result.{result_map_both}
use Rattle.std.proofs.Math.Nat.{zero-mul}
use Rattle.std.proofs.lemmas.Bool.Decides.{eqb_tells}
use Rattle.std.proofs.lemmas.List.Elements.{All-nil, All-cons}
use Rattle.air_field.specs.Grid.{Grid}
use Rattle.air_field.specs.Matrix.{matrix_of}
use Rattle.air_field.specs.Ring.{CommRing, self_algebra}
use Rattle.air_field.specs.laws.Rows.{whole-rows}
use Rattle.air_field.specs.Term.{Term}
use Rattle.air_field.specs.declared.errors.MatrixError.{MatrixError}
use Rattle.air_field.specs.declared.matrices.view.RowMajorMatrixView.{RowMajorMatrixView}
use Rattle.air_symbolic.specs.BaseLeaves.{base_term, base_reads}
use Rattle.air_symbolic.specs.ExtLeaves.{BaseNodes}
use Rattle.air_symbolic.specs.Leaves.{Leaves}
use Rattle.air_symbolic.specs.Pools.{Pool, PoolMeans, term_at, size}
use Rattle.air_symbolic.specs.Trees.{term_of}
use Rattle.air_builder.specs.Assertion.{Assertion, Base, Extension}
use Rattle.air_builder.specs.Declaration.{Declaration}
use Rattle.air_recording.specs.Kinds.{base_terms, ext_terms}
use Rattle.air_recording.specs.Recorded.{EachRecords}
use Rattle.air_audit.specs.FlatAirs.{zero_at_roots}
use Rattle.air_core.specs.declared.boundary.BoundaryPublic.{BoundaryPublic}
use Rattle.air_object.specs.Members.{MemberValues, Made, made, table_of, both_matrices}
use Rattle.air_object.specs.Seen.{seen_input}
use Rattle.air_object.specs.Writing.{trees_of}
use Rattle.air_object.specs.declared.field_name.FieldName.TheVariants as fields
use Rattle.air_object.specs.declared.input.FlatInput.{FlatInput}
use Rattle.air_object.specs.declared.input.Trial.{Trial}
use Rattle.air_export.specs.Exports.{NoField, AreValuesOf, AreValuesIn, flat_declaration, periods, AreAlikeBeside, RecordsConstraint, IsExportOf, IsTrial, IsTrialWithoutRows}

ok_is : {T E : Type 0} (x y : T) (r : Result T E) → r ≡ Ok x → r ≡ Ok y → x ≡ y
ok_is x y (Ok z) h k = cc
ok_is x y (Err f) h k = absurd cc

not_err : {T E : Type 0} (x : T) (f : E) (r : Result T E) → r ≡ Ok x → r ≡ Err f → ⊥
not_err x f (Ok z) h k = absurd cc
not_err x f (Err g) h k = absurd cc

-- ---- fields

pub no_field : (order : ℕ) → (order ≡ 2013265921 → ⊥) → (order ≡ 2130706433 → ⊥) → (order ≡ 2147483647 → ⊥) → (order ≡ 18446744069414584321 → ⊥) → NoField order
no_field order a b c d fields.BabyBear = λ e. a (sym e)
no_field order a b c d fields.KoalaBear = λ e. b (sym e)
no_field order a b c d fields.Mersenne31 = λ e. c (sym e)
no_field order a b c d fields.Goldilocks = λ e. d (sym e)

-- ---- traces

pub no_rows : {T : Type 0} (w : ℕ) → matrix_of {T = T} w [] ≡ Ok (record { width = w; rows = [] })
no_rows w = whole-rows 0 w [] (sym (zero-mul w)) (λ _. refl)

-- the matrix of no values
pub empty_is : {T : Type 0} (w n : ℕ) (values : List T) (trace : Grid T) → w ≡ n → values ≡ [] → matrix_of w values ≡ Ok trace → trace ≡ record { width = n; rows = [] }
empty_is {T} w n values trace same none e =
    let empty : Grid T = record { width = w; rows = [] } in
    subst (λ k. trace ≡ record { width = k; rows = [] }) same (ok_is trace empty (matrix_of w values) e (ap (matrix_of w) none ∙ no_rows w))

pub alone_is : {F : Type 0} (z : F) (air : Declaration F) (main : Grid F) (public : List F) (t : Trial F) → main ≡ record { width = air.width; rows = [] } → public ≡ replicate air.num_public_values z → IsTrial main public None 0 t → IsTrialWithoutRows z air t
alone_is z air main public t empty zeros h = record {
  main_is = h.main_is ∙ empty;
  public_is = h.public_is ∙ zeros;
  cap_is = h.cap_is;
  weight_is = h.weight_is;
}

table_is : {F : Type 0} (o : Option (Grid F)) (v : Option (RowMajorMatrixView F)) → AreValuesIn o v → table_of (option_map (λ t. (t.width, t.values.now)) v) ≡ Ok o
table_is None None h = refl
table_is None (Some v) h = absurd h
table_is (Some trace) None h = absurd h
table_is (Some trace) (Some v) h = ap (λ r. result_map_both (λ table. Some table) (λ f. f) r) h.values

-- ---- what is read of an object, if the traces that it was written from have whole rows

module _ {F : Type 0} (view : RowMajorMatrixView F) (table_view : Option (RowMajorMatrixView F)) (values : List F) (pool : BaseNodes F) (roots : List ℕ) (labels : List (String Global)) (columns : List (Vec F Global)) (cells : List BoundaryPublic) (cap : Option ℕ) (weight : ℕ) (trace : Grid F) (table : Option (Grid F)) (w : AreValuesOf trace view) (t : AreValuesIn table table_view) where
  -- what `seen_parts` says of these
  abbrev seen : Made F
  seen =
      made view.width view.values.now (table_of (option_map (λ v. (v.width, v.values.now)) table_view)) values (trees_of pool roots) (map (λ c. c.items) columns) cells cap weight (map string_bytes labels)

  with_matrices : Grid F × Option (Grid F) → MemberValues F
  with_matrices ms = record {
    width = view.width;
    main = ms.0;
    preprocessed = ms.1;
    num_public_values = length values;
    public_values = values;
    constraints = trees_of pool roots;
    periodic = map (λ c. c.items) columns;
    boundary = cells;
    cap = cap;
    weight = weight;
    labels = map string_bytes labels;
  }

  are_whole : seen ≡ Ok (with_matrices (trace, table))
  unfolding with_matrices
  are_whole =
      ap₂ (λ one two. result_map_both with_matrices (λ (f : MatrixError). f) (both_matrices one two)) w.values (table_is table table_view t)

  pub no_ragged : (f : MatrixError) → seen ≡ Err f → ⊥
  no_ragged f e = not_err (with_matrices (trace, table)) f seen are_whole e

  module _ (input : FlatInput F) (read : seen ≡ Ok (seen_input input)) where
    as_whole : seen_input input ≡ with_matrices (trace, table)
    as_whole = ok_is (seen_input input) (with_matrices (trace, table)) seen read are_whole

    pub beside_is : (air : Declaration F) → trace.width ≡ air.width → length values ≡ air.num_public_values → table ≡ air.preprocessed → columns ≡ air.periodic → cells ≡ air.cells → AreAlikeBeside (flat_declaration input) air
    unfolding with_matrices
    beside_is air width count tables periods boundary = record {
      width = ap (λ v. v.width) as_whole ∙ (w.width ∙ width);
      num_public_values = ap (λ v. v.num_public_values) as_whole ∙ count;
      preprocessed = ap (λ v. v.preprocessed) as_whole ∙ tables;
      periodic = ap (λ v. v.periodic) as_whole ∙ ap (map (λ c. c.items)) periods;
      cells = ap (λ v. v.boundary) as_whole ∙ boundary;
    }

    pub trial_is : IsTrial trace values cap weight input.trial
    unfolding with_matrices
    trial_is = record {
      main_is = ap (λ v. v.main) as_whole;
      public_is = ap (λ v. v.public_values) as_whole;
      cap_is = ap (λ v. v.cap) as_whole;
      weight_is = ap (λ v. v.weight) as_whole;
    }

    pub labels_are : map string_bytes input.constraints.labels.items ≡ map string_bytes labels
    unfolding with_matrices
    labels_are = ap (λ v. v.labels) as_whole

    terms_by_trees : (p : BaseNodes F) (is : List ℕ) → map (term_at base_reads p) is ≡ map (term_of base_term) (trees_of p is)
    terms_by_trees p [] = refl
    terms_by_trees p (i ∷ is) = ap (λ ts. term_at base_reads p i ∷ ts) (terms_by_trees p is)

    trees_are : trees_of input.constraints.pool input.constraints.roots.items ≡ trees_of pool roots
    unfolding with_matrices
    trees_are = ap (λ v. v.constraints) as_whole

    -- the input's terms are those of the roots
    terms_are : map (term_at base_reads input.constraints.pool) input.constraints.roots.items ≡ map (term_at base_reads pool) roots
    terms_are =
        terms_by_trees input.constraints.pool input.constraints.roots.items
        ∙ (ap (map (term_of base_term)) trees_are
        ∙ sym (terms_by_trees pool roots))

    pub zeros_are : zero_at_roots input.constraints.pool input.constraints.roots.items ≡ zero_at_roots pool roots
    zeros_are = ap (map (λ t. Base t)) terms_are

-- at most n of a list, if k is the least of n and the list's length
pub take_least : {X : Type 0} (k n : ℕ) (xs : List X) → k ≤ n → (k < n → length xs ≤ k) → take k xs ≡ take n xs
take_least zero zero xs le all = refl
take_least zero (suc n) [] le all = refl
take_least zero (suc n) (x ∷ xs) le all = absurd (omega (arith, all (omega arith)))
take_least (suc k) zero xs le all = absurd (omega arith)
take_least (suc k) (suc n) [] le all = refl
take_least (suc k) (suc n) (x ∷ xs) le all = ap (λ ys. x ∷ ys) (take_least k n xs (omega arith) (λ (lt : k < n). omega (arith, all (omega arith))))

-- ---- the recording

pub roots_here : {U A F : Type 0} (reads : U → Leaves A F) (r : CommRing F) (p : Pool U A) (is : List ℕ) (ts : List (Term F)) → AllZip (PoolMeans reads r p) is ts → All (λ i. i < size p) is
roots_here reads r p [] ts h = All-nil (λ i. i < size p)
roots_here reads r p (i ∷ is) [] h = absurd h
roots_here reads r p (i ∷ is) (t ∷ ts) h = All-cons (λ i. i < size p) i is h.0.here (roots_here reads r p is ts h.1)

-- as many of one list as of the other
pub as_many : {X Y : Type 0} (R : X → Y → Type 0) (xs : List X) (ys : List Y) → AllZip R xs ys → length xs ≡ length ys
as_many R [] [] h = refl
as_many R [] (y ∷ ys) h = absurd h
as_many R (x ∷ xs) [] h = absurd h
as_many R (x ∷ xs) (y ∷ ys) h = ap suc (as_many R xs ys h.1)

-- what a test of a length says
pub zero_by_test : (n : ℕ) → true ≡ (n == 0) → n ≡ 0
zero_by_test n e = ⊎_elim (λ (h : (eqb n 0 ≡ true) × (n ≡ 0)). h.1) (λ (h : (eqb n 0 ≡ false) × (n ≢ 0)). absurd (cc (e ∙ h.0))) (eqb_tells n 0)

pub some_by_test : (n : ℕ) → false ≡ (n == 0) → 0 < n
some_by_test zero e = cc
some_by_test (suc n) e = omega arith

pub none_of : {X : Type 0} (xs : List X) → length xs ≡ 0 → xs ≡ []
none_of [] e = refl
none_of (x ∷ xs) e = absurd (omega (arith, e))

module _ {F : Type 0} (r : CommRing F) where
  -- without extension constraints, the base terms record all of them
  pub records_all : (us : List (Term F)) (ts : List (Assertion F)) → ext_terms ts ≡ [] → EachRecords (self_algebra r) us (base_terms ts) → AllZip (RecordsConstraint r) (map (λ t. Base t) us) ts
  records_all [] [] e h = tt
  records_all [] (Base t ∷ ts) e h = absurd h
  records_all [] (Extension t ∷ ts) e h = absurd cc
  records_all (u ∷ us) [] e h = absurd h
  records_all (u ∷ us) (Base t ∷ ts) e h = (h.0, records_all us ts e h.1)
  records_all (u ∷ us) (Extension t ∷ ts) e h = absurd cc

  pub exported : (written air : Declaration F) (us : List (Term F)) → written.constraints ≡ map (λ t. Base t) us → ext_terms air.constraints ≡ [] → EachRecords (self_algebra r) us (base_terms air.constraints) → AreAlikeBeside written air → IsExportOf r written air
  exported written air us is none h beside = record {
    constraints = subst (λ cs. AllZip (RecordsConstraint r) cs air.constraints) (sym is) (records_all us air.constraints none h);
    beside = beside;
  }
