-- The debug builder keeps the laws of named builders.
use Rattle.std.specs.Prelude.{◌≡◌, Result, Ok, Err, OnOk, OnErr, IfErr, ℕ, List, [], ◌∷◌, ◌++◌, map, Bool, true, false, not, cond, refl, All, Option, ⊤}
use Rattle.std.specs.List.{AllZip, filter}
use Rattle.std.proofs.Common.{inl, sym, ◌∙◌, ap, subst, arith, append_assoc}
use Rattle.std.proofs.lemmas.List.{map-append, append-nil}
use Rattle.std.proofs.lemmas.List.Elements.{filter-append, All-append, All-nil, All-cons}
use Rattle.air_builder.specs.Assertion.{Assertion}
use Rattle.air_builder.specs.Batches.{AssertedEach}
use Rattle.air_builder.specs.laws.Batches.{asserted_one}
use Rattle.air_builder.specs.laws.Labels.{without_labels-append, labelled_one}
use Rattle.air_builder.specs.laws.Zips.{AllZip-joined}
use Rattle.air_builder.specs.Labels.{Label, Unasked, Shown, Labelled, LabelledEach, IsSaid, without_labels, NamedLaws}
use Rattle.air_report.specs.Report.{failure_place}
use Rattle.air_report.specs.Debug.{RowData, GrewAtRow}
use Rattle.air_core.specs.declared.errors.AirError.{AirError}
use Rattle.air_core.specs.declared.errors.AirError.TheVariants.{Memory, CountOverflow}
use Rattle.air_report.specs.RowRefusals.{RefusedAtRow}
use Rattle.air_report.specs.laws.Debug.{asserted_zero, asserted_other, joined_at_row}
use Rattle.air_report.specs.DebugLabels.{KeepsLabel, LogsOne, LogRefuses, failing_labels, passing_labels, LabelledAtRow}
use Rattle.air_report.specs.declared.debug.failure.ConstraintFailure.{ConstraintFailure}

none_unasked : All (λ l. l ≡ Unasked) []
none_unasked = All-nil (λ l. l ≡ Unasked)

one_unasked : All (λ l. l ≡ Unasked) (Unasked ∷ [])
one_unasked = All-cons (λ l. l ≡ Unasked) Unasked [] refl none_unasked

none_placed : (fs : List ConstraintFailure) → map failure_place fs ≡ [] → AllZip KeepsLabel fs []
none_placed [] e = tt
none_placed (f ∷ fs) e = cc

labels_where-append : {F : Type 0} (test : Labelled F → Bool) (xs ys : List (Labelled F)) → map (λ l. l.1) (filter test (xs ++ ys)) ≡ map (λ l. l.1) (filter test xs) ++ map (λ l. l.1) (filter test ys)
labels_where-append test xs ys = ap (λ ls. map (λ l. l.1) ls) (filter-append test xs ys) ∙ map-append (λ l. l.1) (filter test xs) (filter test ys)

count_is_not_memory : CountOverflow ≡ Memory → ⊥
count_is_not_memory m = cc

module _ {F E : Type 0} (zero : RowData F E → Assertion F → Bool) where
  refused_of_log : (d : RowData F E) (k : ℕ) (holds : Bool) (s : Assertion F) → zero d s ≡ holds → (e : AirError) → LogRefuses k holds e → RefusedAtRow zero d k e (s ∷ [])
  refused_of_log d k holds s z Memory h = record { refused = tt; memory = λ _. inl (z ∙ h) }
  refused_of_log d k holds s z CountOverflow h = record { refused = omega (arith, h); memory = λ m. absurd (count_is_not_memory m) }
  refused_of_log d k holds s z _ h = absurd h

  module _ (d f : RowData F E) (m n : ℕ) (fs gs : List ConstraintFailure) (says : Option (List ℕ) → Type 0) (same : f ≡ d) where
    -- a logged assertion is growth by it
    logged_grew : (holds : Bool) → LogsOne d.row m n says holds fs gs → (s : Assertion F) → zero d s ≡ holds → GrewAtRow zero d f m n fs gs (s ∷ [])
    logged_grew true h s z = asserted_zero zero d f m n fs gs s same h.0 z h.1
    logged_grew false h s z = asserted_other zero d f m n fs gs s same h.0 h.1.failure z h.1.pushed h.1.at

    -- a logged assertion is growth under a label that the name may display
    logged_label : (holds : Bool) → LogsOne d.row m n says holds fs gs
        → (label : Label)
        × (IsSaid says label
        × ((s : Assertion F) → zero d s ≡ holds → LabelledAtRow zero d f m n fs gs ((s, label) ∷ [])))
    logged_label true h = (
      Unasked,
      (
        tt,
        λ s z. record {
          grew = logged_grew true h s z;
          more = [];
          failures = h.1 ∙ sym (append-nil fs);
          kept = subst (λ c. AllZip KeepsLabel [] (map (λ (l : Labelled F). l.1) (cond (not c) ((s, Unasked) ∷ []) []))) (sym z) tt;
          unasked = subst (λ c. All (λ l. l ≡ Unasked) (map (λ (l : Labelled F). l.1) (cond c ((s, Unasked) ∷ []) []))) (sym z) one_unasked;
        },
      ),
    )
    logged_label false h = (
      Shown h.1.text,
      (
        h.1.said,
        λ s z. record {
          grew = logged_grew false h s z;
          more = h.1.failure ∷ [];
          failures = h.1.pushed;
          kept = subst (λ c. AllZip KeepsLabel (h.1.failure ∷ []) (map (λ (l : Labelled F). l.1) (cond (not c) ((s, Shown h.1.text) ∷ []) []))) (sym z) (h.1.kept, tt);
          unasked = subst (λ c. All (λ l. l ≡ Unasked) (map (λ (l : Labelled F). l.1) (cond c ((s, Shown h.1.text) ∷ []) []))) (sym z) none_unasked;
        },
      ),
    )

  nothing_labelled : (d e : RowData F E) (m n : ℕ) (fs gs : List ConstraintFailure) → GrewAtRow zero d e m n fs gs [] → LabelledAtRow zero d e m n fs gs []
  nothing_labelled d e m n fs gs g = record { grew = g; more = g.more; failures = g.failures; kept = none_placed g.more g.places; unasked = none_unasked }

  nothing_at_row : (d e : RowData F E) (m n : ℕ) (fs gs : List ConstraintFailure) → e ≡ d → n ≡ m → gs ≡ fs → GrewAtRow zero d e m n fs gs []
  nothing_at_row d e m n fs gs same k f = record {
    same_row = same;
    count = omega (arith, k);
    more = [];
    failures = f ∙ sym (append-nil fs);
    places = refl;
  }

  -- the log of an assertion determines its growth and its label
  module _ {S I : Type 0} (data_of : S → RowData F E) (count : S → ℕ) (failures : S → List ConstraintFailure)
      {asserts : S → I → Assertion F → Type 0} {a b : S} {x : I} (says : Option (List ℕ) → Type 0) (holds : Bool)
      (same : data_of b ≡ data_of a) where
    pub logged_asserted : (r : Result ⊤ AirError)
        → OnOk r (LogsOne (data_of a).row (count a) (count b) says holds (failures a) (failures b))
        → OnErr r (count b ≡ count a) → OnErr r (failures b ≡ failures a) → IfErr r (LogRefuses (count a) holds)
        → ((s : Assertion F) → asserts a x s → zero (data_of a) s ≡ holds)
        → AssertedEach asserts (λ c d. data_of d ≡ data_of c)
        (λ c d ts. GrewAtRow zero (data_of c) (data_of d) (count c) (count d) (failures c) (failures d) ts)
        (λ c e ts. RefusedAtRow zero (data_of c) (count c) e ts) a b (x ∷ []) r
    logged_asserted (Ok u) l n f e is =
        asserted_one (Ok u) same
        (λ s k. logged_grew (data_of a) (data_of b) (count a) (count b) (failures a) (failures b) says same holds l s (is s k))
        tt tt
    logged_asserted (Err y) l n f e is =
        asserted_one (Err y) same tt
        (nothing_at_row (data_of a) (data_of b) (count a) (count b) (failures a) (failures b) same n f)
        (λ s k. refused_of_log (data_of a) (count a) holds s (is s k) y e)

    pub logged_labelled : (r : Result ⊤ AirError)
        → OnOk r (LogsOne (data_of a).row (count a) (count b) says holds (failures a) (failures b))
        → OnErr r (count b ≡ count a) → OnErr r (failures b ≡ failures a)
        → ((s : Assertion F) → asserts a x s → zero (data_of a) s ≡ holds)
        → LabelledEach asserts
        (λ c d ls. LabelledAtRow zero (data_of c) (data_of d) (count c) (count d) (failures c) (failures d) ls)
        (λ i. says) a b (x ∷ []) r
    logged_labelled (Ok u) l n f is =
        let one = logged_label (data_of a) (data_of b) (count a) (count b) (failures a) (failures b) says same holds l in
        labelled_one (Ok u) (record { label = one.0; said = one.1.0; grown = λ s k. one.1.1 s (is s k) }) tt
    logged_labelled (Err y) l n f is =
        labelled_one (Err y) tt
        (nothing_labelled (data_of a) (data_of b) (count a) (count b) (failures a) (failures b)
        (nothing_at_row (data_of a) (data_of b) (count a) (count b) (failures a) (failures b) same n f))

  labelled_joined : (d e f : RowData F E) (m n k : ℕ) (fs gs hs : List ConstraintFailure)
      (xs ys : List (Labelled F))
      → LabelledAtRow zero d e m n fs gs xs → LabelledAtRow zero e f n k gs hs ys
      → LabelledAtRow zero d f m k fs hs (xs ++ ys)
  labelled_joined d e f m n k fs gs hs xs ys g h =
      let fails : RowData F E → Labelled F → Bool = λ c l. not (zero c l.0) in
      let passes : RowData F E → Labelled F → Bool = λ c l. zero c l.0 in
      let failing : failing_labels (zero d) xs ++ failing_labels (zero e) ys ≡ failing_labels (zero d) (xs ++ ys) =
      ap (λ c. failing_labels (zero d) xs ++ failing_labels (zero c) ys) g.grew.same_row ∙ sym (labels_where-append (fails d) xs ys) in
      let passing : passing_labels (zero d) xs ++ passing_labels (zero e) ys ≡ passing_labels (zero d) (xs ++ ys) =
      ap (λ c. passing_labels (zero d) xs ++ passing_labels (zero c) ys) g.grew.same_row ∙ sym (labels_where-append (passes d) xs ys) in
      record {
        grew = subst (λ ts. GrewAtRow zero d f m k fs hs ts) (sym (without_labels-append xs ys)) (joined_at_row zero d e f m n k fs gs hs (without_labels xs) (without_labels ys) g.grew h.grew);
        more = g.more ++ h.more;
        failures = h.failures ∙ (ap (λ us. us ++ h.more) g.failures ∙ append_assoc fs g.more h.more);
        kept = subst (λ ls. AllZip KeepsLabel (g.more ++ h.more) ls) failing (AllZip-joined KeepsLabel g.more h.more (failing_labels (zero d) xs) (failing_labels (zero e) ys) g.kept h.kept);
        unasked = subst (λ ls. All (λ l. l ≡ Unasked) ls) passing (All-append (λ l. l ≡ Unasked) (passing_labels (zero d) xs) (passing_labels (zero e) ys) g.unasked h.unasked);
      }

  module _ {S : Type 0} (data_of : S → RowData F E) (count : S → ℕ) (failures : S → List ConstraintFailure) where
    -- a builder over the values of a row keeps the laws of labels
    pub debug_named_laws : NamedLaws
        (λ a b ts. GrewAtRow zero (data_of a) (data_of b) (count a) (count b) (failures a) (failures b) ts)
        (λ a b ls. LabelledAtRow zero (data_of a) (data_of b) (count a) (count b) (failures a) (failures b) ls)
    debug_named_laws = record {
      labelled_nothing = λ a b g. nothing_labelled (data_of a) (data_of b) (count a) (count b) (failures a) (failures b) g;
      labelled_joined = λ a b c xs ys g h. labelled_joined (data_of a) (data_of b) (data_of c) (count a) (count b) (count c) (failures a) (failures b) (failures c) xs ys g h;
      labelled_grew = λ a b ls g. g.grew;
    }
