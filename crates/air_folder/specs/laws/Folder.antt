-- A folder satisfies the laws of builders.
use Rattle.std.specs.Prelude.{◌≡◌, List, [], ◌∷◌, ◌++◌, Ok, refl}
use Rattle.std.proofs.Common.{sym, ◌∙◌, ap, ap₂, subst}
use Rattle.std.proofs.lemmas.List.{map-append}
use Rattle.air_field.specs.Ring.{AlgebraOver}
use Rattle.air_field.specs.Extension.{Basis}
use Rattle.air_field.specs.Term.{Leaf, Term, with_leaves}
use Rattle.air_field.specs.Value.{value}
use Rattle.air_field.specs.laws.Value.{value-leaves}
use Rattle.air_field.specs.Assignment.{Shape}
use Rattle.air_field.specs.OneRow.{one_row_shape}
use Rattle.air_core.specs.declared.errors.AirError.{AirError}
use Rattle.air_builder.specs.Assertion.{Assertion}
use Rattle.air_builder.specs.Builders.{BuilderLaws}
use Rattle.air_builder.specs.Refusals.{NamesLeaf}
use Rattle.air_builder.specs.Batches.{AssertsOf, AssertedEach}
use Rattle.air_builder.specs.laws.Batches.{asserted_one}
use Rattle.air_builder.specs.laws.RowBuilders.{row_view, row_over, GrowsAtRow, row_laws, row_extension_laws}
use Rattle.air_builder.specs.Refused.{Refused}
use Rattle.air_builder.specs.laws.Refused.{Refused-first, Refused-then, Refused-missing}
use Rattle.air_builder.specs.Extensions.{ExtensionRingLaws}
use Rattle.air_folder.specs.Fold.{folded_on}
use Rattle.air_folder.specs.laws.Fold.{folded_on-none, folded_on-one, folded_on-append}
use Rattle.air_folder.specs.Folder.{FolderRow, HasValue, folder_leaves, folder_reads_as, FolderMissing, value_in, values_in, GrewFolder, FolderRefuses}
use Rattle.air_folder.specs.FolderRow.{folder_row, StepsBy, FolderGrew}
use Rattle.air_folder.specs.declared.folder.builder.ConstraintFolder.{ConstraintFolder}
use Rattle.air_folder.specs.declared.folder.ring.FolderRing.{FolderRing}

module _ {F E : Type 0} (a : AlgebraOver F E) where
  grew_joined : (d e f : FolderRow E) (x y z : E) (ts us : List (Assertion F)) → GrewFolder a d e x y ts → GrewFolder a e f y z us → GrewFolder a d f x z (ts ++ us)
  grew_joined d e f x y z ts us g h = record {
    same_row = h.same_row ∙ g.same_row;
    folded = h.folded
        ∙ (ap₂ (λ c w. folded_on a.ring c.alpha w (values_in a (folder_leaves a c) us)) g.same_row g.folded
        ∙ (folded_on-append a.ring d.alpha x (values_in a (folder_leaves a d) ts) (values_in a (folder_leaves a d) us)
        ∙ ap (folded_on a.ring d.alpha x) (sym (map-append (value_in a (folder_leaves a d)) ts us))));
  }

  -- a folder with the same row and accumulator grew by nothing
  pub unchanged : (d e : FolderRow E) (x y : E) → e ≡ d → y ≡ x → GrewFolder a d e x y []
  unchanged d e x y same p = record { same_row = same; folded = p ∙ folded_on-none a.ring d.alpha x }

  -- folding the value of one assertion is growth by that assertion
  pub grew_one : (d e : FolderRow E) (x y v : E) (s : Assertion F) → e ≡ d → y ≡ a.ring.add (a.ring.mul x d.alpha) v → value_in a (folder_leaves a d) s ≡ v → GrewFolder a d e x y (s ∷ [])
  grew_one d e x y v s same p q = record {
    same_row = same;
    folded = p ∙ (folded_on-one a.ring d.alpha x v ∙ ap (λ w. folded_on a.ring d.alpha x (w ∷ [])) (sym q));
  }

  -- an expression that means a term is the term's value at the row
  pub folder_value : (basis : Basis F E) → ((x : E) → a.extend (basis.coefficients x) ≡ x)
      → (d : FolderRow E) (t : Term F) (v : E) → HasValue a v (with_leaves (folder_reads_as a basis d) t)
      → value a (folder_leaves a d) t ≡ v
  folder_value basis named d t v means =
      ap (λ s. value a s t) (λ i l. sym (named (folder_leaves a d l)) i)
      ∙ (sym (value-leaves a (λ _. a.ring.zero) (folder_reads_as a basis d) t) ∙ means)

  abbrev shape : FolderRow E → Shape
  shape d = one_row_shape d.values d.others

  abbrev refuses : ConstraintFolder F E → AirError → List (Assertion F) → Type 0
  refuses b e ts = FolderRefuses (folder_row b) e ts

  -- a value that is folded in is asserted, for base and for extension terms
  pub folded_asserted : (basis : Basis F E) → ((x : E) → a.extend (basis.coefficients x) ≡ x)
      → {kind : Term F → Assertion F} (b c : ConstraintFolder F E) (x : E) → folder_row c ≡ folder_row b → StepsBy a x b c
      → ((s : Leaf → E) (t : Term F) → value_in a s (kind t) ≡ value a s t)
      → AssertedEach (AssertsOf kind (λ d y t. HasValue a y (with_leaves (folder_reads_as a basis (folder_row d)) t)) (λ t. t))
      (λ d e. folder_row e ≡ folder_row d) (FolderGrew a) refuses b c (x ∷ []) (Ok tt)
  folded_asserted basis named b c x keeps folded is =
      let at = folder_leaves a (folder_row b) in
      asserted_one (Ok tt) keeps
      (λ s k. grew_one (folder_row b) (folder_row c) b.accumulator c.accumulator x s keeps folded
      (ap (value_in a at) k.2 ∙ (is at k.0 ∙ folder_value basis named (folder_row b) k.0 x k.1)))
      tt tt

  grows : (reads_as : FolderRow E → Leaf → Term F) → GrowsAtRow folder_row shape reads_as (FolderGrew a) refuses
  grows reads_as = record {
    same = λ b. unchanged (folder_row b) (folder_row b) b.accumulator b.accumulator refl refl;
    joined = λ b c d ts us g h. grew_joined (folder_row b) (folder_row c) (folder_row d) b.accumulator c.accumulator d.accumulator ts us g h;
    same_row = λ b c ts g. g.same_row;
    refuses_first = λ b e ts us h. record {
      refused = Refused-first (FolderMissing (folder_row b)) (λ _. ⊥) (λ _. ⊥) e ts us (λ f. f) h.refused;
      not_memory = h.not_memory;
    };
    refuses_then = λ b c e ts us g h. record {
      refused = subst (λ d. Refused (FolderMissing d) (λ _. ⊥) (λ _. ⊥) e (ts ++ us)) g.same_row
          (Refused-then (FolderMissing (folder_row c)) (λ _. ⊥) (λ _. ⊥) (λ _. ⊥) e ts us (λ f. f) h.refused);
      not_memory = h.not_memory;
    };
    refuses_missing = λ b e l ts m n p. record {
      refused = Refused-missing (FolderMissing (folder_row b)) (λ _. ⊥) (λ _. ⊥) e l ts m n p;
      not_memory = λ q. absurd (subst (λ x. NamesLeaf x l) q n);
    };
  }

  abbrev with_ring : ConstraintFolder F E → FolderRing F E → ConstraintFolder F E
  with_ring b q = record b { ring = q }

  lent : (b : ConstraintFolder F E) (q : FolderRing F E) → FolderGrew a b (with_ring b q) []
  lent b q = unchanged (folder_row b) (folder_row b) b.accumulator b.accumulator refl refl

  module _ (basis : Basis F E) where
    -- a folder satisfies the laws of builders for its ring, where each element means a term
    pub folder_laws : BuilderLaws (row_view folder_row shape (folder_reads_as a basis) (FolderGrew a) refuses (λ b. b.ring) with_ring (HasValue a))
    folder_laws = row_laws folder_row shape (folder_reads_as a basis) (FolderGrew a) refuses (λ b. b.ring) with_ring lent (λ b q. refl) (grows (folder_reads_as a basis))

    -- and likewise for its ring over the extension, which is the same ring
    pub folder_extension_laws : ExtensionRingLaws (row_view folder_row shape (folder_reads_as a basis) (FolderGrew a) refuses (λ b. b.ring) with_ring (HasValue a))
        (row_over folder_row shape (folder_reads_as a basis) (FolderGrew a) refuses (λ b. b.ring) with_ring (HasValue a) (HasValue a))
    folder_extension_laws = row_extension_laws folder_row shape (folder_reads_as a basis) (FolderGrew a) refuses (λ b. b.ring) with_ring lent (λ b q. refl) (λ b. b.ring) (HasValue a)
