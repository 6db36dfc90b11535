-- A ring is an extension of itself: its elements are lists of one coefficient.
use Rattle.std.specs.Prelude.{◌≡◌, refl, List, [], ◌∷◌, slice_index_or}
use Rattle.std.proofs.Common.{lit<}
use Rattle.std.specs.Ordering.{ordering_then}
use Rattle.std.specs.declared.cmp.Ordering.{Ordering}
use Rattle.std.specs.declared.cmp.Ordering.TheVariants.{Less, Equal, Greater}
use Rattle.std.specs.Cmp.Lexicographic.{slice_cmp}
use Rattle.air_field.specs.Ring.{CommRing, self_algebra}
use Rattle.air_field.specs.Coefficients.{pad_to}
use Rattle.air_field.specs.Extension.{own_basis, ExtensionLaws}

module _ {F : Type 0} (R : CommRing F) where
  single-same : (a b : F) → a ∷ [] ≡ b ∷ [] → a ≡ b
  single-same a b h = cc

  single-extend : (l : List F) → slice_index_or l 0 R.zero ∷ [] ≡ pad_to R.zero 1 l
  single-extend [] = refl
  single-extend (x ∷ l) = refl

  pub single_laws : ExtensionLaws R (self_algebra R) own_basis 1
  single_laws =
      record {
        positive = lit< tt;
        count = λ a. refl;
        same = single-same;
        extend_is = single-extend;
        embed_is = λ c. refl;
        embed_one = refl;
        add_is = λ a b. refl;
        scale_is = λ c a. refl;
        part_of = λ c. refl;
        part_is = λ x c h. cc;
      }

then_equal : (o : Ordering) → o ≡ ordering_then o Equal
then_equal Less = refl
then_equal Equal = refl
then_equal Greater = refl

-- elements are compared as their only coefficients are
pub single_compares : {F : Type 0} (cmp : F → F → Ordering) (a b : F) → cmp a b ≡ slice_cmp cmp (a ∷ []) (b ∷ [])
single_compares cmp a b = then_equal (cmp a b)
