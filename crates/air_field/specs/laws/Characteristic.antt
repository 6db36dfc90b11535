-- A ring is embedded in its extension, which has the same characteristic.
use Rattle.std.specs.Prelude.{◌≡◌, ℕ, zero, suc, Some}
use Rattle.std.proofs.Common.{sym, ◌∙◌, ap, ap₂}
use Rattle.air_field.specs.Ring.{CommRing, AlgebraOver, AlgebraOverLaws, image}
use Rattle.air_field.specs.Extension.{Basis, ExtensionLaws}
use Rattle.air_field.specs.laws.Images.{HasCharacteristic, image-zero, image-suc}

module _ {F E : Type 0} (r : CommRing F) (a : AlgebraOver F E) (laws : AlgebraOverLaws r a) where
  image-embed : (n : ℕ) → a.embed (image r n) ≡ image a.ring n
  image-embed zero = ap a.embed (image-zero r) ∙ (laws.embed_zero ∙ sym (image-zero a.ring))
  image-embed (suc n) =
      ap a.embed (image-suc r n)
      ∙ (laws.embed_add (image r n) r.one
      ∙ (ap₂ a.ring.add (image-embed n) laws.embed_one ∙ sym (image-suc a.ring n)))

  same_part : (x y : F) → Some x ≡ Some y → x ≡ y
  same_part x y h = cc

  module _ (basis : Basis F E) (n : ℕ) (ext : ExtensionLaws r a basis n) where
    -- elements with the same image are the same
    pub embed_same : (x y : F) → a.embed x ≡ a.embed y → x ≡ y
    embed_same x y h = same_part x y (sym (ext.part_of x) ∙ (ap basis.base_part h ∙ ext.part_of y))

    pub characteristic_of : (p : ℕ) → HasCharacteristic r p → HasCharacteristic a.ring p
    characteristic_of p has m = (
      λ h. (has m).0 (embed_same (image r m) r.zero (image-embed m ∙ (h ∙ sym laws.embed_zero))),
      λ h. sym (image-embed m) ∙ (ap a.embed ((has m).1 h) ∙ laws.embed_zero),
    )
