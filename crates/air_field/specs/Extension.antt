-- Extensions of a ring: algebras over it whose elements are the lists of n coefficients.
use Rattle.std.specs.Prelude.{◌≡◌, ℕ, ◌-◌, ◌<◌, Option, Some, List, [], ◌∷◌, length, replicate}
use Rattle.air_field.specs.Ring.{CommRing, AlgebraOver}
use Rattle.air_field.specs.RingOps.{ops}
use Rattle.air_field.specs.Coefficients.{poly_add, poly_scale, pad_to}

-- The coefficients of an extension's elements over F, lowest first, and the element of F that one equals, if there is
-- one.
pub record Basis (F E : Type 0) : Type 0 where
  pub coefficients : E → List F
  pub base_part : E → Option F

-- A ring over itself: an element is its only coefficient and its own base part.
abbrev pub own_basis : {F : Type 0} → Basis F F
own_basis = record { coefficients = λ a. a ∷ []; base_part = λ a. Some a }

-- The elements are the lists of n coefficients. An element of the base ring is the list of it and zeros; sums, and
-- products with an element of the base ring, are taken by coefficients.
pub record ExtensionLaws {F E : Type 0} (R : CommRing F) (a : AlgebraOver F E) (basis : Basis F E) (n : ℕ) : Type 0 where
  pub positive : 0 < n
  pub count : (x : E) → length (basis.coefficients x) ≡ n
  pub same : (x y : E) → basis.coefficients x ≡ basis.coefficients y → x ≡ y
  pub extend_is : (l : List F) → basis.coefficients (a.extend l) ≡ pad_to R.zero n l
  pub embed_is : (c : F) → basis.coefficients (a.embed c) ≡ c ∷ replicate (n - 1) R.zero
  pub embed_one : a.embed R.one ≡ a.ring.one
  pub add_is : (x y : E) → basis.coefficients (a.ring.add x y) ≡ poly_add (ops R) (basis.coefficients x) (basis.coefficients y)
  pub scale_is : (c : F) (x : E) → basis.coefficients (a.ring.mul (a.embed c) x) ≡ poly_scale (ops R) c (basis.coefficients x)
  pub part_of : (c : F) → basis.base_part (a.embed c) ≡ Some c
  pub part_is : (x : E) (c : F) → basis.base_part x ≡ Some c → x ≡ a.embed c

-- x is the image of an element of the base ring
abbrev pub IsInBase : {F E : Type 0} → AlgebraOver F E → E → Type 0
IsInBase {F = F} a x = (c : F) × (x ≡ a.embed c)
