-- What the leaves of an expression mean.
use Rattle.std.specs.Prelude.{◌≡◌, ◌<◌, ◌^◌, Option, Some}
use Rattle.air_field.specs.Ring.{CommRing}
use Rattle.air_field.specs.Term.{Term, const_term}
use Rattle.air_field.specs.Degree.{degree_by, cached_weight}
use Rattle.air_field.specs.Same.{Same}

-- `sound` says that the base is well formed, `valid` that a leaf names only what the base has.
pub record Leaves (A F : Type 0) : Type 1 where
  pub sound : Type 0
  pub valid : A → Type 0
  pub constant : A → Option F
  pub term : A → Term F

-- m agrees with l on every leaf that is valid for l
pub record Keeps {A F : Type 0} (l m : Leaves A F) : Type 0 where
  pub sound : l.sound → m.sound
  pub valid : (a : A) → l.valid a → m.valid a
  pub constant : (a : A) → l.valid a → m.constant a ≡ l.constant a
  pub term : (a : A) → l.valid a → m.term a ≡ l.term a

-- The laws of a kind of leaf as its base grows.
pub record LeafLaws {U A F : Type 0} (r : CommRing F) (reads : U → Leaves A F) (grows : U → U → Type 0) (empty : U) : Type 0 where
  pub in_range : (u : U) (a : A) → (reads u).valid a → degree_by cached_weight ((reads u).term a) < 2 ^ 64
  pub constant_is : (u : U) (a : A) (c : F) → (reads u).valid a → (reads u).constant a ≡ Some c → Same r (const_term c) ((reads u).term a)
  pub empty_sound : (reads empty).sound
  pub same : (u : U) → grows u u
  pub joined : (u v w : U) → grows u v → grows v w → grows u w
  pub keeps : (u v : U) → grows u v → Keeps (reads u) (reads v)

-- the leaf is valid and equals the constant c, as a base constant
pub record IsConstLeaf {A F : Type 0} (l : Leaves A F) (c : F) (a : A) : Type 0 where
  pub valid : l.valid a
  pub constant : l.constant a ≡ Some c
  pub term : l.term a ≡ const_term c
