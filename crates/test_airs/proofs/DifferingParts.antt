-- The parts of the constraints under a difference.
use Rattle.std.proofs.Common.{◌≡◌, ℕ, ◌<◌, List, [], length, take, Result, Ok, Err, OnOk, OnErr, IfErr, inl, sym, subst}
use Rattle.std.specs.Prelude.{⊤}
use Rattle.air_field.specs.Part.{whole, in_sub_left, in_sub_right, in_mul_left, in_mul_right}
use Rattle.air_field.specs.Term.{Term, sub_term}
use Rattle.air_core.specs.declared.errors.AirError.{AirError}
use Rattle.air_builder.specs.Assertion.{Assertion}
use Rattle.air_builder.specs.Batches.{AssertedAllIn}
use Rattle.air_builder.specs.Builders.{MeansIn, BuilderView, RingLaws, BuilderLaws}
use Rattle.air_builder.specs.Refusals.{PartOf}
use Rattle.air_builder.specs.laws.Filters.{means_kept}
use Rattle.test_airs.specs.Differing.{differing_asserts, RowMeans}
use Rattle.air_builder.specs.Notation.{current}

pub part_x : {F : Type 0} (one : F) → PartOf (current 0) (differing_asserts one)
part_x one = inl (in_mul_right (in_mul_left whole))

pub part_y : {F : Type 0} (one : F) → PartOf (current 1) (differing_asserts one)
part_y one = inl (in_mul_left (in_sub_left whole))

pub part_z : {F : Type 0} (one : F) → PartOf (current 2) (differing_asserts one)
part_z one = inl (in_mul_left (in_sub_right whole))

pub part_condition : {F : Type 0} (one : F) → PartOf (sub_term (current 1) (current 2)) (differing_asserts one)
part_condition one = inl (in_mul_left whole)

pub always : {T X P : Type 0} (r : Result T X) → P → OnOk r P
always (Ok u) h = h
always (Err e) h = tt

pub on_ok : {T X P Q : Type 0} (r : Result T X) → (P → Q) → OnOk r P → OnOk r Q
on_ok (Ok u) f h = f h
on_ok (Err e) f h = tt

pub on_err : {T X P Q : Type 0} (r : Result T X) → (P → Q) → OnErr r P → OnErr r Q
on_err (Ok u) f h = tt
on_err (Err e) f h = f h

pub if_err : {T X : Type 0} {P Q : X → Type 0} (r : Result T X) → ((e : X) → P e → Q e) → IfErr r P → IfErr r Q
if_err (Ok u) f h = tt
if_err (Err e) f h = f e h

-- a property of a builder and an element, for equal ones
pub moved : {S E : Type 0} (P : S → E → Type 0) {a b : S} {x y : E} → b ≡ a → y ≡ x → P a x → P b y
moved P {a = a} {y = y} p q h = subst (λ s. P s y) (sym p) (subst (λ z. P a z) (sym q) h)

-- the state inside the filter: the builder asserted nothing yet, its condition means the difference, and x and y mean their columns
pub record Inside {S E F : Type 0} (grew : S → S → List (Assertion F) → Type 0) (means : S → E → Term F → Type 0) (a b : S)
    (condition x y : E) : Type 0 where
  pub grown : grew a b []
  pub differs : means b condition (sub_term (current 1) (current 2))
  pub x_means : means b x (current 0)
  pub y_means : means b y (current 1)

module _ {S R E F : Type 0} {view : BuilderView S R E F} (ring : RingLaws view) (laws : BuilderLaws view) where
  open view use {grew, refuses}

  -- the result of a call that fails after the first n assertions of a list
  pub ended : (a b : S) (e : AirError) (ts : List (Assertion F)) (n : ℕ) → n < length ts → grew a b (take n ts)
      → refuses a e ts → AssertedAllIn view a b (Err e) ts
  ended a b e ts n within grown refused = record {
    keeps = laws.by_growth a b (take n ts) grown;
    ok = tt;
    err = record { count = n; within = within; beginning = grown };
    refused = refused;
  }

  -- the result of a call that makes all assertions of a list
  pub completed : (a b : S) (u : ⊤) (ts : List (Assertion F)) → grew a b ts → AssertedAllIn view a b (Ok u) ts
  completed a b u ts grown = record { keeps = laws.by_growth a b ts grown; ok = grown; err = tt; refused = tt }

  pub inside : {a i b : S} {made condition x y z : E} → b ≡ i → condition ≡ made → grew a i []
      → MeansIn view i made (sub_term (current 1) (current 2)) → RowMeans (MeansIn view a) x y z
      → Inside grew (MeansIn view) a b condition x y
  inside {a = a} {b = b} {x = x} {y = y} p q g m row =
      let grown = subst (λ s. grew a s []) (sym p) g in
      let kept = laws.by_growth a b [] grown in
      record {
        grown = grown;
        differs = moved (λ s e. MeansIn view s e (sub_term (current 1) (current 2))) p q m;
        x_means = means_kept ring laws a b x (current 0) kept row.x_means;
        y_means = means_kept ring laws a b y (current 1) kept row.y_means;
      }
