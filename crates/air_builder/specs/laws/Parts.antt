-- A part of a part of an assertion is a part of it.
use Rattle.std.specs.Prelude.{List, [], ◌∷◌}
use Rattle.std.proofs.Common.{inl, inr}
use Rattle.air_field.specs.Term.{Term}
use Rattle.air_field.specs.Part.{Part}
use Rattle.air_field.specs.laws.Part.{part_in}
use Rattle.air_builder.specs.Assertion.{Assertion, Base, Extension}
use Rattle.air_builder.specs.Refusals.{PartOf}

pub part_of_in : {F : Type 0} (t u : Term F) (ts : List (Assertion F)) → Part t u → PartOf u ts → PartOf t ts
part_of_in t u [] p h = h
part_of_in t u (Base v ∷ ts) p (inl q) = inl (part_in p q)
part_of_in t u (Extension v ∷ ts) p (inl q) = inl (part_in p q)
part_of_in t u (a ∷ ts) p (inr q) = inr (part_of_in t u ts p q)
