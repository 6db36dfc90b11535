-- Checks of an AIR with only a main trace and public values.
use Rattle.std.specs.Prelude.{◌≡◌, ℕ, ◌-◌, ◌<◌, List, [], length, Bool, Option, None, Some, slice_get, refl}
use Rattle.std.specs.Global.{Global}
use Rattle.std.proofs.Common.{inl, inr, subst, sym, ap, ◌∙◌, arith}
use Rattle.std.proofs.lemmas.List.{take_all}
use Rattle.air_field.specs.Ring.{CommRing}
use Rattle.air_field.specs.Assignment.{trace_shape, IsMissing}
use Rattle.air_field.specs.Grid.{Grid}
use Rattle.air_builder.specs.Assertion.{Assertion}
use Rattle.air_builder.specs.Declaration.{plain_declaration}
use Rattle.air_core.specs.declared.errors.AirError.{AirError}
use Rattle.air_core.specs.declared.errors.AirError.TheVariants.{PreprocessedHeight, PeriodNotPowerOfTwo, PeriodDoesNotDivide, Boundary, EmptyTrace}
use Rattle.air_report.specs.Cells.{take_within_cap, IsCellFault}
use Rattle.air_report.specs.Checks.{CheckRefuses}
use Rattle.air_report.specs.Instances.{instance}
use Rattle.air_report.specs.RowRefusals.{IsFull}
use Rattle.air_builder.specs.Refused.{Refused}
use Rattle.air_report.specs.Report.{plain_trace}
use Rattle.air_report.specs.Shapes.{IsShapeFault}

left_of-none : {X : Type 0} (cap : Option ℕ) (n : ℕ) → take_within_cap {X = X} cap n [] ≡ []
left_of-none None n = refl
left_of-none (Some cap) n = take_all (cap - n) [] (omega arith)

-- without periodic columns and a preprocessed trace no shape is at fault
fits_shapes : (T A : Type 0) (h : ℕ) (e : AirError) → IsShapeFault {T = T} {A = A} [] h None e → ⊥
fits_shapes T A h (PreprocessedHeight p m) f = let none : None ≡ Some p = f.0 in cc
fits_shapes T A h (PeriodNotPowerOfTwo i n) f = let lt : i < 0 = f.1 in absurd (omega arith)
fits_shapes T A h (PeriodDoesNotDivide i n k) f = let lt : i < 0 = f.1 in absurd (omega arith)
fits_shapes T A h _ f = f

-- without boundary values none is at fault
fits_cells : {F : Type 0} (main : Grid F) (public : List F) (e : AirError) → IsCellFault main public [] e → ⊥
fits_cells main public (Boundary b) f = let lt : f.place < 0 = f.within in absurd (omega arith)
fits_cells main public EmptyTrace f = f.1 refl
fits_cells main public _ f = f

none_listed : {X : Type 0} (cap : Option ℕ) (n at : ℕ) (x : X) → slice_get (take_within_cap cap n []) at ≡ Some x → ⊥
none_listed cap n at x e =
    let none : None ≡ Some x = sym (ap (λ l. slice_get l at) (left_of-none cap n)) ∙ e in
    cc

module _ {F : Type 0} (r : CommRing F) (eq : F → F → Bool) (ts : List (Assertion F)) (width count : ℕ) (main : Grid F) (public : List F) (cap : Option ℕ) where
  -- the check is refused as its rows are
  pub plain_refusal : (e : AirError) → CheckRefuses r eq (instance (plain_declaration ts width count) main public) cap e
      → Refused (IsMissing (trace_shape (plain_trace main public))) (λ _. ⊥) (IsFull 0) e ts
  plain_refusal e (inl h) = absurd (fits_shapes F Global (length main.rows) e h)
  plain_refusal e (inr h) = elim h.1 [
    | inl rows ↦ elim rows [
      | inl memory ↦ subst (λ x. Refused (IsMissing (trace_shape (plain_trace main public))) (λ _. ⊥) (IsFull 0) x ts) (sym memory) tt
      | inr ran ↦ ran.1
    ]
    | inr later ↦ elim later [
      | inl cells ↦ absurd (fits_cells main public e cells.2)
      | inr count ↦ absurd (none_listed cap _ count.1.past.at count.1.past.cell count.1.past.is_listed)
    ]
  ]
