-- The AIR made of a recording.
use Rattle.std.specs.Prelude.{◌≡◌, List, map, Some, ⊤}
use Rattle.air_field.specs.Ring.{CommRing, self_algebra}
use Rattle.air_symbolic.specs.BaseLeaves.{base_reads}
use Rattle.air_builder.specs.Assertion.{Assertion, Base}
use Rattle.air_core.specs.declared.errors.AirError.{AirError}
use Rattle.air_core.specs.declared.errors.AirError.TheVariants.{IndexPastTotal, Memory}
use Rattle.air_recording.specs.Kinds.{base_terms}
use Rattle.air_recording.specs.Layouts.{first_past}
use Rattle.air_recording.specs.Recorded.{EachRecords, terms_of}
use Rattle.air_recording.specs.Recordings.{Recording}
use Rattle.air_symbolic.specs.Pools.{size}

-- the declared list of a recorded AIR: each recorded base term is zero, in order
abbrev pub zero_at_recorded : {F EF : Type 0} → Recording F EF → List (Assertion F)
zero_at_recorded recorded =
    map (λ t. Base t) (terms_of base_reads recorded.pool.base recorded.base)

-- the errors of `recorded_air`: the first recorded base number that isn't in the base pool, or `Memory`
abbrev pub RecordedAirRefuses : {F EF : Type 0} → Recording F EF → AirError → Type 0
RecordedAirRefuses recorded (IndexPastTotal index total) =
    (total ≡ size recorded.pool.base) × (first_past total recorded.base ≡ Some index)
RecordedAirRefuses recorded Memory = ⊤
RecordedAirRefuses recorded _ = ⊥

-- each base term of the list `declared` is recorded by the one of the list `recorded`, in order
abbrev pub RecordsBaseTerms : {F : Type 0} → CommRing F
    → List (Assertion F) → List (Assertion F) → Type 0
RecordsBaseTerms r recorded declared =
    EachRecords (self_algebra r) (base_terms recorded) (base_terms declared)
