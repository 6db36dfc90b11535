-- A ring's errors as those of the calls above it.
use Rattle.std.specs.Prelude.{◌≡◌}
use Rattle.air_field.specs.declared.errors.RingError.{RingError}
use Rattle.air_core.specs.Errors.{air_error}
use Rattle.air_core.specs.declared.errors.AirError.{AirError}

-- the error is the ring's error, converted
abbrev pub AsAir : {T : Type 0} → (RingError → T → Type 0) → AirError → T → Type 0
AsAir refuses a t = (e : RingError) × (a ≡ air_error e) × refuses e t
