-- The results of reading: a value, or the first fault.
use Rattle.std.specs.Prelude.{◌≡◌, List, map, Option, Some, Result, Ok, Err, ⊤}
use Rattle.air_json.specs.declared.errors.FlatError.{FlatError}
use Rattle.air_json.specs.declared.errors.FlatError.TheVariants as faults

infixl 10 ◌>>=◌
abbrev pub ◌>>=◌ : {A B : Type 0} → Result A FlatError → (A → Result B FlatError) → Result B FlatError
(Ok x) >>= f = f x
(Err e) >>= f = Err e

-- the result as an optional value, and as a list of optional values
abbrev pub as_some : {A : Type 0} → Result A FlatError → Result (Option A) FlatError
as_some read = read >>= λ a. Ok (Some a)

abbrev pub all_some : {A : Type 0} → Result (List A) FlatError → Result (List (Option A)) FlatError
all_some read = read >>= λ all. Ok (map Some all)

-- The answer of a function, as `view` gives it, is the result of reading, or `Memory`.
abbrev pub Fails : {Y : Type 0} → FlatError → Result Y FlatError → Type 0
Fails faults.Memory read = ⊤
Fails f read = read ≡ Err f

abbrev pub Gives : {X Y : Type 0} → (X → Y) → Result X FlatError → Result Y FlatError → Type 0
Gives view (Ok x) read = read ≡ Ok (view x)
Gives view (Err e) read = Fails e read
