-- A check and a reading of the same data agree: there is a reason exactly if there is a fault, and the error is that of the fault.
use Rattle.std.proofs.Common.{◌≡◌, ℕ, suc, List, [], ◌∷◌, ◌++◌, Option, Some, None, Result, Ok, Err, codes, refl, sym, ◌∙◌}
use Rattle.std.specs.Prelude.{option_map}
use Rattle.serde_json.specs.Data.{Data, Items, no_items, item}
use Rattle.serde_json.specs.Find.{get, as_array}
use Rattle.air_core.specs.declared.errors.AirError.{AirError}
use Rattle.air_json.specs.Faults.{air_fault}
use Rattle.air_json.specs.Results.{◌>>=◌}
use Rattle.air_json.specs.declared.errors.FlatError.{FlatError}
use Rattle.air_object.specs.Readers.{Reader, or_wrong_form, each_from, list_read, needed_read, or_absent, optional_read}
use Rattle.air_reason.specs.Reasons.{Reason, Check, malformed, under, ◌orElse◌, place_text, in_items, items_or, in_list, found_or, needed, optional}

abbrev pub error_in : Option Reason → Option AirError
error_in r = option_map (λ q. q.error) r

abbrev pub fault_of : {X : Type 0} → Result X FlatError → Option AirError
fault_of (Ok x) = None
fault_of (Err f) = Some (air_fault f)

pub error_under : (path : List ℕ) (r : Option Reason) → error_in (under path r) ≡ error_in r
error_under path None = refl
error_under path (Some q) = refl

-- a part that is read first, and a rest; `told` is the error of the whole reading
pub in_turn : {X Y : Type 0} (told : Result Y FlatError → Option AirError) → ((f : FlatError) → told (Err f) ≡ Some (air_fault f)) → (one rest : Option Reason) (r : Result X FlatError) (next : X → Result Y FlatError)
    → error_in one ≡ fault_of r → ((x : X) → r ≡ Ok x → error_in rest ≡ told (next x)) → error_in (one orElse rest) ≡ told (r >>= next)
in_turn told err None rest (Ok x) next same h = h x refl
in_turn told err (Some q) rest (Ok x) next same h = absurd cc
in_turn told err None rest (Err f) next same h = absurd cc
in_turn told err (Some q) rest (Err f) next same h = same ∙ sym (err f)

pub record Agree {X : Type 0} (check : Check) (read : Reader X) : Type 0 where
  pub at : (d : Data) → error_in (check d) ≡ fault_of (read d)

module _ {X : Type 0} (check : Check) (read : Reader X) (agree : Agree check read) where
  pub items_agree : (i : ℕ) (done : List X) (ds : Items) → error_in (in_items check i ds) ≡ fault_of (each_from read done ds)
  unfolding in_items each_from
  items_agree i done no_items = refl
  items_agree i done (item d ds) =
      in_turn fault_of (λ f. refl) (under (place_text i) (check d)) (in_items check (suc i) ds) (read d) (λ x. each_from read (done ++ x ∷ []) ds)
      (error_under (place_text i) (check d) ∙ agree.at d) (λ x is. items_agree (suc i) (done ++ x ∷ []) ds)

  found_list : (o : Option Items) → error_in (items_or check o) ≡ fault_of (or_wrong_form o >>= λ ds. each_from read [] ds)
  found_list None = refl
  found_list (Some ds) = items_agree 0 [] ds

  pub list_agree : Agree (in_list check) (list_read read)
  list_agree = record { at = λ d. found_list (as_array d) }

  needed_found : (name : List ℕ) (o : Option Data) → error_in (found_or (malformed (name ++ codes " is missing")) name check o) ≡ fault_of (or_wrong_form o >>= read)
  needed_found name None = refl
  needed_found name (Some d) = error_under name (check d) ∙ agree.at d

  pub needed_agree : (name : List ℕ) → Agree (needed name check) (needed_read name read)
  needed_agree name = record { at = λ d. needed_found name (get name d) }

  optional_found : (name : List ℕ) (absent : X) (o : Option Data) → error_in (found_or None name check o) ≡ fault_of (or_absent absent read o)
  optional_found name absent None = refl
  optional_found name absent (Some d) = error_under name (check d) ∙ agree.at d

  pub optional_agree : (name : List ℕ) (absent : X) → Agree (optional name check) (optional_read name absent read)
  optional_agree name absent = record { at = λ d. optional_found name absent (get name d) }
