-- Why an object is no input: the first member that is missing or hasn't its form, in the order in which they are read.
use Rattle.std.specs.Prelude.{◌≡◌, ℕ, suc, List, [], ◌++◌, Option, Some, None, option_map, option_and_then, codes, decimal, if◌then◌else◌, is_some, is_none, ◌||◌, nat_lt}
use Rattle.serde_json.specs.Data.{Data, Items, no_items, item, Members}
use Rattle.serde_json.specs.Find.{get, as_array, as_object, as_null, as_str}
use Rattle.air_field.specs.Matrix.{is_ragged}
use Rattle.air_field.specs.Modular.{Modular}
use Rattle.air_core.specs.declared.errors.AirError.TheVariants as air
use Rattle.air_json.specs.Boundaries.{end_of}
use Rattle.air_json.specs.Parts.{as_whole_number, whole_at}
use Rattle.air_reason.specs.Nodes.{constraint}
use Rattle.air_reason.specs.Reasons.{Reason, Check, malformed, under, ◌orElse◌, in_list, needed, optional}

-- ---- values

abbrev pub whole_or : Option ℕ → Option Reason
whole_or None = malformed (codes ": not a whole number below 2^64")
whole_or (Some n) = None

-- a whole number
abbrev pub whole : Check
whole d = whole_or (as_whole_number d)

abbrev pub past_text : ℕ → ℕ → List ℕ
past_text p n = codes ": " ++ (decimal n ++ (codes " is not below the modulus " ++ decimal p))

abbrev pub element_or : ℕ → Option ℕ → Option Reason
element_or p None = malformed (codes ": not a whole number below 2^64")
element_or p (Some n) = if nat_lt n p then None else Some (record { error = air.NotCanonical 0; text = past_text p n })

-- an element of a field of order p
abbrev pub element : ℕ → Check
element p d = element_or p (as_whole_number d)

abbrev pub end_or : {X : Type 0} → Option X → Option Reason
end_or None = malformed (codes ": neither First nor Last")
end_or (Some e) = None

-- a member of a part of the object
abbrev pub field : List ℕ → Check → Check
field name check d = under (codes ".") (needed name check d)

-- a boundary value
unfoldable pub cell : Check
cell d = field (codes "column") whole d orElse field (codes "end") (λ e. end_or (end_of e)) d orElse field (codes "public_value") whole d

abbrev pub cap_or : Option ℕ → Option Reason
cap_or None = malformed (codes ": neither null nor a whole number below 2^64")
cap_or (Some n) = None

-- a cap
unfoldable pub cap : Check
cap d = if is_some (as_null d) then None else cap_or (as_whole_number d)

abbrev pub label_or : Option (List ℕ) → Option Reason
label_or None = malformed (codes ": not a text")
label_or (Some text) = None

abbrev pub label : Check
label d = label_or (as_str d)

-- ---- numbers of items

abbrev pub count_from : ℕ → Items → ℕ
count_from n no_items = n
count_from n (item d ds) = count_from (suc n) ds

abbrev pub count : Items → ℕ
count ds = count_from 0 ds

-- the number of items of this member, if it is a list
abbrev pub count_in : List ℕ → Data → Option ℕ
count_in name d = option_map count (option_and_then as_array (get name d))

abbrev pub surplus_text : ℕ → ℕ → List ℕ
surplus_text labels constraints = codes "labels: " ++ (decimal labels ++ (codes " labels for " ++ (decimal constraints ++ codes " constraints")))

-- more labels than constraints
abbrev pub surplus : Option ℕ → Option ℕ → Option Reason
surplus (Some labels) (Some constraints) = if nat_lt constraints labels then malformed (surplus_text labels constraints) else None
surplus (Some labels) None = None
surplus None o = None

abbrev pub no_rows_text : List ℕ → ℕ → ℕ → List ℕ
no_rows_text name width values = name ++ (codes ": " ++ (decimal values ++ (codes " values are no rows of " ++ decimal width)))

-- the values aren't whole rows
abbrev pub no_rows : List ℕ → Option ℕ → Option ℕ → Option Reason
no_rows name (Some width) (Some values) = if is_ragged values width then Some (record { error = air.Ragged values width; text = no_rows_text name width values }) else None
no_rows name (Some width) None = None
no_rows name None o = None

-- the trace in the member `name`, of the width in the member `width`
unfoldable pub rows : List ℕ → List ℕ → Check
rows width name d = no_rows name (whole_at width d) (count_in name d)

-- ---- the object

-- the labels, at most one for each constraint
unfoldable pub labels : Check
labels d = optional (codes "labels") (in_list label) d orElse surplus (count_in (codes "labels") d) (count_in (codes "constraints") d)

-- lists of elements of a field of order p
abbrev pub elements : ℕ → Check
elements p = in_list (element p)

-- the preprocessed trace: both members or neither
unfoldable pub table : ℕ → Check
table p d =
    if is_some (get (codes "preprocessed_width") d) || is_some (get (codes "preprocessed") d)
    then needed (codes "preprocessed_width") whole d orElse needed (codes "preprocessed") (elements p) d
    else None

unfoldable pub traces : ℕ → Check
traces p d = needed (codes "main_width") whole d orElse needed (codes "main") (elements p) d orElse table p d orElse needed (codes "public_values") (elements p) d

unfoldable pub constraints : {F : Type 0} {p : ℕ} → Modular F p → Check
constraints m d = needed (codes "constraints") (in_list (constraint m)) d

unfoldable pub further : ℕ → Check
further p d = optional (codes "periodic") (in_list (elements p)) d orElse optional (codes "boundary") (in_list cell) d orElse optional (codes "cap") cap d orElse optional (codes "transition_weight") whole d

unfoldable pub whole_rows : Check
whole_rows d = rows (codes "main_width") (codes "main") d orElse rows (codes "preprocessed_width") (codes "preprocessed") d

-- the members of an input, and then the rows of its traces
abbrev pub input_members : {F : Type 0} {p : ℕ} → Modular F p → Check
input_members {p = p} m d = traces p d orElse constraints m d orElse further p d orElse labels d orElse whole_rows d

-- only the constraints and their labels
abbrev pub labelled_members : {F : Type 0} {p : ℕ} → Modular F p → Check
labelled_members m d = constraints m d orElse labels d

abbrev pub no_object : Option Reason
no_object = malformed (codes "the value is not an object")

abbrev pub object_or : Option Reason → Option Members → Option Reason
object_or within None = no_object
object_or within (Some ms) = within

-- why the value is no input: the first reason of a member, or else of a trace whose values aren't whole rows
unfoldable pub input_reason : {F : Type 0} {p : ℕ} → Modular F p → Check
input_reason m d = object_or (input_members m d) (as_object d)

-- the same of only the constraints and their labels
unfoldable pub labelled_reason : {F : Type 0} {p : ℕ} → Modular F p → Check
labelled_reason m d = object_or (labelled_members m d) (as_object d)
