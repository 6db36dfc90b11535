-- The texts of failures and of lists of them, and the callers' view of a failure.
use Rattle.std.specs.Prelude.{ℕ, List, [], ◌∷◌, Option, Some, None, decimal, option_map, string_bytes}
use Rattle.std.specs.Fmt.{◌++?◌, debug_str, debug_list}
use Rattle.air_report.specs.declared.debug.failure.ConstraintFailure.{ConstraintFailure}

-- the bytes of the label, if there is one
abbrev pub label_bytes : ConstraintFailure → Option (List ℕ)
label_bytes f = option_map string_bytes f.label

-- Nothing, or a space and the label's debug text. `debug_str` quotes ASCII; other texts are unspecified.
abbrev pub label_suffix : Option (List ℕ) → Option (List ℕ)
label_suffix None = Some []
label_suffix (Some label) = Some (32 ∷ []) ++? debug_str label

-- `#k`, and the label's suffix
abbrev pub failure_text : ℕ → Option (List ℕ) → Option (List ℕ)
failure_text constraint label = Some (35 ∷ decimal constraint) ++? label_suffix label

-- the text that a failure displays
abbrev pub shown_failure : ConstraintFailure → Option (List ℕ)
shown_failure f = failure_text f.constraint (label_bytes f)

-- the failures in brackets, joined by `, `
abbrev pub failures_text : List ConstraintFailure → Option (List ℕ)
failures_text fs = debug_list shown_failure fs

-- the callers' view of a failure: the row, the constraint and the label's bytes
abbrev pub seen_failure : ConstraintFailure → ℕ × ℕ × Option (List ℕ)
seen_failure f = (f.row, f.constraint, label_bytes f)
