-- Of what is noted.
use Rattle.std.proofs.Common.{◌≡◌, Option, None, Some, refl, sym, ◌∙◌}
use Rattle.std.specs.Prelude.{IsSomeAnd, Result, Ok, Err, IfOk, IfErr}
use Rattle.air_core.specs.declared.errors.AirError.{AirError}
use Rattle.air_draft.specs.DraftEntries.{NotesOnly}
use Rattle.air_draft.specs.declared.notes.Notes.{Notes}
use Rattle.p3_air.specs.declared.handles.constraints.Constraints.{Constraints}

abbrev pub with_notes : Constraints → Notes → Constraints
with_notes a n = record a { notes = n }

-- no fault afterwards is none before
pub none_before : (e : AirError) (x y : Option AirError) → NotesOnly e x y → y ≡ None → x ≡ None
none_before e None y h none = refl
none_before e (Some x) y h none = sym (h.first refl) ∙ none

pub some_map : {T : Type 0} {P Q : T → Type 0} (x : Option T) → ((k : T) → P k → Q k) → IsSomeAnd x P → IsSomeAnd x Q
some_map None h p = p
some_map (Some k) h p = h k p

pub ok_map : {T E : Type 0} {O P Q : T → Type 0} (r : Result T E) → IfOk r O → ((x : T) → O x → P x → Q x) → IfOk r P → IfOk r Q
ok_map (Ok x) o h p = h x o p
ok_map (Err e) o h p = p

pub err_map : {T E : Type 0} {P Q : E → Type 0} (r : Result T E) → ((e : E) → P e → Q e) → IfErr r P → IfErr r Q
err_map (Ok x) h p = p
err_map (Err e) h p = h e p
