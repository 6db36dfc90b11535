-- Objects that are refused, and the names of shared expressions, are the same for each word.
use Rattle.std.proofs.Common.{◌≡◌, ℕ, ◌==◌, Bool, true, false, cond, List, [], ◌∷◌, ◌++◌, codes, Option, None, Some, length, get_or, arith, refl, sym, ap, subst, ◌∙◌, inl, inr}
use Rattle.std.proofs.lemmas.Grind.{flat_map-append}
use Rattle.std.proofs.lemmas.List.{ext_get_or}
use Rattle.std.proofs.lemmas.List.Elements.{All-contains}
use Rattle.serde_json.specs.Data.{Data}
use Rattle.air_field.specs.Modular.{Modular}
use Rattle.air_core.specs.declared.errors.AirError.{AirError}
use Rattle.air_symbolic.specs.BaseLeaves.{base_leaves}
use Rattle.air_symbolic.specs.ExtLeaves.{BaseNodes}
use Rattle.air_symbolic.specs.Leaves.{Leaves}
use Rattle.air_symbolic.specs.Nodes.{operands}
use Rattle.air_symbolic.specs.Reach.{Marked, Reached, ReachedFrom, root, operand}
use Rattle.air_symbolic.specs.declared.pools.expr.SymbolicExpr.{SymbolicExpr}
use Rattle.air_audit.specs.declared.audit.Audit.{Audit}
use Rattle.air_object.specs.Input.{input_fault}
use Rattle.air_object.specs.declared.input.FlatInput.{FlatInput}
use Rattle.air_object.proofs.Gains.{one_roots}
use Rattle.air_object.proofs.InputLaws.{no_fault, one_fault, first_fault}
use Rattle.air_print.specs.Lines.{lines_text}
use Rattle.air_print.specs.Names.{AreNames, is_named, name_by, passing_below}
use Rattle.air_program.specs.Explained.{ExplainsInput, ExplainedIn, NamesAlike}
use Rattle.air_program.specs.FlatAnswer.{AuditsValue, RefusesValue, AnswersAudit, AuditedIn}
use Rattle.air_program.specs.Reasons.{input_refusal, AddsLine}
use Rattle.air_program.specs.Refusals.{AnswersRefusal, AnswersReason, refusal_text, reason_text, air_name}
use Rattle.air_program.specs.Shown.{ShowsValue}
use Rattle.air_program.specs.Texts.{found_in, findings_status, TellsFound}

-- ---- refusals

module _ {F : Type 0} {p : ℕ} (m : Modular F p) (tells : FlatInput F → Audit F → ℕ → List ℕ → Type 0) (refuses : Data → AirError → ℕ → List ℕ → Type 0) where
  -- an object with a fault is answered with the fault
  pub fault_answers : (d : Data) (e : AirError) (status : ℕ) (text : List ℕ) → input_fault m d ≡ Some e → AnswersAudit m tells refuses d status text → refuses d e status text
  fault_answers d e status text is (inl told) = absurd (no_fault m d told.0 e told.2.spelt ((first_fault m d e).1 is))
  fault_answers d e status text is (inr (f, inl fault, answer)) =
      subst (λ (g : AirError). refuses d g status text) (one_fault m d f e fault ((first_fault m d e).1 is)) answer
  fault_answers d e status text is (inr (f, inr audited, answer)) = absurd (no_fault m d audited.0 e audited.1 ((first_fault m d e).1 is))

  -- the answers with status 2 are the refusals
  pub refusals_only : ((input : FlatInput F) (audit : Audit F) (text : List ℕ) → tells input audit 2 text → ⊥) → (d : Data) (text : List ℕ) → AnswersAudit m tells refuses d 2 text → (e : AirError) × RefusesValue m d e × refuses d e 2 text
  refusals_only never d text (inl told) = absurd (never told.0 told.1 text told.3)
  refusals_only never d text (inr refused) = refused

-- an audit's status isn't 2
no_status : {F : Type 0} (audit : Audit F) → ◌≡◌ {A = ℕ} 2 (findings_status (found_in audit)) → ⊥
no_status audit e = by (length (found_in audit).failures == 0) e
  where
    by : (b : Bool) → ◌≡◌ {A = ℕ} 2 (cond b 0 1) → ⊥
    by true e = let same : ◌≡◌ {A = ℕ} 2 0 = e in omega (arith, same)
    by false e = let same : ◌≡◌ {A = ℕ} 2 1 = e in omega (arith, same)

module _ {F : Type 0} {p : ℕ} (m : Modular F p) where
  abbrev tells_found : FlatInput F → Audit F → ℕ → List ℕ → Type 0
  tells_found input = TellsFound

  abbrev explains_found : FlatInput F → Audit F → ℕ → List ℕ → Type 0
  explains_found input audit status text = (status ≡ findings_status (found_in audit)) × ExplainsInput m input audit text

  abbrev name_only : Data → AirError → ℕ → List ℕ → Type 0
  name_only d e = AnswersRefusal (air_name e)

  abbrev name_and_reason : Data → AirError → ℕ → List ℕ → Type 0
  name_and_reason d e = AnswersReason (air_name e) (input_refusal m d e)

  pub flat_answers : (d : Data) (e : AirError) (status : ℕ) (text : List ℕ) → input_fault m d ≡ Some e → AuditedIn F p m d status text → AnswersRefusal (air_name e) status text
  flat_answers = fault_answers m tells_found name_only

  pub explain_answers : (d : Data) (e : AirError) (status : ℕ) (text : List ℕ) → input_fault m d ≡ Some e → ExplainedIn F p m d status text → AnswersReason (air_name e) (input_refusal m d e) status text
  explain_answers = fault_answers m explains_found name_and_reason

  -- the text of two lines has the text of the first before it
  two_lines : (first reason : List ℕ) → lines_text (first ∷ reason ∷ []) ≡ lines_text (first ∷ []) ++ lines_text (reason ∷ [])
  two_lines first reason = flat_map-append (λ line. line ++ codes "\n") (first ∷ []) (reason ∷ [])

  flat_then_explain : (d : Data) (text : List ℕ) → (e : AirError) × RefusesValue m d e × name_only d e 2 text → (more : List ℕ) × AddsLine text more × ExplainedIn F p m d 2 more
  flat_then_explain d text (e, refuses, answer) =
      let reason = input_refusal m d e in
      (reason_text (air_name e) reason, (reason, two_lines (codes "refused: " ++ air_name e) reason ∙ ap (λ (t : List ℕ). t ++ lines_text (reason ∷ [])) (sym answer.1)), inr (e, refuses, (refl, refl)))

  explain_then_flat : (d : Data) (text : List ℕ) → (e : AirError) × RefusesValue m d e × name_and_reason d e 2 text → (first : List ℕ) × AddsLine first text × AuditedIn F p m d 2 first
  explain_then_flat d text (e, refuses, answer) =
      let reason = input_refusal m d e in
      (refusal_text (air_name e), (reason, answer.1 ∙ two_lines (codes "refused: " ++ air_name e) reason), inr (e, refuses, (refl, refl)))

  pub explained_too : (d : Data) (text : List ℕ) → AuditedIn F p m d 2 text → (more : List ℕ) × AddsLine text more × ExplainedIn F p m d 2 more
  explained_too d text h = flat_then_explain d text (refusals_only m tells_found name_only (λ input audit t told. no_status audit told.0) d text h)

  pub audited_too : (d : Data) (text : List ℕ) → ExplainedIn F p m d 2 text → (first : List ℕ) × AddsLine first text × AuditedIn F p m d 2 first
  audited_too d text h = explain_then_flat d text (refusals_only m explains_found name_and_reason (λ input audit t told. no_status audit told.0) d text h)

-- ---- names

module _ {A F : Type 0} (l : Leaves A F) (ns : List (SymbolicExpr A)) (roots : List ℕ) where
  reached_marked : (marks : List (Option ℕ)) → Reached l ns roots marks → (i : ℕ) → ReachedFrom l ns roots i → Marked marks i
  reached_marked marks h i (root at) = All-contains (λ k. Marked marks k) roots i h.roots_marked at
  reached_marked marks h i (operand {j = j} {n = n} from node is) =
      All-contains (λ k. Marked marks k) (operands n) i (h.operands_marked j n (reached_marked marks h j from) node) is

  same_mark : (a b : List (Option ℕ)) → Reached l ns roots a → Reached l ns roots b → (i : ℕ) → get_or a i None ≡ get_or b i None
  same_mark a b h k i = by (get_or a i None) (get_or b i None) refl refl
    where
      by : (x y : Option ℕ) → get_or a i None ≡ x → get_or b i None ≡ y → get_or a i None ≡ get_or b i None
      by (Some j) y e f = let r = h.only_reached i j e in e ∙ ap Some r.0 ∙ sym (reached_marked b k i r.1)
      by None (Some j) e f = let r = k.only_reached i j f in absurd (cc (e, reached_marked a h i r.1))
      by None None e f = e ∙ sym f

  pub names_once : (a b : List ℕ × List (Option ℕ)) → AreNames l ns roots a → AreNames l ns roots b → NamesAlike a b
  names_once a b h k =
      let same : h.marks ≡ k.marks = ext_get_or None h.marks k.marks (h.reached.places ∙ sym k.reached.places) (λ i lt. same_mark h.marks k.marks h.reached k.reached i) in
      (h.named ∙ ap (λ marks. passing_below (is_named ns roots marks) (length ns)) same ∙ sym k.named, λ i. h.each i ∙ ap (λ marks. name_by (is_named ns roots marks) i) same ∙ sym (k.each i))

module _ {F : Type 0} {p : ℕ} (m : Modular F p) (d : Data) (text : List ℕ) (input : FlatInput F) (audit : Audit F) (shown : ShowsValue m d text) (audits : AuditsValue m d input audit) where
  -- the pool and the roots of both
  pub same_pool : (shown.pool ≡ input.constraints.pool) × (shown.roots ≡ input.constraints.roots.items)
  same_pool = one_roots m d shown.pool input.constraints.pool shown.roots input.constraints.roots.items shown.are audits.spelt.roots

  pub same_names : (explanation : List ℕ) (explained : ExplainsInput m input audit explanation) → NamesAlike shown.shows.names explained.names
  same_names explanation explained =
      names_once base_leaves input.constraints.pool.nodes input.constraints.roots.items shown.shows.names explained.names
      (subst (λ (rs : List ℕ). AreNames base_leaves input.constraints.pool.nodes rs shown.shows.names) same_pool.1
      (subst (λ (q : BaseNodes F). AreNames base_leaves q.nodes shown.roots shown.shows.names) same_pool.0 shown.shows.are_names))
      explained.are_names
