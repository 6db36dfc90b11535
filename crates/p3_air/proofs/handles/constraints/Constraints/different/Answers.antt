use Rattle.std.proofs.Common.{◌≡◌, ℕ, None, Some, length, ◌∷◌, subst}
use Rattle.air_draft.specs.DraftEntries.{OneMore}
use Rattle.air_draft.specs.DraftTerms.{factors_of}
use Rattle.air_draft.specs.declared.claim.Factor.TheVariants.{Different}
use Rattle.p3_air.specs.HandleView.{known}
use Rattle.p3_air.proofs.DraftChanges.{some_map}
use Rattle.p3_air.proofs.handles.constraints.Constraints.different.Goals as goal

pub returns-in-Ok : goal.returns-in-Ok
returns-in-Ok c = let a = c.args.self.now.notes in let b = c.under.new.self.notes in (
  c.under.ensures.0,
  λ none. some_map (known c.args.x.now) (λ k. some_map (known c.args.y.now) (λ l e.
      subst (λ (n : ℕ). (a.fault ≡ None) × (c.under.result ≡ Some (length a.conditions.items)) × OneMore (λ v. v.items ≡ Different k.at.index n ∷ factors_of a.conditions.items c.args.outer) a.conditions.items b.conditions.items) e.1
      (subst (λ (m : ℕ). (a.fault ≡ None) × (c.under.result ≡ Some (length a.conditions.items)) × OneMore (λ v. v.items ≡ Different m c.in-Ok.n ∷ factors_of a.conditions.items c.args.outer) a.conditions.items b.conditions.items) e.0 (c.under.ensures.1 none)))) c.in-Ok.ensures,
)
