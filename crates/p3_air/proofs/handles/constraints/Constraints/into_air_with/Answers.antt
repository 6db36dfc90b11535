use Rattle.std.proofs.Common.{ap, ◌∙◌}
use Rattle.air_draft.specs.Drafts.{beside_from, claim_labels}
use Rattle.air_draft.specs.declared.notes.Notes.{Notes}
use Rattle.p3_air.proofs.DraftChanges.{ok_map, err_map}
use Rattle.p3_air.proofs.handles.constraints.Constraints.into_air_with.Goals as goal

pub returns-clause-records : goal.returns-clause-records
returns-clause-records g c = ok_map c.into_air.result c.into_air.ensures.faultless (λ a none records. (c.into_draft.result, c.into_draft.ensures, none, records)) c.into_air.ensures.records

pub returns-clause-beside : goal.returns-clause-beside
returns-clause-beside g c = let d = c.into_draft.result in let h = c.into_draft.ensures in
    ok_map c.into_air.result c.into_air.ensures.faultless
    (λ a none e. e ∙ (ap (λ n. beside_from n d.fixed) h.1 ∙ ap (beside_from c.args.self.notes) h.0)) c.into_air.ensures.beside

pub returns-clause-labels : goal.returns-clause-labels
returns-clause-labels g c = ok_map c.into_air.result c.into_air.ensures.faultless
    (λ a none e. e ∙ ap (λ (n : Notes). claim_labels n.labels.items n.claims.items) c.into_draft.ensures.1) c.into_air.ensures.labels

pub returns-clause-refused : goal.returns-clause-refused
returns-clause-refused g c = err_map c.into_air.result (λ e refuses. (c.into_draft.result, c.into_draft.ensures, refuses)) c.into_air.ensures.refused
