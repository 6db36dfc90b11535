use Rattle.std.proofs.Common.{subst, sym}
use Rattle.p3_air.specs.HandleDrafts.{FixesNothing}
use Rattle.p3_air.proofs.DraftChanges.{ok_map, err_map}
use Rattle.p3_air.proofs.handles.constraints.Constraints.into_air.Goals as goal

pub returns-clause-records : goal.returns-clause-records
returns-clause-records g c = let h = c.into_air_with.ensures.records in let n = c.new-fixed.ensures in
    ok_map c.into_air_with.result h
    (λ a _ r. (r.0, (subst FixesNothing (sym r.1.0) (n.preprocessed, n.periodic, n.constants), r.1.1, r.1.2), r.2, r.3)) h

pub returns-clause-beside : goal.returns-clause-beside
returns-clause-beside g c = let h = c.into_air_with.ensures.beside in let n = c.new-fixed.ensures in
    ok_map c.into_air_with.result h (λ a _ e. (c.new-fixed.result, (n.preprocessed, n.periodic, n.constants), e)) h

pub returns-clause-refused : goal.returns-clause-refused
returns-clause-refused g c = let n = c.new-fixed.ensures in
    err_map c.into_air_with.result
    (λ e r. (r.0, (subst FixesNothing (sym r.1.0) (n.preprocessed, n.periodic, n.constants), r.1.1, r.1.2), r.2)) c.into_air_with.ensures.refused
