use Rattle.air_audit.proofs.Uncapped.{if_ok-map, if_err-map, on_ok-map, fits, lists, labels, row_labels, counts, refuses}
use Rattle.air_audit.proofs.audit.audit_air.Goals as goal

pub returns-clause-there : goal.returns-clause-there
returns-clause-there g c = on_ok-map c.audit_air_with_cap.result c.audit_air_with_cap.ensures.audited (λ a h. h.there)

pub returns-clause-fits : goal.returns-clause-fits
returns-clause-fits g c = on_ok-map c.audit_air_with_cap.result c.audit_air_with_cap.ensures.audited (λ a h. fits _ _ _ a.report h.report)

pub returns-clause-recorded : goal.returns-clause-recorded
returns-clause-recorded g c = if_ok-map c.audit_air_with_cap.result c.audit_air_with_cap.ensures.audited (λ a h. h.recorded)

pub returns-clause-pool : goal.returns-clause-pool
returns-clause-pool g c = if_ok-map c.audit_air_with_cap.result c.audit_air_with_cap.ensures.audited (λ a h. h.pool)

pub returns-clause-report : goal.returns-clause-report
returns-clause-report g c = if_ok-map c.audit_air_with_cap.result c.audit_air_with_cap.ensures.audited (λ a h. lists _ _ _ a.report h.report)

pub returns-clause-labels : goal.returns-clause-labels
returns-clause-labels g c = if_ok-map c.audit_air_with_cap.result c.audit_air_with_cap.ensures.audited (λ a h. labels _ _ _ a.report h.report)

pub returns-clause-row_labels : goal.returns-clause-row_labels
returns-clause-row_labels g c = if_ok-map c.audit_air_with_cap.result c.audit_air_with_cap.ensures.labels (λ a h. row_labels _ _ _ _ a.report h)

pub returns-clause-counts : goal.returns-clause-counts
returns-clause-counts g c = if_ok-map c.audit_air_with_cap.result c.audit_air_with_cap.ensures.audited (λ a h. counts _ _ _ a.report h.report)

pub returns-clause-degree : goal.returns-clause-degree
returns-clause-degree g c = if_ok-map c.audit_air_with_cap.result c.audit_air_with_cap.ensures.audited (λ a h. (h.degree, h.in_range))

pub returns-clause-bounded : goal.returns-clause-bounded
returns-clause-bounded g c = if_ok-map c.audit_air_with_cap.result c.audit_air_with_cap.ensures.audited (λ a h. h.bounded)

pub returns-clause-least : goal.returns-clause-least
returns-clause-least g c = if_ok-map c.audit_air_with_cap.result c.audit_air_with_cap.ensures.audited (λ a h. h.least)

pub returns-clause-refused : goal.returns-clause-refused
returns-clause-refused g c = if_err-map c.audit_air_with_cap.result c.audit_air_with_cap.ensures.refused (λ e h. refuses _ _ _ _ e h)
