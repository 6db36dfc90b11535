use Rattle.std.proofs.Common.{◌≡◌, ◌*◌, ◌^◌, ◌<◌, [], Result, Ok, Err, None, IfOk}
use Rattle.air_blake3.specs.Checks.{ReportsListNothing}
use Rattle.blake3_rows.specs.declared.findings.Findings.{Findings}
use Rattle.blake3_rows.proofs.findings.findings_of.Goals as goal

if_ok : {A E : Type 0} (r : Result A E) (P Q : A → Type 0) → ((x : A) → P x → Q x) → IfOk r P → IfOk r Q
if_ok (Ok x) P Q f h = f x h
if_ok (Err e) P Q f h = tt

pub returns-clause-audit : goal.returns-clause-audit
returns-clause-audit g c =
    let P : Findings → Type 0 = λ found. ReportsListNothing g.F.Field.ring g.F.PartialEq.eq c.in_ok-trace.trace → found.report.failures.items ≡ [] in
    let Q : Findings → Type 0 = λ found. c.args.cell ≡ None → 3 * 2 ^ 16 < g.F.Field.CHARACTERISTIC → found.report.failures.items ≡ [] in
    if_ok c.found_of_trace-in-None.result P Q
    (λ found nothing none big. nothing (c.in_ok-trace.ensures.reports big))
    c.found_of_trace-in-None.ensures.audit
