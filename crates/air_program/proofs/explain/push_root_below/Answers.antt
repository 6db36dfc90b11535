use Rattle.std.proofs.Common.{◌<◌, List, ℕ, length, All, sym, subst}
use Rattle.std.proofs.lemmas.Result.{on_ok_weaker}
use Rattle.air_print.specs.Reading.{Reads}
use Rattle.air_print.specs.laws.Values.{reads_here}
use Rattle.air_print.proofs.Walks.{id_exact}
use Rattle.air_program.proofs.Kept.{kept-read, kept-more}
use Rattle.air_program.proofs.explain.push_root_below.Goals as goal

pub push_explained-requires-clause-reads : goal.push_explained-requires-clause-reads
push_explained-requires-clause-reads g c =
    let ns = c.args.pool.now.nodes in
    let read = c.in-Some.read.now in
    subst (λ (xs : List ℕ). All (λ i. i < length ns) xs) (sym c.deref.ensures.value)
    (reads_here ns c.args.root read.items (kept-read ns _ id_exact c.args.root c.args.kept.now.entries read c.requires.kept c.in-Some.ensures.value))

pub returns-in-Some-clause-pushes : goal.returns-in-Some-clause-pushes
returns-in-Some-clause-pushes g c =
    let ns = c.args.pool.now.nodes in
    let root = c.args.root in
    let read = c.in-Some.read.now in
    on_ok_weaker c.push_explained.result
    (λ h. (
      c.deref.result.now,
      subst (λ (xs : List ℕ). Reads ns root xs) (sym c.deref.ensures.value)
          (kept-read ns _ id_exact root c.args.kept.now.entries read c.requires.kept c.in-Some.ensures.value),
      h,
    ))
    c.push_explained.ensures

pub push_explained-requires-2-clause-reads : goal.push_explained-requires-2-clause-reads
push_explained-requires-2-clause-reads g c =
    let ns = c.args.pool.now.nodes in
    subst (λ (xs : List ℕ). All (λ i. i < length ns) xs) (sym c.deref-2.ensures.value)
    (reads_here ns c.args.root c.in_ok-read.read.items c.in_ok-read.ensures)

pub returns-clause-pushes : goal.returns-clause-pushes
returns-clause-pushes g c = (
  c.deref-2.result.now,
  subst (λ (xs : List ℕ). Reads c.args.pool.now.nodes c.args.root xs) (sym c.deref-2.ensures.value) c.in_ok-read.ensures,
  c.in_ok-push_explained.ensures,
)

pub returns-clause-kept : goal.returns-clause-kept
returns-clause-kept g c =
    rw c.in_ok-insert.ensures.entries
    (kept-more c.args.pool.now.nodes _ id_exact c.args.root c.in_ok-read.read c.in_ok-read.ensures c.args.kept.now.entries c.requires.kept)
