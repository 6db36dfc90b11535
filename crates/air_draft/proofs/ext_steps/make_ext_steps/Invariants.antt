use Rattle.std.proofs.Common.{◌≡◌, List, All, length, take}
use Rattle.std.specs.List.{AllZip}
use Rattle.air_field.specs.Term.{Term}
use Rattle.air_symbolic.specs.ExtLeaves.{ext_reads, ext_grows}
use Rattle.air_symbolic.specs.ExtPool.{BaseMeans}
use Rattle.air_symbolic.specs.Pools.{IsPool, PoolHas, PoolMeans, Grown}
use Rattle.air_draft.specs.DraftTerms.{term_at}
use Rattle.air_draft.specs.ExtDraftTerms.{ext_step_terms}
use Rattle.air_draft.proofs.ext_steps.make_ext_steps.Given as goal

-- the steps so far are made
abbrev pub invariant-loop-step : goal.invariant-loop-step
invariant-loop-step g l =
    let basis = g.EF.ExtensionField.basis in
    let ring = g.F.Field.ring in
    let first = l.initial.pool in
    record {
      grown : Grown ext_grows (ext_reads basis) first l.pool;
      pool : IsPool (ext_reads basis) l.pool;
      long : length l.made.items ≡ l.step-index;
      here : All (PoolHas (ext_reads basis) l.pool) l.made.items;
      made : (bs : List (Term g.row.F.Denot)) → AllZip (BaseMeans ring basis first) l.base bs
          → AllZip (PoolMeans (ext_reads basis) ring l.pool) l.made.items (ext_step_terms basis (term_at bs) (take l.step-index l.steps));
    }
