use Rattle.std.proofs.Common.{◌≡◌, ◌<◌, List, [], ◌∷◌, length, get_or, set, sym, subst, arith, Result, Ok, Err, OnErr}
use Rattle.std.specs.declared.cmp.Ordering.{Ordering}
use Rattle.air_symbolic.specs.Numbering.{AreNumberedIn, FindEach}
use Rattle.air_symbolic.specs.declared.pools.expr.SymbolicExpr.{SymbolicExpr}
use Rattle.air_symbolic.specs.declared.pools.kind_tables.KindTables.{KindTables}
use Rattle.air_symbolic.proofs.pools.node_numbers.NodeNumbers.enter.Goals as goal

-- the list of tables keeps what the first table keeps on failure
kept_in_first : {A T E : Type 0} (leaf_cmp : A → A → Ordering) (old tables : List (KindTables A)) (first new : KindTables A) (r : Result T E) → 0 < length tables → first ≡ get_or tables 0 first → ((nodes : List (SymbolicExpr A)) → FindEach leaf_cmp old nodes → FindEach leaf_cmp tables nodes) → OnErr r ((nodes : List (SymbolicExpr A)) → AreNumberedIn leaf_cmp first nodes → AreNumberedIn leaf_cmp new nodes) → OnErr r ((nodes : List (SymbolicExpr A)) → FindEach leaf_cmp old nodes → FindEach leaf_cmp (set tables 0 new) nodes)
kept_in_first leaf_cmp old [] first new r there is begun kept = absurd (omega arith)
kept_in_first leaf_cmp old (t ∷ ts) first new (Ok v) there is begun kept = tt
kept_in_first leaf_cmp old (t ∷ ts) first new (Err v) there is begun kept =
    λ nodes found. kept nodes (subst (λ u. AreNumberedIn leaf_cmp u nodes) (sym is) (begun nodes found))

pub returns-clause-refused : goal.returns-clause-refused
returns-clause-refused g c =
    kept_in_first _ _ _ _ _ _ c.in_ok-begin.ensures.begun c.index_mut.ensures.value c.begin.ensures.kept c.enter.ensures.refused
