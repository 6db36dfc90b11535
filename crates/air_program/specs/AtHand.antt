-- Cached values at a row, and what roots read.
use Rattle.std.specs.Prelude.{◌≡◌, ℕ, List, length, All, Option, Vec}
use Rattle.std.specs.BTreeMap.{BTreeMap}
use Rattle.std.specs.Global.{Global}
use Rattle.air_field.specs.Assignment.{Trace, row_assignment}
use Rattle.air_field.specs.Ring.{CommRing}
use Rattle.air_symbolic.specs.declared.leaves.base_leaf.BaseLeaf.{BaseLeaf}
use Rattle.air_symbolic.specs.declared.pools.expr.SymbolicExpr.{SymbolicExpr}
use Rattle.air_print.specs.Reading.{Reads}
use Rattle.air_print.specs.Values.{Known}
use Rattle.air_program.specs.declared.explain.RowValues.{RowValues}

-- `at` has the values of the marked expressions at its row.
pub record KnownAt {F : Type 0} (r : CommRing F) (trace : Trace F) (ns : List (SymbolicExpr (BaseLeaf F))) (marks : List (Option ℕ)) (at : RowValues F) : Type 0 where
  pub places : length at.values.items ≡ length ns
  pub known : Known r (row_assignment r trace at.row) ns marks (length ns) at.values.items

-- each root in `kept` has the expressions that it reads
abbrev pub AreKept : {F : Type 0} → List (SymbolicExpr (BaseLeaf F)) → BTreeMap ℕ (Vec ℕ Global) → Type 0
AreKept ns kept = All (λ e. Reads ns e.0 e.1.items) kept.entries
