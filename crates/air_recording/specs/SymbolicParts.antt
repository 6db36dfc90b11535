-- The selectors of a symbolic builder and its shape; elements of its base pool in its whole pool.
use Rattle.std.specs.Prelude.{ℕ, Some}
use Rattle.air_field.specs.Ring.{CommRing}
use Rattle.air_field.specs.Extension.{Basis}
use Rattle.air_field.specs.Term.{Term}
use Rattle.air_core.specs.declared.selectors.Selectors.{Selectors}
use Rattle.air_symbolic.specs.Trees.{leaf_tree}
use Rattle.air_symbolic.specs.Pools.{IsPool, PoolHas, PoolMeans, HasTree}
use Rattle.air_symbolic.specs.BaseLeaves.{base_reads}
use Rattle.air_symbolic.specs.ExtLeaves.{BaseNodes, ext_reads}
use Rattle.air_symbolic.specs.ExtPool.{ExtNodes, BaseHas, BaseMeans}
use Rattle.air_symbolic.specs.declared.leaves.base_leaf.BaseLeaf.TheVariants.{IsFirstRow, IsLastRow, IsTransition}
use Rattle.air_recording.specs.Layouts.{layout_shape}
use Rattle.air_recording.specs.Recording.{Fixed}
use Rattle.air_recording.specs.declared.layouts.air_layout.AirLayout.{AirLayout}

-- the selectors' expressions, and the layout's shape
abbrev pub fixed_by : Selectors ℕ → AirLayout → Fixed ℕ
fixed_by s layout = record {
  on_first_row = s.is_first_row;
  on_last_row = s.is_last_row;
  on_transition = s.is_transition;
  shape = layout_shape layout;
}

-- the selectors' expressions are their leaves
pub record SelectorsAreLeaves {F : Type 0} (pool : BaseNodes F) (s : Selectors ℕ) : Type 0 where
  pub first : HasTree pool (Some (leaf_tree IsFirstRow)) s.is_first_row
  pub last : HasTree pool (Some (leaf_tree IsLastRow)) s.is_last_row
  pub step : HasTree pool (Some (leaf_tree IsTransition)) s.is_transition

-- an element of an extension pool's base pool is in the base of the extension pool, and means its term there
module _ {F EF : Type 0} (basis : Basis F EF) where
  pub base_has_it : (p : ExtNodes F EF) (x : ℕ) → IsPool (ext_reads basis) p → PoolHas base_reads p.base x → BaseHas basis p x
  base_has_it p x w h = record { pool = w; base = h }

  pub base_means_it : (r : CommRing F) (p : ExtNodes F EF) (x : ℕ) (t : Term F) → IsPool (ext_reads basis) p → PoolMeans base_reads r p.base x t → BaseMeans r basis p x t
  base_means_it r p x t w h = record { pool = w; base = h }
