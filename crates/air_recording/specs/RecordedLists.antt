-- The constraints that a symbolic builder has recorded, as lists.
use Rattle.std.specs.Prelude.{ℕ, []}
use Rattle.air_core.specs.declared.selectors.Selectors.{Selectors}
use Rattle.air_symbolic.specs.ExtPool.{ExtNodes}
use Rattle.air_recording.specs.Recording.{Lists}
use Rattle.air_recording.specs.declared.layouts.air_layout.AirLayout.{AirLayout}
use Rattle.air_recording.specs.declared.symbolic.builder.SymbolicAirBuilder.{SymbolicAirBuilder}
use Rattle.air_recording.specs.declared.symbolic.constraints.Constraints.{Constraints}

abbrev pub lists_of : {F EF : Type 0} → Constraints F EF → Lists ℕ ℕ
lists_of c = record { base = c.base.items; ext = c.ext.items; kinds = c.kinds.items }

-- nothing recorded
abbrev pub no_lists : Lists ℕ ℕ
no_lists = record { base = []; ext = []; kinds = [] }

-- the recorded constraints of a symbolic builder, its pool, its selectors and its layout
abbrev pub recorded_by : {F EF : Type 0} → SymbolicAirBuilder F EF → Lists ℕ ℕ
recorded_by b = lists_of b.constraints

abbrev pub pool_of : {F EF : Type 0} → SymbolicAirBuilder F EF → ExtNodes F EF
pool_of b = b.pool

abbrev pub selectors_of : {F EF : Type 0} → SymbolicAirBuilder F EF → Selectors ℕ
selectors_of b = b.selectors

abbrev pub layout_of : {F EF : Type 0} → SymbolicAirBuilder F EF → AirLayout
layout_of b = b.entries.base.layout
