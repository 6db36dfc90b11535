use Rattle.std.proofs.Common.{subst}
use Rattle.air_recording.specs.Folds.{ArePlacesOf}
use Rattle.air_recording.proofs.symbolic.record.record_with_layout.Goals as goal

pub returns-clause-ext : goal.returns-clause-ext
returns-clause-ext g c = rw (c.into_recorded.ensures.pool, c.into_recorded.ensures.ext) c.in_ok-builder.ensures.ext

pub returns-clause-places : goal.returns-clause-places
returns-clause-places g c =
    let places = c.in_ok-places.places in
    subst (λ l. ArePlacesOf l places.base_indices.items places.ext_indices.items) c.in_ok-builder.ensures.kinds c.in_ok-places.ensures.places

pub returns-clause-base_here : goal.returns-clause-base_here
returns-clause-base_here g c = rw (c.into_recorded.ensures.pool, c.into_recorded.ensures.base) c.in_ok-builder.ensures.base_here

pub returns-clause-ext_here : goal.returns-clause-ext_here
returns-clause-ext_here g c = rw (c.into_recorded.ensures.pool, c.into_recorded.ensures.ext) c.in_ok-builder.ensures.ext_here
