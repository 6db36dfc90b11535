use Rattle.std.proofs.Common.{◌≡◌, ◌<◌, length, All}
use Rattle.air_json.specs.Writing.{without_places}
use Rattle.air_json.proofs.written_lists.clear_places.Given as goal

abbrev pub invariant-loop-id : goal.invariant-loop-id
invariant-loop-id g l = record {
  table : length l.places.items ≡ length l.initial.places.items;
  rest : without_places l.written.items l.places.items ≡ without_places l.initial.written.items l.initial.places.items;
  here : All (λ n. n < length l.initial.places.items) l.written.items;
}

abbrev pub decreases-loop-id : goal.decreases-loop-id
decreases-loop-id g l = length l.written.items
