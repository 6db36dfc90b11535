use Rattle.std.proofs.Common.{◌≡◌, ◌<◌, [], length, Some, None, sym, ◌∙◌, arith}
use Rattle.std.proofs.Math.ListN.{length-set}
use Rattle.std.proofs.lemmas.Grind.{common_steps}
use Rattle.std.proofs.lemmas.List.Elements.{All-pop}
use Rattle.air_json.proofs.Cleared.{without_rest, without_all}
use Rattle.air_json.proofs.written_lists.clear_places.Goals as goal

pub loop-id-preserved : goal.loop-id-preserved
loop-id-preserved g c =
    let h = c.loop-id.invariant in
    let n = c.in-Some.id in
    let popped = c.pop.new.self.items in
    rw c.number.ensures record {
      table = length-set c.loop-id.places.items n None ∙ h.table;
      rest = without_rest c.loop-id.written.items popped n c.loop-id.places.items c.in-Some.ensures.items ∙ h.rest;
      here = (All-pop (λ n. n < length c.args.places.now.items) c.loop-id.written.items popped (Some n) c.in-Some.ensures.items h.here).0;
    }

pub returns : goal.returns
returns g c =
    let none : c.loop-id.written.items ≡ [] = grind (arith, common_steps) in
    sym (without_all c.loop-id.written.items c.loop-id.places.items none) ∙ c.loop-id.invariant.rest
