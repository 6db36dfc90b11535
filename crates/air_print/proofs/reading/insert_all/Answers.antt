use Rattle.air_print.proofs.Walks.{insert-seen, added-more, id_exact}
use Rattle.air_print.proofs.reading.insert_all.Goals as goal

pub loop-id-preserved : goal.loop-id-preserved
loop-id-preserved g c = λ i.
    added-more c.args.ids.now c.loop-id.id-index c.id-item.result i _ _ _ c.loop-id-test.true c.id-item.is (c.loop-id.invariant i)
    (insert-seen _ id_exact c.id-item.result c.loop-id.set.keys c.insert.new.self.keys c.in_ok-insert.ensures.keys i)
