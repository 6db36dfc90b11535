use Rattle.test_recordings.proofs.lent.show_done.Goals as goal

pub show_ext_expressions-requires : goal.show_ext_expressions-requires
show_ext_expressions-requires g c u h = rw c.ext_ring.ensures.value c.done_by.ensures.pool
