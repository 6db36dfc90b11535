use Rattle.air_draft.proofs.notes.Notes.index_label.Goals as goal

pub returns-in-Ok-clause-written : goal.returns-in-Ok-clause-written
returns-in-Ok-clause-written c = rw (← c.in-Ok.ensures.ok, ← c.deref.ensures) c.label.ensures.written
