use Rattle.std.proofs.Common.{rules}
use Rattle.std.proofs.lemmas.Result.{on_ok_weaker, on_err_weaker}
use Rattle.air_symbolic.proofs.Entering.{Entered-in_run, Entered-in_new_run, Entered-in_rest, number_in-same_rest}
use Rattle.air_symbolic.proofs.pools.kind_table.KindTable.enter.Goals as goal

pub returns-in-Some-clause-entered : goal.returns-in-Some-clause-entered
returns-in-Some-clause-entered g c =
    on_ok_weaker _
    (Entered-in_run g.met.K.Ord.total c.args.key c.args.number c.requires.exact c.args.self.now.runs.items c.args.self.now.rest
    c.in-Some.at c.in-Some.ensures.0 c.index_mut.result.now c.push.new.self (rw c.deref.ensures.value at c.in-Some.ensures.1) c.index_mut.ensures.value)
    c.push.ensures.pushed

pub returns-then-len-lt-RUNS-clause-entered : goal.returns-then-len-lt-RUNS-clause-entered
returns-then-len-lt-RUNS-clause-entered g c =
    rw (c.in_ok-push-2.ensures.items, c.in_ok-push.ensures.pushed, c.in_ok-run.ensures)
    (Entered-in_new_run g.met.K.Ord.total c.args.key c.args.number c.requires.exact c.args.self.now.runs.items c.args.self.now.rest)

pub returns-in_err-insert-clause-refused : goal.returns-in_err-insert-clause-refused
returns-in_err-insert-clause-refused g c =
    on_err_weaker _ (number_in-same_rest g.K.Ord.cmp c.args.self.now.runs.items c.args.self.now.rest c.insert.new.self) (search rules)

pub returns-clause-entered : goal.returns-clause-entered
returns-clause-entered g c =
    Entered-in_rest g.met.K.Ord.total c.args.key c.args.number c.requires.exact c.args.self.now.runs.items c.args.self.now.rest c.insert.new.self c.in_ok-insert.ensures.updates
