use Rattle.std.proofs.Common.{rules, ap, sym, ◌∙◌}
use Rattle.air_tape.specs.Tapes.{id_at}
use Rattle.air_tape.proofs.Telling.{told_at}
use Rattle.air_tape.proofs.listing.Listing.get.Goals as goal

pub agrees-requires-clause-rows : goal.agrees-requires-clause-rows
agrees-requires-clause-rows g c = λ same. let s = c.args.self.now in
    let own = told_at s.tape.value s.items.items s.shown.items s.told c.index-index.result c.index.result.now c.args.receipt.now.value (search rules) c.index.ensures in
    own.1.1 ∙ ap (id_at s.tape.value) same ∙ sym c.requires.1

pub agrees-requires-clause-same : goal.agrees-requires-clause-same
agrees-requires-clause-same g c = let s = c.args.self.now in
    let own = told_at s.tape.value s.items.items s.shown.items s.told c.index-index.result c.index.result.now c.args.receipt.now.value (search rules) c.index.ensures in
    own.0 ∙ c.index-index.ensures
