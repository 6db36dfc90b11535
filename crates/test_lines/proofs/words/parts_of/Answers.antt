use Rattle.std.specs.Prelude.{IfOk}
use Rattle.std.proofs.Common.{◌≡◌, map, subst}
use Rattle.std.proofs.lemmas.Iterator.Consumers.{map_from_collect}
use Rattle.std.proofs.lemmas.Iterator.Splits.{YieldsList-from_str_split}
use Rattle.test_lines.specs.Listed.{parts_at}
use Rattle.test_lines.proofs.words.parts_of.Goals as goal

pub returns-clause-parts : goal.returns-clause-parts
returns-clause-parts c = λ lt.
    let h = map_from_collect c.collect.result c.collect.ensures.ran (YieldsList-from_str_split {s = c.split.result} c.args.separator c.args.word.now lt c.split.ensures.text c.split.ensures.has_more c.split.ensures.pattern) in
    subst (λ r. IfOk r (λ ps. map (λ p. p.now) ps.items ≡ parts_at c.args.separator c.args.word.now)) c.in_ok-parts.was h
