use Rattle.std.proofs.Common.{◌≡◌, false, eqb, get_or, lit<}
use Rattle.std.specs.List.{list_any}
use Rattle.std.proofs.lemmas.Bool.{ne_eqb}
use Rattle.std.proofs.lemmas.List.Elements.{All-from_get_or}
use Rattle.std.proofs.lemmas.List.Folds.{list_any_none}
use Rattle.std.proofs.lemmas.Str.Pattern.{NoCharPasses-char}
use Rattle.test_lines.proofs.words.coefficient_parts.Goals as goal

pub returns-else-contains-clause-parts : goal.returns-else-contains-clause-parts
returns-else-contains-clause-parts c =
    let none = rw c.if-contains.false at c.contains.ensures.cases in
    let no : list_any (λ b. eqb b 46) c.args.word.now ≡ false = list_any_none (λ b. eqb b 46) c.args.word.now
    (All-from_get_or (λ b. eqb b 46 ≡ false) c.args.word.now 0 (λ i lt. ne_eqb (get_or c.args.word.now i 0) 46 (NoCharPasses-char 46 c.args.word.now i none (lit< tt) lt))) in
    rw no (c.parts_of-else-contains.ensures.parts (lit< tt))
