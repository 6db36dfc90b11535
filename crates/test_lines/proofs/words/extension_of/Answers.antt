use Rattle.std.proofs.Common.{Bor, List, ℕ, arith, refl, inr}
use Rattle.std.proofs.lemmas.Slice.Zip.{AllZip-long}
use Rattle.test_lines.specs.Words.{SpellsElement}
use Rattle.test_lines.proofs.words.extension_of.Goals as goal

pub returns-clause-refused : goal.returns-clause-refused
returns-clause-refused g c =
    let same = AllZip-long (λ x (w : Bor (List ℕ)). SpellsElement g.F.Field.ring x w.now) c.in_ok-all.all.items c.args.words.now c.in_ok-all.ensures.elements in
    inr (inr (refl, λ z. c.if-len-DIMENSION.false (omega (arith, same, z, c.len.ensures, c.DIMENSION.ensures))))
