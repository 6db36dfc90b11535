use Rattle.std.proofs.Common.{◌<◌, ◌≤◌, ◌∙◌, All, Bor, List, ℕ, length, map, ap, arith, rules}
use Rattle.test_lines.specs.Words.{IsNumber, SpellsNumber}
use Rattle.test_lines.specs.Listed.{comma_parts}
use Rattle.test_lines.proofs.Lists.{AllZip-more, AllZip-all, AllZip-read, All-read}
use Rattle.test_lines.proofs.words.counts_of.Goals as goal

pub loop-part-preserved : goal.loop-part-preserved
loop-part-preserved c =
    let lt : c.loop-part.part-index < length c.deref-part-items.result.now = omega arith in
    rw c.in_ok-push.ensures.items (AllZip-more (λ n w. SpellsNumber n w.now) c.loop-part.all.items c.deref-part-items.result.now c.loop-part.part-index c.in_ok-count_of.field-0 _ lt c.loop-part.invariant c.in_ok-count_of.ensures.number)

pub returns-in_err-count_of-clause-refused : goal.returns-in_err-count_of-clause-refused
returns-in_err-count_of-clause-refused c =
    let parts = ap (λ (ps : List (Bor (List ℕ))). map (λ (p : Bor (List ℕ)). p.now) ps) c.deref-part-items.ensures.value ∙ c.in_ok-parts.ensures.parts in
    let no = λ (all : All IsNumber (comma_parts c.args.word.now)). c.in_err-count_of.ensures.number (All-read IsNumber (λ (p : Bor (List ℕ)). p.now) c.deref-part-items.result.now (comma_parts c.args.word.now) c.loop-part.part-index _ parts (omega arith) all) in
    search (rules, no)

pub returns-clause-counts : goal.returns-clause-counts
returns-clause-counts c =
    let parts = ap (λ (ps : List (Bor (List ℕ))). map (λ (p : Bor (List ℕ)). p.now) ps) c.deref-part-items.ensures.value ∙ c.in_ok-parts.ensures.parts in
    let le : length c.deref-part-items.result.now ≤ c.loop-part.part-index = omega arith in
    AllZip-read SpellsNumber (λ (p : Bor (List ℕ)). p.now) c.loop-part.all.items c.deref-part-items.result.now (comma_parts c.args.word.now) parts
    (AllZip-all (λ n (w : Bor (List ℕ)). SpellsNumber n w.now) c.loop-part.all.items c.deref-part-items.result.now c.loop-part.part-index le c.loop-part.invariant)
