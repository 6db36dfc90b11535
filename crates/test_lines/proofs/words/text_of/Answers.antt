use Rattle.std.proofs.Common.{Bool, true, false, string_bytes, refl, sym, subst, ◌∙◌, rules, inl, inr}
use Rattle.std.proofs.lemmas.Iterator.{YieldsList-from_chars}
use Rattle.std.proofs.lemmas.Iterator.Consumers.{YieldsList-so_far, YieldsList-turn, YieldsList-end}
use Rattle.std.proofs.lemmas.List.{map-id}
use Rattle.std.specs.Str.{chars}
use Rattle.test_lines.specs.Spelled.{escaped_letter, SpellsNoText}
use Rattle.test_lines.proofs.Spelled.{SpellsSoFar, spells-nothing, spells-behind, spells-more, spells-all, letter-of, no-letter, read-next, spells-none, spells-open}
use Rattle.test_lines.proofs.words.text_of.Goals as goal

pub loop-letter-init : goal.loop-letter-init
loop-letter-init c = rw c.new-text.ensures.bytes spells-nothing

pub loop-letter-preserved-then-behind : goal.loop-letter-preserved-then-behind
loop-letter-preserved-then-behind c =
    let behind = subst (λ (b : Bool). SpellsSoFar c.loop-letter.yielded b (string_bytes c.loop-letter.text)) c.if-behind.true c.loop-letter.invariant in
    let letter = letter-of (escaped_letter c.in-Some.letter) _ c.in_ok-unescape.field-0 c.in_ok-unescape.ensures in
    rw c.in_ok-push.ensures.bytes (spells-more c.loop-letter.yielded (string_bytes c.loop-letter.text) true c.in-Some.letter c.in_ok-unescape.field-0 behind (inr (c.in-Some.letter, refl, letter)))

pub loop-letter-preserved-then-letter-eq92 : goal.loop-letter-preserved-then-letter-eq92
loop-letter-preserved-then-letter-eq92 c =
    let whole = subst (λ (b : Bool). SpellsSoFar c.loop-letter.yielded b (string_bytes c.loop-letter.text)) c.if-behind.false c.loop-letter.invariant in
    rw c.if-letter-eq92.true (spells-behind c.loop-letter.yielded (string_bytes c.loop-letter.text) whole)

pub loop-letter-preserved : goal.loop-letter-preserved
loop-letter-preserved c =
    let whole = subst (λ (b : Bool). SpellsSoFar c.loop-letter.yielded b (string_bytes c.loop-letter.text)) c.if-behind.false c.loop-letter.invariant in
    rw (c.in_ok-push-2.ensures.bytes, c.if-behind.false) (spells-more c.loop-letter.yielded (string_bytes c.loop-letter.text) false c.in-Some.letter c.in-Some.letter whole (inl (refl, c.if-letter-eq92.false)))

pub returns-clause-text : goal.returns-clause-text
returns-clause-text c = λ _.
    let t = YieldsList-end (YieldsList-from_chars c.args.word.now c.utf8.word cc) c.loop-letter.yielded _ c.loop-letter.yielded_by _ _ c.in-None.is c.next.ensures.steps in
    let whole = subst (λ (b : Bool). SpellsSoFar c.loop-letter.yielded b (string_bytes c.loop-letter.text)) c.if-behind-2.false c.loop-letter.invariant in
    spells-all c.args.word.now (string_bytes c.loop-letter.text) c.loop-letter.yielded (sym (map-id c.loop-letter.yielded) ∙ t.0) whole

pub returns-in_err-unescape-clause-refused : goal.returns-in_err-unescape-clause-refused
returns-in_err-unescape-clause-refused c =
    let road = YieldsList-from_chars c.args.word.now c.utf8.word cc in
    let read = sym (map-id c.loop-letter.yielded) ∙ YieldsList-so_far road c.loop-letter.yielded _ c.loop-letter.yielded_by in
    let t = YieldsList-turn road c.loop-letter.yielded _ c.loop-letter.yielded_by _ _ c.in-Some.letter c.in-Some.is c.next.ensures.steps in
    let all = read-next (chars c.args.word.now) c.loop-letter.yielded c.in-Some.letter read t.0 t.1 in
    let behind = subst (λ (b : Bool). SpellsSoFar c.loop-letter.yielded b (string_bytes c.loop-letter.text)) c.if-behind.true c.loop-letter.invariant in
    let not = no-letter (escaped_letter c.in-Some.letter) _ c.in_err-unescape.field-0.0 c.in_err-unescape.ensures in
    let none = not.0 in
    let is = not.1 in
    let no : SpellsNoText c.args.word.now = λ text. spells-none c.args.word.now c.loop-letter.yielded _ text c.in-Some.letter all none (string_bytes c.loop-letter.text) behind in
    search (rules, no, is)

pub returns-then-behind-2-clause-refused : goal.returns-then-behind-2-clause-refused
returns-then-behind-2-clause-refused c =
    let t = YieldsList-end (YieldsList-from_chars c.args.word.now c.utf8.word cc) c.loop-letter.yielded _ c.loop-letter.yielded_by _ _ c.in-None.is c.next.ensures.steps in
    let behind = subst (λ (b : Bool). SpellsSoFar c.loop-letter.yielded b (string_bytes c.loop-letter.text)) c.if-behind-2.true c.loop-letter.invariant in
    inr (refl, λ text. spells-open c.args.word.now c.loop-letter.yielded text (sym (map-id c.loop-letter.yielded) ∙ t.0) (string_bytes c.loop-letter.text) behind)
