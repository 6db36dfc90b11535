use Rattle.std.proofs.Common.{◌++◌, codes, decimal, string_bytes, append-nil, ap, sym, ◌∙◌}
use Rattle.test_lines.proofs.Shown.{spaced-more, spaced-all}
use Rattle.test_lines.proofs.words.show_elements.Goals as goal

pub loop-place-init : goal.loop-place-init
loop-place-init g c = c.in_ok-push_str.ensures.bytes ∙ sym (append-nil (string_bytes c.args.text.now ++ codes "["))

pub loop-place-preserved : goal.loop-place-preserved
loop-place-preserved g c =
    spaced-more g.F.Number.least c.args.elements.now c.loop-place.place c.index-elements-place.result (string_bytes c.args.text.now ++ codes "[") (string_bytes c.loop-place.text) (string_bytes c.show_space.new.text) (string_bytes c.write.new.self)
    c.loop-place-test.true c.index-elements-place.is c.loop-place.invariant c.in_ok-show_space.ensures.added (c.in_ok-write.ensures.bytes ∙ ap (λ n. string_bytes c.show_space.new.text ++ decimal n) c.number-number.ensures)

pub returns-clause-added : goal.returns-clause-added
returns-clause-added g c =
    spaced-all g.F.Number.least c.args.elements.now c.loop-place.place (string_bytes c.args.text.now) (string_bytes c.loop-place.text) (string_bytes c.push_str-2.new.self)
    c.loop-place-test.false c.loop-place.invariant c.in_ok-push_str-2.ensures.bytes
