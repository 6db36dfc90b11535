use Rattle.std.proofs.Common.{option_and_then, sym, ap, ◌∙◌, arith}
use Rattle.air_json.specs.Parts.{only_of}
use Rattle.air_json.proofs.OnlyMember.{only_of-other, only_of-first}
use Rattle.air_json.proofs.parts.only_member.Goals as goal

pub returns-then-len-ne1 : goal.returns-then-len-ne1
returns-then-len-ne1 c =
    sym (only_of-other c.in_ok-members.members.now.entries (λ e. omega arith)) ∙ ap (option_and_then only_of) c.in_ok-members.ensures

pub returns : goal.returns
returns c =
    rw c.as_str.ensures.value (sym (only_of-first c.in_ok-members.members.now.entries c.in_ok-name.name.now c.in_ok-name.contents.now (omega arith) c.in_ok-name.ensures.first) ∙ ap (option_and_then only_of) c.in_ok-members.ensures)
