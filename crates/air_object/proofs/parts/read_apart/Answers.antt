use Rattle.std.proofs.Common.{◌≡◌, ◌≢◌, ◌-◌, length, Some, codes, string_bytes, refl, sym, ap, subst, ◌∙◌, arith, rules}
use Rattle.json.specs.Json.{read_key, value}
use Rattle.json.proofs.Grammar.{read_key-shorter}
use Rattle.serde_json.specs.Data.{put, no_members}
use Rattle.serde_json.specs.View.{view, members_view}
use Rattle.serde_json.proofs.Views.{members_view-insert_entry}
use Rattle.air_object.specs.Parts.{AreMembersOf}
use Rattle.air_object.proofs.PartLemmas.{none_of_members, puts_main, puts_apart, puts_other}
use Rattle.air_object.proofs.TokenLemmas.{member_read, member_refused, key_refused, members_over}
use Rattle.air_object.proofs.parts.read_apart.Goals as goal

pub members-init : goal.members-init
members-init g c = (
  length c.args.reader.now,
  omega arith,
  no_members,
  refl,
  omega arith,
  subst (λ es. AreMembersOf g.F.PrimeField64.residues no_members (members_view es) c.missing_elements-main.result c.missing_constraints-constraints.result) (sym c.new-rest.ensures.empty) (none_of_members g.F.PrimeField64.residues c.missing_elements-main.result c.missing_constraints-constraints.result c.missing_elements-main.ensures.given c.missing_constraints-constraints.ensures.given),
)

pub returns-in_err-name-clause-err : goal.returns-in_err-name-clause-err
returns-in_err-name-clause-err g c refused =
    let l = c.members in
    l.invariant.3 ∙ key_refused (value c.args.depth) l.invariant.2 l.invariant.0 l.reader c.in_err-name.ensures.value

pub returns-in_err-main-clause-err : goal.returns-in_err-main-clause-err
returns-in_err-main-clause-err g c refused =
    let l = c.members in
    let s = c.next_key.new.self in
    let named : read_key l.reader ≡ Some (Some c.in-Some.name.now, s) = grind arith in
    l.invariant.3 ∙ member_refused (value c.args.depth) l.invariant.2 l.invariant.0 c.in-Some.name.now l.reader s named (c.read_elements.ensures.err (grind arith))

pub returns-in_err-constraints-clause-err : goal.returns-in_err-constraints-clause-err
returns-in_err-constraints-clause-err g c refused =
    let l = c.members in
    let s = c.next_key.new.self in
    let named : read_key l.reader ≡ Some (Some c.in-Some.name.now, s) = grind arith in
    l.invariant.3 ∙ member_refused (value c.args.depth) l.invariant.2 l.invariant.0 c.in-Some.name.now l.reader s named (c.read_constraints.ensures.err (grind arith))

pub returns-in_err-member-clause-err : goal.returns-in_err-member-clause-err
returns-in_err-member-clause-err g c refused =
    let l = c.members in
    let s = c.next_key.new.self in
    let named : read_key l.reader ≡ Some (Some c.in-Some.name.now, s) = grind arith in
    l.invariant.3 ∙ member_refused (value c.args.depth) l.invariant.2 l.invariant.0 c.in-Some.name.now l.reader s named (c.read.ensures.err (grind arith))

pub members-preserved : goal.members-preserved
members-preserved g c =
    let p = value c.args.depth in
    let l = c.members in
    let n = l.invariant.0 in
    let old = l.invariant.2 in
    let k = c.in-Some.name.now in
    let s = c.next_key.new.self in
    let named : read_key l.reader ≡ Some (Some k, s) = grind arith in
    let done = c.in_ok-member.ensures in
    let v = c.in_ok-member.member in
    let r = c.read.new.reader in
    let less = read_key-shorter l.reader (Some k) s named in
    let lesser = done.shorter in
    let copied : string_bytes c.in_ok-key.key ≡ k = search rules in
    let inserted : members_view c.insert.new.self.entries ≡ put k (view v) (members_view l.rest.entries) =
    ap members_view c.in_ok-insert.ensures.entries ∙ members_view-insert_entry l.rest.entries c.in_ok-key.key v ∙ ap (λ name. put name (view v) (members_view l.rest.entries)) copied in
    let first : k ≢ codes "main" = search rules in
    let other : k ≢ codes "constraints" = search rules in (
      n - 1,
      omega (arith, l.invariant.1),
      put k (view v) old,
      l.invariant.3 ∙ member_read p old n k l.reader s r (view v) (omega (arith, l.invariant.1)) named done.ok,
      omega (arith, l.invariant.4),
      subst (λ ms. AreMembersOf g.F.PrimeField64.residues (put k (view v) old) ms l.main l.constraints) (sym inserted) (puts_other g.F.PrimeField64.residues old (members_view l.rest.entries) l.main l.constraints k (view v) first other l.invariant.5),
    )

pub members-preserved-then-eq : goal.members-preserved-then-eq
members-preserved-then-eq g c =
    let p = value c.args.depth in
    let l = c.members in
    let n = l.invariant.0 in
    let old = l.invariant.2 in
    let k = c.in-Some.name.now in
    let s = c.next_key.new.self in
    let named : read_key l.reader ≡ Some (Some k, s) = grind arith in
    let done = c.in_ok-main.ensures in
    let read = done.ok in
    let r = c.read_elements.new.reader in
    let less = read_key-shorter l.reader (Some k) s named in
    let lesser = done.shorter in
    let apart : k ≡ codes "main" = search rules in (
      n - 1,
      omega (arith, l.invariant.1),
      put k read.0 old,
      l.invariant.3 ∙ member_read p old n k l.reader s r read.0 (omega (arith, l.invariant.1)) named read.1,
      omega (arith, l.invariant.4),
      subst (λ name. AreMembersOf g.F.PrimeField64.residues (put name read.0 old) (members_view l.rest.entries) c.in_ok-main.main l.constraints) (sym apart)
          (puts_main g.F.PrimeField64.residues old (members_view l.rest.entries) l.main c.in_ok-main.main l.constraints read.0 l.invariant.5 read.2),
    )

pub members-preserved-then-eq-2 : goal.members-preserved-then-eq-2
members-preserved-then-eq-2 g c =
    let p = value c.args.depth in
    let l = c.members in
    let n = l.invariant.0 in
    let old = l.invariant.2 in
    let k = c.in-Some.name.now in
    let s = c.next_key.new.self in
    let named : read_key l.reader ≡ Some (Some k, s) = grind arith in
    let done = c.in_ok-constraints.ensures in
    let read = done.ok in
    let r = c.read_constraints.new.reader in
    let less = read_key-shorter l.reader (Some k) s named in
    let lesser = done.shorter in
    let apart : k ≡ codes "constraints" = search rules in (
      n - 1,
      omega (arith, l.invariant.1),
      put k read.0 old,
      l.invariant.3 ∙ member_read p old n k l.reader s r read.0 (omega (arith, l.invariant.1)) named read.1,
      omega (arith, l.invariant.4),
      subst (λ name. AreMembersOf g.F.PrimeField64.residues (put name read.0 old) (members_view l.rest.entries) l.main c.in_ok-constraints.constraints) (sym apart)
          (puts_apart g.F.PrimeField64.residues old (members_view l.rest.entries) l.main l.constraints c.in_ok-constraints.constraints read.0 l.invariant.5 read.2),
    )

pub returns-clause-ok : goal.returns-clause-ok
returns-clause-ok g c =
    let l = c.members in (
      l.invariant.2,
      l.invariant.3 ∙ members_over (value c.args.depth) l.invariant.2 l.invariant.0 l.reader c.next_key.new.self l.invariant.1 (grind arith),
      l.invariant.5,
    )
