use Rattle.std.proofs.Common.{◌≡◌, ◌≢◌, ℕ, List, length, Result, IfOk, IfErr, sym, ap, subst, ◌∙◌}
use Rattle.serde_json.specs.Data.{array}
use Rattle.serde_json.specs.View.{items_of}
use Rattle.air_json.specs.NodeLists.{IsList, HasFault}
use Rattle.air_json.specs.ListReaders.{numbers_or, last_number, HasRead, IsNumbered}
use Rattle.air_json.specs.Unshared.{seen_at}
use Rattle.air_json.specs.declared.errors.FlatError.{FlatError}
use Rattle.air_json.specs.declared.errors.FlatError.TheVariants as faults
use Rattle.air_json.proofs.ListReading.{root_is, root_fails, read_into}
use Rattle.air_json.proofs.lists.ListReader.root.Goals as goal

pub returns-clause-root : goal.returns-clause-root
returns-clause-root g c p ds h =
    let A = g.A.WireLeaf in
    let reader = numbers_or c.deref.result.now c.self.inside.fault in
    let same : c.args.self ≡ reader = sym c.self.view_is ∙ ap (λ is. numbers_or is c.self.inside.fault) (sym c.deref.ensures.value) in
    subst (λ (r : Result ℕ FlatError). IfOk r (λ i. IsList A.kind (array (items_of ds)) (seen_at A.seen p i))) (sym c.last_or.ensures)
    (root_is A.kind g.met.A.WireLeaf.kind_laws (seen_at A.seen) p ds reader (subst (λ (r : Result (List ℕ) FlatError). HasRead A.kind (seen_at A.seen) p ds r) same h))

pub returns-clause-fault : goal.returns-clause-fault
returns-clause-fault g c p ds h =
    let A = g.A.WireLeaf in
    let reader = numbers_or c.deref.result.now c.self.inside.fault in
    let same : c.args.self ≡ reader = sym c.self.view_is ∙ ap (λ is. numbers_or is c.self.inside.fault) (sym c.deref.ensures.value) in
    subst (λ (r : Result ℕ FlatError). IfErr r (λ e. e ≢ faults.Memory → HasFault A.kind (array (items_of ds)) e)) (sym c.last_or.ensures)
    (root_fails A.kind g.met.A.WireLeaf.kind_laws (seen_at A.seen) p ds reader (subst (λ (r : Result (List ℕ) FlatError). HasRead A.kind (seen_at A.seen) p ds r) same h))

pub returns-clause-gained : goal.returns-clause-gained
returns-clause-gained g c p q ds h k =
    let A = g.A.WireLeaf in
    let reader = numbers_or c.deref.result.now c.self.inside.fault in
    let same : c.args.self ≡ reader = sym c.self.view_is ∙ ap (λ is. numbers_or is c.self.inside.fault) (sym c.deref.ensures.value) in
    read_into A.kind (seen_at A.seen) p q ds reader c.last_or.result c.last_or.ensures
    (subst (λ (r : Result (List ℕ) FlatError). HasRead A.kind (seen_at A.seen) q ds r) same h)
    (subst (λ (r : Result (List ℕ) FlatError). IsNumbered (length p.nodes) r (length q.nodes)) same k)

pub returns-clause-last : goal.returns-clause-last
returns-clause-last g c =
    let same : c.args.self ≡ numbers_or c.deref.result.now c.self.inside.fault = sym c.self.view_is ∙ ap (λ is. numbers_or is c.self.inside.fault) (sym c.deref.ensures.value) in
    c.last_or.ensures ∙ ap last_number (sym same)
