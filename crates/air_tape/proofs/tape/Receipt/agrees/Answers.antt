use Rattle.std.proofs.Common.{rules, ◌≡◌, ℕ, sym, ap, ap₂, subst, ◌∙◌}
use Rattle.air_tape.specs.Tapes.{IsAt, id_at}
use Rattle.air_tape.proofs.Spans.{one_bucket, one_slot}
use Rattle.air_tape.proofs.tape.Receipt.agrees.Goals as goal

pub agrees-requires : goal.agrees-requires
agrees-requires g c = let a = c.self.inside in let b = c.other.inside in let same : a.index ≡ b.index = search rules in let at = subst (λ (i : ℕ). IsAt i a.bucket a.slot) same c.self.invariant.0 in
    let one : a.bucket ≡ b.bucket = one_bucket b.index a.bucket a.slot b.bucket b.slot at c.other.invariant.0 in search rules

pub agrees-requires-2 : goal.agrees-requires-2
agrees-requires-2 g c = let a = c.self.inside in let b = c.other.inside in let same : a.index ≡ b.index = search rules in let at = subst (λ (i : ℕ). IsAt i a.bucket a.slot) same c.self.invariant.0 in
    c.self.invariant.1 ∙ ap₂ (λ r (j : ℕ). id_at r.items j) c.agrees.ensures (one_slot b.index a.bucket a.slot b.bucket b.slot at c.other.invariant.0) ∙ sym c.other.invariant.1
