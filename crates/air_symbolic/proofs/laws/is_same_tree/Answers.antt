use Rattle.std.proofs.Common.{◌≡◌, ◌≢◌, ⊎_elim, ℕ, Bool, true, false, eqb, ◌&&◌, Decides, ap, ◌∙◌}
use Rattle.std.proofs.lemmas.Bool.Decides.{eqb_tells}
use Rattle.air_symbolic.specs.Pools.{tree_at}
use Rattle.air_symbolic.specs.laws.Sharing.{shared}
use Rattle.air_symbolic.proofs.laws.is_same_tree.Goals as goal

tells : (x y : ℕ) (r : Bool) → r ≡ eqb x y && true → Decides r (x ≡ y)
tells x y r e =
    ⊎_elim
    (λ (h : (eqb x y ≡ true) × (x ≡ y)). (λ q. h.1, λ q. e ∙ ap (λ b. b && true) h.0))
    (λ (h : (eqb x y ≡ false) × (x ≢ y)).
    (let f : r ≡ false = e ∙ ap (λ b. b && true) h.0 in λ q. absurd (cc), λ q. absurd (h.1 q)))
    (eqb_tells x y)

pub returns : goal.returns
returns g c =
    let p = c.args.pool.now in
    let d = tells c.args.x c.args.y c.eq.result c.eq.ensures in
    record {
      numbers = d;
      trees = (
        λ q. ap (tree_at p) (d.0 q),
        λ q. d.1 (shared (g.A.SymLeaf.reads p.base) p.nodes c.nodes_fit.ensures.nodes c.args.x c.args.y c.requires.x_in c.requires.y_in q),
      );
    }
