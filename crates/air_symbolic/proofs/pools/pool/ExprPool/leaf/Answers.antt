use Rattle.std.proofs.Common.{refl}
use Rattle.std.proofs.lemmas.List.Elements.{All-nil}
use Rattle.air_symbolic.proofs.pools.pool.ExprPool.leaf.Goals as goal

pub insert-requires : goal.insert-requires
insert-requires g c = record { owed = c.requires.owed; fits = record { valid = c.requires.valid; below = All-nil _; degree = refl; in_range = g.met.A.SymLeaf.leaf_laws.in_range _ _ c.requires.valid } }

pub returns : goal.returns
returns g c = let e = c.insert.ensures in record { same_base = e.same_base; grown = e.grown; made = e.made; numbered = e.numbered; refused = e.refused; kept = e.kept }
