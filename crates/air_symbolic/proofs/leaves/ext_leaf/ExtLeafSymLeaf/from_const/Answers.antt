use Rattle.std.proofs.Common.{ap, ◌∙◌}
use Rattle.air_symbolic.specs.BaseLeaves.{base_term, base_constant}
use Rattle.air_symbolic.specs.Trees.{term_of, tree_constant}
use Rattle.air_symbolic.proofs.leaves.ext_leaf.ExtLeafSymLeaf.from_const.Goals as goal

pub returns-clause-made : goal.returns-clause-made
returns-clause-made g c =
    let m = c.in_ok-id.ensures.made in
    record {
      valid = record { pool = c.constant.ensures.grown.pool c.requires; here = m.here };
      constant = ap (tree_constant base_constant) m.constant.1 ∙ m.constant.2.constant;
      term = ap (term_of base_term) m.constant.1 ∙ m.constant.2.term;
    }
