use contract.BorrowLft.{⊑_static}
use Rattle.test_in_code.proofs.tests.lent.context_texts_at_row.Goals as goal

-- EF is 'static
pub context_texts-requires-lives-AB-AirBuilderWithContext-2 : goal.context_texts-requires-lives-AB-AirBuilderWithContext-2
context_texts-requires-lives-AB-AirBuilderWithContext-2 g c κs within = λ a m. ⊑_static _ a (c.type_bounds.static-EF a m)

pub context_texts-requires-lives-AB-AirBuilder-2 : goal.context_texts-requires-lives-AB-AirBuilder-2
context_texts-requires-lives-AB-AirBuilder-2 g c κs within = λ a m. ⊑_static _ a (c.type_bounds.static-EF a m)
