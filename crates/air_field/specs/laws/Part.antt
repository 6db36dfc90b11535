-- A part of a part of a term is a part of it.
use Rattle.air_field.specs.Term.{Term}
use Rattle.air_field.specs.Part.{Part, whole, in_add_left, in_add_right, in_sub_left, in_sub_right, in_neg, in_mul_left, in_mul_right}

pub part_in : {F : Type 0} {t u v : Term F} → Part t u → Part u v → Part t v
part_in p whole = p
part_in p (in_add_left q) = in_add_left (part_in p q)
part_in p (in_add_right q) = in_add_right (part_in p q)
part_in p (in_sub_left q) = in_sub_left (part_in p q)
part_in p (in_sub_right q) = in_sub_right (part_in p q)
part_in p (in_neg q) = in_neg (part_in p q)
part_in p (in_mul_left q) = in_mul_left (part_in p q)
part_in p (in_mul_right q) = in_mul_right (part_in p q)
