use Rattle.form.proofs.Divisors.{primitive_vectors_are_primitive}
use Rattle.form.proofs.laws.primitive_vectors_are_primitive.Goals as goal

pub returns : goal.returns
returns c = primitive_vectors_are_primitive
