use Rattle.std.proofs.Common.{◌^◌, arith, refl}
use Rattle.integer_tableau.proofs.Halves.{product_in_words}
use Rattle.integer_tableau.proofs.products.product_words.Goals as goal

pub returns-clause-product : goal.returns-clause-product
returns-clause-product c = product_in_words (2 ^ 64) c.args.a c.args.b _ _ _ (omega arith) refl refl refl
