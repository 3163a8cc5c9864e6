use Rattle.std.proofs.Common.{rules, ◌≡◌, ◌-ℤ◌, ◌*ℤ◌, ap, FitsSigned}
use mir.Syntax.{w128}
use Rattle.std.proofs.lemmas.Int.{to_z-of_z}
use Rattle.integer_tableau.proofs.Numbers.{held_128}
use Rattle.integer_tableau.proofs.Words.{difference_within}
use Rattle.integer_tableau.proofs.word.I128Word.less_product.Goals as goal

pub overflow_sub-result : goal.overflow_sub-result
overflow_sub-result c =
    let fs : FitsSigned w128 c.args.self = search rules in
    let ff : FitsSigned w128 c.args.f = search rules in
    let fq : FitsSigned w128 c.args.q = search rules in
    let fp : FitsSigned w128 c.product-product.result = search rules in
    let is : c.product-product.result ≡ c.args.f *ℤ c.args.q = simp to_z-of_z at c.product-product.ensures in
    simp to_z-of_z (held_128 (c.args.self -ℤ c.product-product.result) (difference_within _ c.args.self c.args.f c.args.q c.product-product.result is c.requires))

pub returns : goal.returns
returns c =
    let fs : FitsSigned w128 c.args.self = search rules in
    let ff : FitsSigned w128 c.args.f = search rules in
    let fq : FitsSigned w128 c.args.q = search rules in
    let fp : FitsSigned w128 c.product-product.result = search rules in
    let is : c.product-product.result ≡ c.args.f *ℤ c.args.q = simp to_z-of_z at c.product-product.ensures in
    let fd : FitsSigned w128 (c.args.self -ℤ c.product-product.result) = held_128 (c.args.self -ℤ c.product-product.result) (difference_within _ c.args.self c.args.f c.args.q c.product-product.result is c.requires) in
    simp to_z-of_z (ap (λ z. c.args.self -ℤ z) is)
