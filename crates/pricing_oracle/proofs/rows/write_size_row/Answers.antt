use Rattle.std.proofs.Common.{List, ap, map, ◌+◌, ◌++◌, ◌∙◌, replicate, pos}
use Rattle.exact_num.specs.Fraction.{whole}
use Rattle.pricing_oracle.proofs.WrittenRows.{size_row_is}
use Rattle.pricing_oracle.proofs.rows.write_size_row.Goals as goal

pub returns-clause-written : goal.returns-clause-written
returns-clause-written g c =
    let value = g.N.Exact.fraction in
    let ones = c.push_ones.ensures.added ∙ ap (λ (xs : List g.row.N.Denot). map value xs ++ replicate (c.args.n + 1) (whole (pos 1))) c.clear.ensures.items in
    size_row_is c.args.n c.args.covers (map value c.push_ones.new.row.items) (map value c.push_zeros.new.row.items) ones c.push_zeros.ensures.added
