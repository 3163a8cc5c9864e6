use Rattle.std.proofs.Common.{List, ap, map, ◌-◌, ◌∙◌, sym, unsigned_abs}
use Rattle.exact_num.specs.Fits.{whole_of}
use Rattle.exact_num.specs.Fraction.{negated, whole}
use Rattle.form.specs.Payoff.{option_of}
use Rattle.master_program.specs.Master.{map_steps}
use Rattle.master_program.specs.Roles.{entries}
use Rattle.pricing_oracle.specs.Built.{list_then}
use Rattle.pricing_oracle.specs.Programs.{unit_at}
use Rattle.pricing_oracle.proofs.Added.{row_written}
use Rattle.pricing_oracle.proofs.WrittenRows.{unit_row_is}
use Rattle.pricing_oracle.proofs.rows.write_cover_row.Goals as goal

pub returns-clause-written : goal.returns-clause-written
returns-clause-written g c =
    let value = g.N.Exact.fraction in
    let steps = map_steps (whole_of (unsigned_abs g.N.Exact.LIMIT)) (entries c.args.n (option_of c.args.form.now)) in
    let mid = map value c.add_entries.new.row.items in
    let behind = c.args.covers - c.args.place - 1 in
    let row = unit_row_is value mid c.push_zeros.new.row.items c.push_within.new.items.items (map value c.push_zeros-2.new.row.items) c.neg.result c.args.place behind
    c.push_zeros.ensures.added c.push_within.ensures.items (c.neg.ensures ∙ ap negated c.one.ensures) c.push_zeros-2.ensures.added in
    row_written steps mid (map whole (unit_at c.args.place behind)) (map value c.push_zeros-2.new.row.items)
    (ap (λ (xs : List g.row.N.Denot). list_then (map value xs) steps) (sym c.clear.ensures.items) ∙ c.in_ok-add_entries.ensures.added) row
