use Rattle.std.proofs.Common.{◌≡◌, ◌+◌, subst, arith, length, ℕ}
use Rattle.fraction_tableau.specs.Candidates.{IsPivot}
use Rattle.fraction_tableau.specs.Lists.{fronts}
use Rattle.fraction_tableau.proofs.table.Table.leaving.Goals as goal

pub returns-clause-pivot : goal.returns-clause-pivot
returns-clause-pivot g c r h =
    let t = c.args.self.now in
    let count : c.len.result ≡ length t.labels.items = omega (arith, c.len.ensures, t.labels.ok) in
    subst (λ (k : ℕ). IsPivot c.args.c r (fronts g.N.Exact.fraction (k + 1) t.rows.rows)) count (c.leaving.ensures.pivot r h)
