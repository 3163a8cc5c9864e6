use Rattle.std.proofs.Common.{◌≡◌, ◌+◌, ◌-◌, ◌*◌, ◌≤◌, take, mul-le-mul_right, arith, ◌∙◌, ap}
use Rattle.lists.specs.Rows.{Rows}
use Rattle.lists.proofs.Rows.{row_count, cut-fewer}
use Rattle.lists.proofs.arena.RowArena.release_from.Goals as goal

pub overflow_sub-self : goal.overflow_sub-self
overflow_sub-self g c =
    let s = c.self.inside in
    let count = row_count s.width s.count s.spare s.block.numbers c.args.self.now c.self.view_is in
    omega (arith, c.requires, count)

pub invariant_of-self : goal.invariant_of-self
invariant_of-self g c =
    let s = c.self.inside in
    let b = c.self.invariant.0 in
    let count = row_count s.width s.count s.spare s.block.numbers c.args.self.now c.self.view_is in
    let inside : c.args.k ≤ s.count = omega (arith, c.requires, count) in
    let fewer : c.args.k * s.width ≤ s.count * s.width = mul-le-mul_right s.width inside in
    let same : s.count + s.spare ≡ c.args.k + (s.spare + (s.count - c.args.k)) = omega (arith, inside) in
    (record { some = b.some; narrow = b.narrow; rows = omega (arith, fewer, b.rows); room = b.room ∙ ap (λ n. n * s.width) same; small = b.small }, c.self.invariant.1)

pub returns-clause-rows : goal.returns-clause-rows
returns-clause-rows g c =
    let s = c.self.inside in
    let count = row_count s.width s.count s.spare s.block.numbers c.args.self.now c.self.view_is in
    cut-fewer s.width c.args.k s.count s.block.numbers (omega (arith, c.requires, count)) ∙ ap (λ (r : Rows g.row.N.Denot). take c.args.k r.rows) c.self.view_is

pub returns-clause-spare : goal.returns-clause-spare
returns-clause-spare g c =
    let s = c.self.inside in
    let count = row_count s.width s.count s.spare s.block.numbers c.args.self.now c.self.view_is in
    omega (arith, count, ap (λ (r : Rows g.row.N.Denot). r.spare) c.self.view_is)
