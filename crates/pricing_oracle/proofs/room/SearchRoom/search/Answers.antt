use Rattle.std.proofs.Common.{◌≡◌, ◌∙◌, ap, length, subst, map, replicate, unsigned_abs}
use Rattle.clearing_model.specs.Tree.{Unsigned}
use Rattle.sign_tree.specs.Read.{node_of, placed_of, sign_of}
use Rattle.master_program.specs.Search.{legs_in}
use Rattle.pricing_oracle.specs.Searches.{asked_within, no_parts, parts_of}
use Rattle.pricing_oracle.proofs.BothSides.{BranchSays, whole_search}
use Rattle.pricing_oracle.proofs.room.SearchRoom.search.Goals as goal

pub returns-clause-search : goal.returns-clause-search
returns-clause-search g c =
    let q = asked_within g.N.Exact.fraction (unsigned_abs g.N.Exact.LIMIT) c.args.budget.now.limit c.args.asked in
    let signs = c.as_mut_slice.result.now in
    let none : map sign_of signs ≡ replicate (length (legs_in q)) Unsigned =
    ap (map sign_of) c.as_mut_slice.ensures.value ∙ c.write_unsigned.ensures.signs ∙ ap (λ k. replicate k Unsigned) c.requires.count in
    let cleared : parts_of (record { nodes = c.clear.new.self; multipliers = c.clear-2.new.self }) ≡ no_parts =
    λ i. record { nodes = map node_of (c.clear.ensures.items i); multipliers = map placed_of (c.clear-2.ensures.items i) } in
    whole_search q signs c.args.budget.now.spent c.branch-self.new.budget.spent no_parts (parts_of c.branch-self.new.room.tree) c.branch-self.result none
    (subst (λ old. BranchSays q signs c.args.budget.now.spent old (parts_of c.branch-self.new.room.tree) c.branch-self.result c.branch-self.new.budget.spent) cleared c.branch-self.ensures.search)
