use Rattle.std.proofs.Common.{ℕ, ◌≡◌, ◌-◌, ◌++◌, ◌∷◌, [], ◌∙◌, arith, ap, length, map}
use Rattle.std.proofs.lemmas.List.{map-append}
use Rattle.clearing_model.specs.Written.{LeafNode}
use Rattle.sign_tree.specs.Read.{node_of, sign_of}
use Rattle.simplex.specs.Spaces.{y_of}
use Rattle.master_program.specs.Search.{leaf_of}
use Rattle.pricing_oracle.specs.Searches.{node_of_asked}
use Rattle.pricing_oracle.proofs.NodeEnds.{added_count}
use Rattle.pricing_oracle.proofs.node.add_leaf.Goals as goal

pub returns-clause-leaf : goal.returns-clause-leaf
returns-clause-leaf g c =
    let tree = c.args.tree.now in
    let ms = leaf_of (node_of_asked g.N.Exact.fraction c.args.asked (map sign_of c.args.signs.now)) (y_of c.args.space.now.contents) in
    let count : c.len.result - c.len-before.result ≡ length ms =
    omega (arith, added_count tree.multipliers.items c.add_multipliers.new.multipliers.items ms c.add_multipliers.ensures.added, c.len.ensures, c.len-before.ensures, tree.multipliers.ok, c.add_multipliers.new.multipliers.ok) in
    let nodes : map node_of c.push_within.new.items.items ≡ map node_of tree.nodes.items ++ (LeafNode (length ms) ∷ []) =
    ap (map node_of) c.push_within.ensures.items ∙ map-append node_of tree.nodes.items _ ∙ ap (λ (k : ℕ). map node_of tree.nodes.items ++ (LeafNode k ∷ [])) count in
    λ i. record { nodes = nodes i; multipliers = c.add_multipliers.ensures.added i }
