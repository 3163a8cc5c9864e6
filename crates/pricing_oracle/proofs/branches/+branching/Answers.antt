use Rattle.std.proofs.Common.{◌≡◌, ◌<◌, ◌+◌, ◌*◌, ◌∙◌, Ok, Err, Some, None, arith, ap, refl, sym, subst, length, map, set, pos, negsuc, unsigned_abs}
use Rattle.std.proofs.lemmas.Result.{err_from_is_err_and}
use Rattle.std.proofs.lemmas.List.{length-map, length-set}
use Rattle.sign_tree.specs.Read.{placed_of, sign_of}
use Rattle.sign_tree.proofs.Sides.{minus_signs, signs_again}
use Rattle.master_program.specs.Search.{node_end}
use Rattle.pricing_oracle.specs.Searches.{HasShown, asked_within, parts_of, unsigned_in}
use Rattle.pricing_oracle.proofs.Answered.{is_asked}
use Rattle.pricing_oracle.proofs.BothSides.{both_close, leaf_closes, minus_ends, node_stops, plus_ends, says_as, signed_less, split_on, splits_unsigned, state_found}
use Rattle.pricing_oracle.specs.Rooms.{HasRoom}
use Rattle.pricing_oracle.proofs.TreeSizes.{room_after, room_at_split, room_for, split_added}
use Rattle.pricing_oracle.proofs.branches.+branching.Goals as goal

pub branch-returns-in_err-open_node-clause-search : goal.branch-returns-in_err-open_node-clause-search
branch-returns-in_err-open_node-clause-search g t c depth few =
    let p = err_from_is_err_and c.from_residual.result c.from_residual.ensures.1 in
    let q = asked_within g.N.Exact.fraction (unsigned_abs g.N.Exact.LIMIT) c.args.budget.now.limit c.args.asked in
    rw (p.1, p.2) (node_stops q depth (map sign_of c.args.signs.now) c.args.budget.now.spent c.open_node.new.budget.spent (parts_of c.args.room.now.tree) (parts_of c.open_node.new.room.tree) c.in_err-open_node.field-0.0 c.in_err-open_node.ensures.shown)

pub branch-sides-requires : goal.branch-sides-requires
branch-sides-requires g t c κs within =
    let value = g.N.Exact.fraction in
    let limit = unsigned_abs g.N.Exact.LIMIT in
    let q = asked_within value limit c.args.budget.now.limit c.args.asked in
    let ss = c.args.signs.now in
    let old = parts_of c.args.room.now.tree in
    let start = parts_of c.open_node.new.room.tree in
    let asked = is_asked value limit c.args.budget.now.limit c.args.asked g.met.N.Exact.lowest c.requires.asked c.requires.not_below_zero in
    let shown = subst (λ r. HasShown old start (node_end q (map sign_of ss) c.args.budget.now.spent) r c.open_node.new.budget.spent) (c.in_ok-open_node.was ∙ ap Ok c.in-Splits.is) c.open_node.ensures.shown in
    let there = splits_unsigned q ss c.args.budget.now.spent c.open_node.new.budget.spent c.in-Splits.place asked (length-map ss sign_of ∙ c.requires.count) shown.1 in
    let less : 2 * unsigned_in (map sign_of ss) < t = omega (arith, c.decreases) in
    let room = room_at_split q (map sign_of ss) c.args.budget.now.spent c.open_node.new.budget.spent c.args.budget.now.limit c.in-Splits.place c.args.room.now.tree c.open_node.new.room.tree asked c.requires.tree c.open_node.ensures.room.tree shown in
    let tree = subst (HasRoom c.open_node.new.room.tree c.open_node.new.budget.spent) (sym c.open_node.ensures.limit) room.0 in
    (less, (within, (c.requires.asked, (c.requires.not_below_zero, (c.requires.few, (c.requires.count, (room_for _ _ _ _ _ refl c.requires.room c.open_node.ensures.room.space c.open_node.ensures.room.row, (tree, (room.1, (there.0, there.1))))))))))

pub branch-returns-in-Leaf-clause-search : goal.branch-returns-in-Leaf-clause-search
branch-returns-in-Leaf-clause-search g t c depth few =
    let q = asked_within g.N.Exact.fraction (unsigned_abs g.N.Exact.LIMIT) c.args.budget.now.limit c.args.asked in
    let signs = map sign_of c.args.signs.now in
    let old = parts_of c.args.room.now.tree in
    let new = parts_of c.open_node.new.room.tree in
    leaf_closes q depth signs c.args.budget.now.spent c.open_node.new.budget.spent old new
    (subst (λ r. HasShown old new (node_end q signs c.args.budget.now.spent) r c.open_node.new.budget.spent) (c.in_ok-open_node.was ∙ ap Ok c.in-Leaf.is) c.open_node.ensures.shown)

pub branch-returns-in-Violated-clause-search : goal.branch-returns-in-Violated-clause-search
branch-returns-in-Violated-clause-search g t c depth few =
    let q = asked_within g.N.Exact.fraction (unsigned_abs g.N.Exact.LIMIT) c.args.budget.now.limit c.args.asked in
    let signs = map sign_of c.args.signs.now in
    let old = parts_of c.args.room.now.tree in
    let new = parts_of c.open_node.new.room.tree in
    state_found q depth signs c.args.budget.now.spent c.open_node.new.budget.spent old new c.in-Violated.state
    (subst (λ r. HasShown old new (node_end q signs c.args.budget.now.spent) r c.open_node.new.budget.spent) (c.in_ok-open_node.was ∙ ap Ok c.in-Violated.is) c.open_node.ensures.shown)

pub branch-returns-in-Splits-clause-search : goal.branch-returns-in-Splits-clause-search
branch-returns-in-Splits-clause-search g t c depth few =
    let value = g.N.Exact.fraction in
    let limit = unsigned_abs g.N.Exact.LIMIT in
    let q = asked_within value limit c.args.budget.now.limit c.args.asked in
    let signs = map sign_of c.args.signs.now in
    let old = parts_of c.args.room.now.tree in
    let start = parts_of c.open_node.new.room.tree in
    split_on q (asked_within value limit c.open_node.new.budget.limit c.args.asked) depth signs c.args.budget.now.spent c.open_node.new.budget.spent c.sides.new.budget.spent old start (parts_of c.sides.new.room.tree) c.in-Splits.place c.sides.result
    (subst (λ r. HasShown old start (node_end q signs c.args.budget.now.spent) r c.open_node.new.budget.spent) (c.in_ok-open_node.was ∙ ap Ok c.in-Splits.is) c.open_node.ensures.shown)
    (ap (λ b. asked_within value limit b c.args.asked) c.open_node.ensures.limit) (c.sides.ensures.search depth few)

pub sides-branch-room-requires : goal.sides-branch-room-requires
sides-branch-room-requires g t c κs within =
    let ss = c.args.signs.now in
    let place = c.args.place in
    let long : length (set ss place (pos 1)) ≡ length ss = length-set ss place (pos 1) in
    let less : 2 * unsigned_in (map sign_of (set ss place (pos 1))) + 1 < t = omega (arith, c.decreases, signed_less ss place (pos 1) refl c.requires.inside c.requires.unsigned) in
    let tree = split_added c.args.room.now.tree c.add_split.new.tree c.args.budget.now.spent c.args.budget.now.limit c.requires.tree c.requires.node c.add_split.ensures.one c.add_split.ensures.multipliers c.add_split.ensures.room in
    (less, (within, (c.requires.asked, (c.requires.not_below_zero, (omega (arith, long, c.requires.few), (long ∙ c.requires.count, (room_for _ _ _ _ _ long c.requires.room (refl, refl) (omega arith), tree)))))))

pub sides-returns-in_err-plus-clause-search : goal.sides-returns-in_err-plus-clause-search
sides-returns-in_err-plus-clause-search g t c depth few =
    let p = err_from_is_err_and c.from_residual.result c.from_residual.ensures.1 in
    let value = g.N.Exact.fraction in
    let limit = unsigned_abs g.N.Exact.LIMIT in
    let q = asked_within value limit c.args.budget.now.limit c.args.asked in
    let ss = c.args.signs.now in
    let place = c.args.place in
    let before = c.args.budget.now.spent in
    let old = parts_of c.args.room.now.tree in
    let start = parts_of c.add_split.new.tree in
    let mid = parts_of c.branch-room.new.room.tree in
    let between = c.branch-room.new.budget.spent in
    let stop = Err c.in_err-plus.field-0.0 in
    rw (p.1, p.2) (plus_ends q depth ss place before between old start mid mid stop tt c.requires.inside c.requires.unsigned few (says_as q (set ss place (pos 1)) before start mid c.branch-room.result stop between c.in_err-plus.was c.branch-room.ensures.search))

pub sides-returns-in-Some-clause-search : goal.sides-returns-in-Some-clause-search
sides-returns-in-Some-clause-search g t c depth few =
    let value = g.N.Exact.fraction in
    let limit = unsigned_abs g.N.Exact.LIMIT in
    let q = asked_within value limit c.args.budget.now.limit c.args.asked in
    let ss = c.args.signs.now in
    let place = c.args.place in
    let before = c.args.budget.now.spent in
    let old = parts_of c.args.room.now.tree in
    let start = parts_of c.add_split.new.tree in
    let mid = parts_of c.branch-room.new.room.tree in
    let between = c.branch-room.new.budget.spent in
    plus_ends q depth ss place before between old start mid mid (Ok (Some c.in-Some.plus)) tt c.requires.inside c.requires.unsigned few
    (says_as q (set ss place (pos 1)) before start mid c.branch-room.result (Ok (Some c.in-Some.plus)) between (c.in_ok-plus.was ∙ ap Ok c.in-Some.is) c.branch-room.ensures.search)

pub sides-branch-room-requires-2 : goal.sides-branch-room-requires-2
sides-branch-room-requires-2 g t c κs within =
    let ss = c.args.signs.now in
    let place = c.args.place in
    let now = c.branch-room.new.signs in
    let is : now ≡ set ss place (pos 1) = c.branch-room.ensures.signs (c.in_ok-plus.was ∙ ap Ok c.in_default.is) in
    let long : length (set now place (negsuc 0)) ≡ length ss = length-set now place (negsuc 0) ∙ ap length is ∙ length-set ss place (pos 1) in
    let minus = ap (λ ss. unsigned_in (map sign_of ss)) (minus_signs ss now place is) in
    let less : 2 * unsigned_in (map sign_of (set now place (negsuc 0))) + 1 < t = omega (arith, c.decreases, minus, signed_less ss place (negsuc 0) refl c.requires.inside c.requires.unsigned) in
    let value = g.N.Exact.fraction in
    let limit = unsigned_abs g.N.Exact.LIMIT in
    let budget = c.args.budget.now in
    let q = asked_within value limit budget.limit c.args.asked in
    let asked = is_asked value limit budget.limit c.args.asked g.met.N.Exact.lowest c.requires.asked c.requires.not_below_zero in
    let start = split_added c.args.room.now.tree c.add_split.new.tree budget.spent budget.limit c.requires.tree c.requires.node c.add_split.ensures.one c.add_split.ensures.multipliers c.add_split.ensures.room in
    let signed = map sign_of (set ss place (pos 1)) in
    let plus = says_as q (set ss place (pos 1)) budget.spent (parts_of c.add_split.new.tree) (parts_of c.branch-room.new.room.tree) c.branch-room.result (Ok None) c.branch-room.new.budget.spent (c.in_ok-plus.was ∙ ap Ok c.in_default.is) c.branch-room.ensures.search in
    let room = room_after q (unsigned_in signed) signed budget.spent c.branch-room.new.budget.spent budget.limit c.add_split.new.tree c.branch-room.new.room.tree asked start c.branch-room.ensures.room.tree (plus (unsigned_in signed) (omega arith)) in
    let tree = subst (HasRoom c.branch-room.new.room.tree c.branch-room.new.budget.spent) (sym c.branch-room.ensures.limit) room in
    (less, (within, (c.requires.asked, (c.requires.not_below_zero, (omega (arith, long, c.requires.few), (long ∙ c.requires.count, (room_for _ _ _ _ _ long c.requires.room c.branch-room.ensures.room.space c.branch-room.ensures.room.row, tree)))))))

pub sides-returns-in_err-minus-clause-search : goal.sides-returns-in_err-minus-clause-search
sides-returns-in_err-minus-clause-search g t c depth few =
    let p = err_from_is_err_and c.from_residual-in_err-minus.result c.from_residual-in_err-minus.ensures.1 in
    let value = g.N.Exact.fraction in
    let limit = unsigned_abs g.N.Exact.LIMIT in
    let q = asked_within value limit c.args.budget.now.limit c.args.asked in
    let ss = c.args.signs.now in
    let place = c.args.place in
    let before = c.args.budget.now.spent in
    let old = parts_of c.args.room.now.tree in
    let start = parts_of c.add_split.new.tree in
    let mid = parts_of c.branch-room.new.room.tree in
    let between = c.branch-room.new.budget.spent in
    let none = c.in_ok-plus.was ∙ ap Ok c.in_default.is in
    let plus = says_as q (set ss place (pos 1)) before start mid c.branch-room.result (Ok None) between none c.branch-room.ensures.search in
    let now = c.branch-room.new.signs in
    let is : now ≡ set ss place (pos 1) = c.branch-room.ensures.signs none in
    let later = asked_within value limit c.branch-room.new.budget.limit c.args.asked in
    let same : later ≡ q = ap (λ b. asked_within value limit b c.args.asked) c.branch-room.ensures.limit in
    let new = parts_of c.branch-room-2.new.room.tree in
    let spent = c.branch-room-2.new.budget.spent in
    let stop = Err c.in_err-minus.field-0.0 in
    rw (p.1, p.2) (minus_ends q later depth ss now place before between spent old start mid new new stop tt c.requires.inside c.requires.unsigned few plus same is
    (says_as later (set now place (negsuc 0)) between mid new c.branch-room-2.result stop spent c.in_err-minus.was c.branch-room-2.ensures.search))

pub sides-returns-in-Some-2-clause-search : goal.sides-returns-in-Some-2-clause-search
sides-returns-in-Some-2-clause-search g t c depth few =
    let value = g.N.Exact.fraction in
    let limit = unsigned_abs g.N.Exact.LIMIT in
    let q = asked_within value limit c.args.budget.now.limit c.args.asked in
    let ss = c.args.signs.now in
    let place = c.args.place in
    let before = c.args.budget.now.spent in
    let old = parts_of c.args.room.now.tree in
    let start = parts_of c.add_split.new.tree in
    let mid = parts_of c.branch-room.new.room.tree in
    let between = c.branch-room.new.budget.spent in
    let none = c.in_ok-plus.was ∙ ap Ok c.in_default.is in
    let plus = says_as q (set ss place (pos 1)) before start mid c.branch-room.result (Ok None) between none c.branch-room.ensures.search in
    let now = c.branch-room.new.signs in
    let is : now ≡ set ss place (pos 1) = c.branch-room.ensures.signs none in
    let later = asked_within value limit c.branch-room.new.budget.limit c.args.asked in
    let same : later ≡ q = ap (λ b. asked_within value limit b c.args.asked) c.branch-room.ensures.limit in
    let new = parts_of c.branch-room-2.new.room.tree in
    let spent = c.branch-room-2.new.budget.spent in
    minus_ends q later depth ss now place before between spent old start mid new new (Ok (Some c.in-Some-2.minus)) tt c.requires.inside c.requires.unsigned few plus same is
    (says_as later (set now place (negsuc 0)) between mid new c.branch-room-2.result (Ok (Some c.in-Some-2.minus)) spent (c.in_ok-minus.was ∙ ap Ok c.in-Some-2.is) c.branch-room-2.ensures.search)

pub sides-returns-clause-search : goal.sides-returns-clause-search
sides-returns-clause-search g t c depth few =
    let value = g.N.Exact.fraction in
    let limit = unsigned_abs g.N.Exact.LIMIT in
    let q = asked_within value limit c.args.budget.now.limit c.args.asked in
    let ss = c.args.signs.now in
    let place = c.args.place in
    let before = c.args.budget.now.spent in
    let old = parts_of c.args.room.now.tree in
    let start = parts_of c.add_split.new.tree in
    let mid = parts_of c.branch-room.new.room.tree in
    let between = c.branch-room.new.budget.spent in
    let none = c.in_ok-plus.was ∙ ap Ok c.in_default.is in
    let plus = says_as q (set ss place (pos 1)) before start mid c.branch-room.result (Ok None) between none c.branch-room.ensures.search in
    let now = c.branch-room.new.signs in
    let is : now ≡ set ss place (pos 1) = c.branch-room.ensures.signs none in
    let later = asked_within value limit c.branch-room.new.budget.limit c.args.asked in
    let same : later ≡ q = ap (λ b. asked_within value limit b c.args.asked) c.branch-room.ensures.limit in
    let new = parts_of c.branch-room-2.new.room.tree in
    let spent = c.branch-room-2.new.budget.spent in
    both_close q later depth ss now place before between spent old start mid new c.requires.inside c.requires.unsigned few c.add_split.ensures.nodes (ap (λ (ms : _). map placed_of ms.items) c.add_split.ensures.multipliers) plus same is
    (says_as later (set now place (negsuc 0)) between mid new c.branch-room-2.result (Ok None) spent (c.in_ok-minus.was ∙ ap Ok c.in_default-2.is) c.branch-room-2.ensures.search)

pub sides-returns-clause-signs : goal.sides-returns-clause-signs
sides-returns-clause-signs g t c closed =
    let ss = c.args.signs.now in
    let place = c.args.place in
    let now = c.branch-room.new.signs in
    let is : now ≡ set ss place (pos 1) = c.branch-room.ensures.signs (c.in_ok-plus.was ∙ ap Ok c.in_default.is) in
    signs_again ss c.branch-room-2.new.signs place c.requires.unsigned (c.branch-room-2.ensures.signs (c.in_ok-minus.was ∙ ap Ok c.in_default-2.is) ∙ minus_signs ss now place is)
