use Rattle.std.proofs.Common.{rules, ◌≡◌, ◌+◌, [], ◌∷◌, ◌++◌, Some, None, sym, ap, ◌∙◌, subst}
use Rattle.serde_json.specs.View.{view}
use Rattle.reply_text.proofs.Collect.{Collects, taken_one, refused_one, taken_all}
use Rattle.reply_text.proofs.taking.items_from.Goals as goal

pub returns-in_default : goal.returns-in_default
returns-in_default g c =
    let found = g.R.ItemReader.found c.args.reader.now in
    let item = c.item-item.result in
    let none : found (view item) ≡ None = search rules in
    sym (refused_one found c.args.items.now c.loop-item.item-index c.loop-item.taken.items item c.loop-item-test.true (ap (λ v. found (view v)) (sym c.item-item.is) ∙ none) c.loop-item.invariant)

pub loop-item-preserved : goal.loop-item-preserved
loop-item-preserved g c =
    let found = g.R.ItemReader.found c.args.reader.now in
    let item = c.item-item.result in
    let one = c.in-Some.one in
    let some : found (view item) ≡ Some one = search rules in
    subst (Collects found c.args.items.now (c.loop-item.item-index + 1)) {x = c.loop-item.taken.items ++ one ∷ []} (sym c.in_ok-push.ensures.items)
    (taken_one found c.args.items.now c.loop-item.item-index c.loop-item.taken.items item one c.loop-item-test.true (ap (λ v. found (view v)) (sym c.item-item.is) ∙ some) c.loop-item.invariant)

pub returns : goal.returns
returns g c =
    let found = g.R.ItemReader.found c.args.reader.now in
    sym (taken_all found c.args.items.now c.loop-item.item-index c.loop-item.taken.items c.loop-item-test.false c.loop-item.invariant)
