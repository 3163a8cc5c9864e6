use Rattle.std.proofs.Common.{◌≡◌, ◌<◌, true, false, length, get_or, arith, sym, ap, ◌∙◌}
use Rattle.std.proofs.lemmas.List.Elements.{at_read}
use Rattle.line_cover.proofs.PlaceSteps.{below, place_is, place_within, inserted, stays}
use Rattle.line_cover.proofs.states.insert.Goals.{then-place-len-via-then-place-len, then-place-len-via-else-place-len+then-is_below}
use Rattle.line_cover.proofs.states.insert.Goals as goal

pub index-requires : goal.index-requires
index-requires c =
    let ys = c.args.prices.now.items in
    let is = place_is ys c.args.price c.deref.ensures.value c.first_not_below.ensures c.deref.ensures.len c.len.ensures c.unwrap_or-place.ensures in
    let len = ap length c.deref.ensures.value in
    omega (arith, place_within ys c.args.price c.unwrap_or-place.result is)

pub insert-requires : goal.insert-requires
insert-requires c =
    let ys = c.args.prices.now.items in
    let is = place_is ys c.args.price c.deref.ensures.value c.first_not_below.ensures c.deref.ensures.len c.len.ensures c.unwrap_or-place.ensures in
    let len = ap length c.deref.ensures.value in
    omega (arith, place_within ys c.args.price c.unwrap_or-place.result is)

pub returns-in_ok-insert : goal.returns-in_ok-insert
returns-in_ok-insert c =
    let ys = c.args.prices.now.items in
    let z = c.args.price in
    let i = c.unwrap_or-place.result in
    let is = place_is ys z c.deref.ensures.value c.first_not_below.ensures c.deref.ensures.len c.len.ensures c.unwrap_or-place.ensures in
    let len = ap length c.deref.ensures.value in
    let before : i < length ys → below z (get_or ys i z) ≡ true = λ lt.
    elim c.then-place-len.branch [
      | then-place-len-via-then-place-len w ↦ absurd (omega arith)
      | then-place-len-via-else-place-len+then-is_below w ↦
          at_read ys (λ y. below z y ≡ true) i w.index.result.now lt w.index.ensures (sym w.is_below.ensures ∙ w.if-is_below.true) z
    ] in
    rw c.in_ok-insert.ensures.items (inserted ys z i is before)

pub returns-else-is_below : goal.returns-else-is_below
returns-else-is_below c =
    let ys = c.args.prices.now.items in
    let z = c.args.price in
    let i = c.unwrap_or-place.result in
    let is = place_is ys z c.deref.ensures.value c.first_not_below.ensures c.deref.ensures.len c.len.ensures c.unwrap_or-place.ensures in
    let len = ap length c.deref.ensures.value in
    let lt : i < length ys = omega (arith, place_within ys z i is) in
    stays ys z i is lt (at_read ys (λ y. below z y ≡ false) i c.index.result.now lt c.index.ensures (sym c.is_below.ensures ∙ c.if-is_below.false) z)
