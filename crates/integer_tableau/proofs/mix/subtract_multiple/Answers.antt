use Rattle.std.proofs.Common.{◌<◌, ◌≤◌, ◌+◌, ◌*◌, ◌∙◌, ap, sym, subst, arith, ℤ, List, ℕ, length, length-set, map, slice_index_or, unsigned_abs, pos}
use Rattle.std.proofs.lemmas.List.{length-map, get_or-set_other}
use Rattle.exact_num.specs.Fraction.{whole}
use Rattle.fraction_tableau.proofs.Nonzero.{place_below}
use Rattle.run_equivalence.specs.IntegerRows.{number_at}
use Rattle.integer_tableau.proofs.Sparse.{less_at, less_is, less_more, less_end, rising}
use Rattle.integer_tableau.proofs.mix.subtract_multiple.Goals as goal

pub subtract_at-requires-clause-inside : goal.subtract_at-requires-clause-inside
subtract_at-requires-clause-inside g c =
    let qs = map g.P.Word.value c.args.pivot.now in
    let t = c.loop-place.place-index in
    let places = c.args.places.now in
    let many = length-map c.args.pivot.now g.P.Word.value in
    let inside : slice_index_or places t 0 < length c.args.pivot.now = place_below whole qs places (length c.args.pivot.now) c.requires.places many t c.loop-place-test.true in
    let same = c.loop-place.invariant.width in
    (omega (arith, inside, c.requires.width, same), inside)

pub subtract_at-requires-clause-room : goal.subtract_at-requires-clause-room
subtract_at-requires-clause-room g c =
    let value = g.W.Word.value in
    let t = c.loop-place.place-index in
    let j = slice_index_or c.args.places.now t 0 in
    let room = c.requires.room j in
    subst (λ (y : ℤ). unsigned_abs y + unsigned_abs (value c.args.f) * unsigned_abs (number_at (map g.P.Word.value c.args.pivot.now) j) ≤ g.W.Word.held)
    (sym (c.loop-place.invariant.left t (omega arith) c.loop-place-test.true)) (omega (arith, room))

pub loop-place-preserved : goal.loop-place-preserved
loop-place-preserved g c =
    let value = g.W.Word.value in
    let qs = map g.P.Word.value c.args.pivot.now in
    let t = c.loop-place.place-index in
    let places = c.args.places.now in
    let j = slice_index_or places t 0 in
    let inv = c.loop-place.invariant in
    let zs = map value c.loop-place.numbers in
    let new = map value c.subtract_at.new.numbers in
    let told = c.subtract_at.ensures in
    record {
      width = sym (length-map c.subtract_at.new.numbers value) ∙ ap length told ∙ length-set zs j _ ∙ length-map c.loop-place.numbers value ∙ inv.width;
      rest = less_more _ qs zs new _ places t c.loop-place-test.true told inv.rest;
      left = λ k p low.
          (let rises : j < slice_index_or places k 0 = rw c.requires.places (rising qs t k (omega (arith, p)) (rw c.requires.places at low)) in
          ap (λ (ws : List ℤ). number_at ws (slice_index_or places k 0)) told ∙ get_or-set_other zs j (slice_index_or places k 0) _ (pos 0) (λ e. omega (arith, rises, e)) ∙ inv.left k (omega (arith, p)) low);
    }

pub returns : goal.returns
returns g c =
    let value = g.W.Word.value in
    let f = value c.args.f in
    let qs = map g.P.Word.value c.args.pivot.now in
    let old = map value c.args.numbers.now in
    less_end f qs (map value c.loop-place.numbers) _ c.args.places.now c.loop-place.place-index (omega (arith, c.loop-place-test.false)) c.loop-place.invariant.rest
    ∙ ap (λ (js : List ℕ). less_at f qs js old) c.requires.places ∙ less_is f old qs (length-map c.args.numbers.now value ∙ c.requires.width ∙ sym (length-map c.args.pivot.now g.P.Word.value))
