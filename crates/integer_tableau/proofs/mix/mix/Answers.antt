use Rattle.std.proofs.Common.{◌∙◌, ℤ, List, ap, arith, length, map, sym, subst, unsigned_abs}
use Rattle.std.proofs.lemmas.List.{length-map}
use Rattle.run_equivalence.specs.WholePivoting.{cross_difference}
use Rattle.integer_tableau.specs.Within.{HasRoom}
use Rattle.integer_tableau.proofs.Numbers.{mixed_after}
use Rattle.integer_tableau.proofs.Words.{scaled_room}
use Rattle.integer_tableau.proofs.mix.mix.Goals as goal

pub multiply-requires : goal.multiply-requires
multiply-requires g c j = let room = c.requires.room j in omega (arith, room)

pub subtract_multiple-requires-clause-width : goal.subtract_multiple-requires-clause-width
subtract_multiple-requires-clause-width g c =
    let value = g.W.Word.value in
    sym (length-map c.multiply.new.numbers value) ∙ ap length c.multiply.ensures ∙ length-map _ _ ∙ length-map c.args.numbers.now value ∙ c.requires.width

pub subtract_multiple-requires-clause-room : goal.subtract_multiple-requires-clause-room
subtract_multiple-requires-clause-room g c =
    let value = g.W.Word.value in
    let f = unsigned_abs (value c.args.factors.f) in
    let pivot = map g.P.Word.value c.args.pivot.numbers.now in
    subst (λ (zs : List ℤ). HasRoom g.W.Word.held 1 f zs pivot) (sym c.multiply.ensures) (scaled_room g.W.Word.held f (value c.args.factors.p) (map value c.args.numbers.now) pivot c.requires.room)

pub returns : goal.returns
returns g c =
    let value = g.W.Word.value in
    let p = value c.args.factors.p in
    let f = value c.args.factors.f in
    let pivot = map g.P.Word.value c.args.pivot.numbers.now in
    c.subtract_multiple.ensures ∙ ap (λ (zs : List ℤ). cross_difference 1 f zs pivot) c.multiply.ensures ∙ mixed_after p f (map value c.args.numbers.now) pivot c.requires.positive
