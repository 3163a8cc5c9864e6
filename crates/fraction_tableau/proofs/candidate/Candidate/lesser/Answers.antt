use Rattle.std.proofs.Common.{◌≡◌, true, false, arith, refl, sym, ◌∙◌}
use Rattle.std.specs.Prelude.{nat_lt}
use Rattle.std.proofs.lemmas.Bool.Decides.{nat_tests}
use Rattle.fraction_tableau.proofs.candidate.Candidate.lesser.Goals as goal

pub returns-in-Less : goal.returns-in-Less
returns-in-Less g c =
    let order = sym (g.met.N.Exact.by_value c.args.self.ratio c.args.other.ratio) ∙ sym c.cmp.ensures ∙ c.in-Less.is in
    rw order refl

pub returns-then-self-other : goal.returns-then-self-other
returns-then-self-other g c =
    let order = sym (g.met.N.Exact.by_value c.args.self.ratio c.args.other.ratio) ∙ sym c.cmp.ensures ∙ c.in-Equal.is in
    let test : nat_lt c.args.self.basic c.args.other.basic ≡ true = grind (arith, nat_tests) in
    rw (order, test) refl

pub returns-else-self-other : goal.returns-else-self-other
returns-else-self-other g c =
    let order = sym (g.met.N.Exact.by_value c.args.self.ratio c.args.other.ratio) ∙ sym c.cmp.ensures ∙ c.in-Equal.is in
    let test : nat_lt c.args.self.basic c.args.other.basic ≡ false = grind (arith, nat_tests) in
    rw (order, test) refl

pub returns-in-Greater : goal.returns-in-Greater
returns-in-Greater g c =
    let order = sym (g.met.N.Exact.by_value c.args.self.ratio c.args.other.ratio) ∙ sym c.cmp.ensures ∙ c.in-Greater.is in
    rw order refl
