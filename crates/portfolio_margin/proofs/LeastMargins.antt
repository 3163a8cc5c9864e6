-- The run of a margin ends with the least liability, or with a ray that none covers.
use Rattle.std.proofs.Common.{◌≡◌, ℕ, ◌+◌, ◌≤◌, List, ◌∷◌, ◌++◌, map, arith, ℤ, pos, ◌*ℤ◌, ◌≤ℤ◌, ◌<ℤ◌, All, refl, ap, sym, ◌∙◌, subst}
use Rattle.std.proofs.lemmas.Int.{ints}
use Rattle.std.proofs.lemmas.List.{length-map}
use Rattle.std.proofs.lemmas.List.Elements.{All-append, All-cons, All-head, All-tail}
use Rattle.arithmetic.proofs.Integers.{*ℤ_cancel_le}
use Rattle.exact_num.specs.Fraction.{Fraction, IsDefined, IsLowest, AtMost}
use Rattle.exact_num.specs.CommonDenominator.{amount_over, common_denominator}
use Rattle.exact_num.proofs.Fractions.{amount_is_exact, at_most_from}
use Rattle.frac.specs.Range.{limit as largest}
use Rattle.frac.specs.Value.{fraction_of}
use Rattle.form.specs.Payoff.{IsState, scale_of}
use Rattle.form.specs.States.{vector_of}
use Rattle.clearing_model.specs.Certificate.{ClosesAsWritten, by_of, filled_over, fractions_of}
use Rattle.clearing_model.specs.Clearing.{net}
use Rattle.clearing_model.specs.Legs.{legs_of}
use Rattle.clearing_model.specs.Written.{PlacedMultiplier, WrittenNode, WrittenTree, nodes_of, multipliers_of, tree_over}
use Rattle.market_laws.proofs.Tree.{closed_trees_hold}
use Rattle.sign_tree.specs.Read.{placed_of}
use Rattle.master_program.specs.Master.{zero_prices}
use Rattle.master_program.specs.Search.{closed, found, search}
use Rattle.master_program.proofs.Read.{zero_prices_are}
use Rattle.search_laws.specs.Search.{IsAsked}
use Rattle.search_laws.proofs.Searching.{search_closes, search_finds, closed_lowest}
use Rattle.settlement.specs.declared.position.Position.{Position}
use Rattle.simplex_run.specs.Ending.{done}
use Rattle.simplex_run.proofs.Endings.{EndsWith, on_steps-ends}
use Rattle.portfolio_margin.specs.declared.least_margin.LeastMargin.{LeastMargin}
use Rattle.portfolio_margin.specs.declared.least_margin.LeastMargin.TheVariants.{Least, Unbounded, Wide, Budget}
use Rattle.portfolio_margin.specs.Owed.{Covers, EqualsAt, IsDenominator, IsLeast, IsUnbounded, fill_of, fills_of, owed_over}
use Rattle.portfolio_margin.specs.Run.{Margin, asked_for, least, endless, margin_run, net_at, order_of, orders_of, question_of, turns_from}
use Rattle.portfolio_margin.specs.Answers.{IsMarginOf, IsTrueOf}
use Rattle.portfolio_margin.specs.Laws.{MayBeAsked, MarginsAreLeast, EndlessAreUnbounded, EachRunEnds}
use Rattle.portfolio_margin.proofs.Owing.{Divides, fills_lowest, fills_defined, front_of, common_is, without_first, covers_over, above_over, net_is_owed}
use Rattle.portfolio_margin.proofs.Exactly.{wanted_is_lowest, wanted_equals, first_equals, first_is_lowest}
use Rattle.portfolio_margin.proofs.Runs.{Keeps, turns_say}

-- ---- a liability and the settlement that wants it
record Wants (n : ℕ) (ps : List Position) (L : Fraction) (at : List ℕ) : Type 0 where
  lowest : IsLowest L
  state : IsState n at
  settlement : 1 ≤ scale_of at
  equal : EqualsAt L ps at

asked : (limit budget n : ℕ) (ps : List Position) (L : Fraction) → MayBeAsked n ps → IsLowest L → IsAsked (question_of (asked_for limit budget n ps) L)
asked limit budget n ps L may lowest = record {
  some = may.some;
  few = may.few;
  lowest = fills_lowest ps;
  not_below_zero = may.not_below_zero;
  count = length-map ps fill_of ∙ sym (length-map ps order_of);
  liability = lowest;
}

-- ---- the tree
-- one that closes covers the positions at every state
closes_covers : (limit budget n spent units : ℕ) (ps : List Position) (L : Fraction) (tree : WrittenTree) → MayBeAsked n ps → IsLowest L
    → search (question_of (asked_for limit budget n ps) L) spent ≡ done (closed tree) units → Covers n ps L
closes_covers limit budget n spent units ps L tree may lowest ended z state =
    let q = question_of (asked_for limit budget n ps) L in
    let fills = fills_of ps in
    let may_ask = asked limit budget n ps L may lowest in
    let closes = search_closes q spent units tree may_ask ended in
    let P : List PlacedMultiplier → Type 0 = λ ms. All IsDefined (map by_of ms) in
    let parts = fractions_of closes.tree in
    let defined : All IsDefined parts = subst P closes.written.1 (closed_lowest q spent units tree may_ask ended) in
    let all = L ∷ (fills ++ parts) in
    let D = common_denominator all in
    let is = common_is all (All-cons IsDefined L (fills ++ parts) lowest.positive (All-append IsDefined fills parts (fills_defined ps) defined)) in
    let first : IsDenominator D (L ∷ fills) = record { some = is.some; divides = front_of (Divides D) (L ∷ fills) parts is.divides } in
    let filled = filled_over D (orders_of ps) fills in
    let holds = closed_trees_hold n filled (amount_over D L) (tree_over D (legs_of filled) closes.tree) closes.closes z state in
    covers_over D L ps z lowest.positive first (subst (λ (x : ℤ). x ≤ℤ (amount_over D L *ℤ pos (scale_of z))) (net_is_owed D ps z may.not_below_zero) holds)

-- no smaller one covers what they owe at the settlement
none_smaller : (n : ℕ) (ps : List Position) (L : Fraction) (at : List ℕ) → Wants n ps L at → (M : Fraction) → IsDefined M → Covers n ps M → AtMost L M
none_smaller n ps L at wants M defined covers =
    let fills = fills_of ps in
    let all = M ∷ (L ∷ fills) in
    let D = common_denominator all in
    let is = common_is all (All-cons IsDefined M (L ∷ fills) defined (All-cons IsDefined L fills wants.lowest.positive (fills_defined ps))) in
    let later = without_first D M (L ∷ fills) is in
    let of_M = All-head (Divides D) M (L ∷ fills) is.divides in
    let with_M : IsDenominator D (M ∷ fills) = record { some = is.some; divides = All-cons (Divides D) M fills of_M (All-tail (Divides D) L fills later.divides) } in
    let t = scale_of at in
    let le : (amount_over D L *ℤ pos t) ≤ℤ (amount_over D M *ℤ pos t) =
    subst (λ (x : ℤ). x ≤ℤ (amount_over D M *ℤ pos t)) (wants.equal D later) (covers at wants.state D with_M) in
    at_most_from L M (amount_over D L) (amount_over D M) D is.some (amount_is_exact D L (All-head (Divides D) L fills later.divides)) (amount_is_exact D M of_M)
    (*ℤ_cancel_le t (amount_over D L) (amount_over D M) wants.settlement le)

-- ---- a ray
nothing_at_rays : (A x : ℤ) (t : ℕ) → t ≡ 0 → (A *ℤ pos t) <ℤ x → pos 0 <ℤ x
nothing_at_rays A x t zero lt =
    let none : A *ℤ pos t ≡ A *ℤ pos 0 = ap (λ (k : ℕ). A *ℤ pos k) zero in
    let nothing : A *ℤ pos 0 ≡ pos 0 = omega (arith, ints) in
    subst (λ (y : ℤ). y <ℤ x) (none ∙ nothing) lt

not_covered : (A x : ℤ) (t : ℕ) → t ≡ 0 → x ≤ℤ (A *ℤ pos t) → pos 0 <ℤ x → ⊥
not_covered A x t zero le lt =
    let none : A *ℤ pos t ≡ A *ℤ pos 0 = ap (λ (k : ℕ). A *ℤ pos k) zero in
    let nothing : A *ℤ pos 0 ≡ pos 0 = omega (arith, ints) in
    let low : x ≤ℤ pos 0 = subst (λ (y : ℤ). x ≤ℤ y) (none ∙ nothing) le in
    omega (arith, ints, low, lt)

ray_is_unbounded : (limit budget n spent units : ℕ) (ps : List Position) (L : Fraction) (z : List ℕ) → MayBeAsked n ps → IsLowest L
    → search (question_of (asked_for limit budget n ps) L) spent ≡ done (found z) units → scale_of z ≡ 0 → IsUnbounded n ps z
ray_is_unbounded limit budget n spent units ps L z may lowest ended zero =
    let fills = fills_of ps in
    let shown = search_finds (question_of (asked_for limit budget n ps) L) spent units z (asked limit budget n ps L may lowest) ended in
    let D = common_denominator (L ∷ fills) in
    let is = common_is (L ∷ fills) (All-cons IsDefined L fills lowest.positive (fills_defined ps)) in
    let here : pos 0 <ℤ owed_over D ps z =
    subst (λ (x : ℤ). pos 0 <ℤ x) (net_is_owed D ps z may.not_below_zero) (nothing_at_rays (amount_over D L) (net (filled_over D (orders_of ps) fills) z) (scale_of z) zero shown.violated) in
    let above = above_over D ps z (without_first D L fills is) here in
    record {
      state = shown.state;
      ray = zero;
      above = above;
      none = λ M defined covers.
          let C = common_denominator (M ∷ fills) in
          let with_M = common_is (M ∷ fills) (All-cons IsDefined M fills defined (fills_defined ps)) in
          not_covered (amount_over C M) (owed_over C ps z) (scale_of z) zero (covers z shown.state C with_M) (above C (without_first C M fills with_M));
    }

-- ---- the run
abbrev Says : ℕ → List Position → Margin → Type 0
Says n ps (least L at tree) = IsLeast n ps L at × ClosesAsWritten n (orders_of ps) (fills_of ps) L (nodes_of tree) (multipliers_of tree)
Says n ps (endless ray) = IsUnbounded n ps ray

keeps : (limit budget n : ℕ) (ps : List Position) → MayBeAsked n ps → Keeps (asked_for limit budget n ps) (Wants n ps) (Says n ps)
keeps limit budget n ps may = record {
  asked = λ L at w. asked limit budget n ps L may w.lowest;
  closes = λ L at spent units tree w ended. (
    record {
      lowest = w.lowest;
      covers = closes_covers limit budget n spent units ps L tree may w.lowest ended;
      state = w.state;
      settlement = w.settlement;
      equal = w.equal;
      least = none_smaller n ps L at w;
    },
    search_closes (question_of (asked_for limit budget n ps) L) spent units tree (asked limit budget n ps L may w.lowest) ended,
  );
  shows = λ L at z spent units w ended zero. ray_is_unbounded limit budget n spent units ps L z may w.lowest ended zero;
  wants = λ L at z spent units more w ended some is.
      let shown = search_finds (question_of (asked_for limit budget n ps) L) spent units z (asked limit budget n ps L may w.lowest) ended in
      record {
        lowest = wanted_is_lowest (asked_for limit budget n ps) z more (fills_lowest ps) some is;
        state = shown.state;
        settlement = some;
        equal = wanted_equals limit budget n ps z more some is;
      };
}

run_says : (limit budget n : ℕ) (ps : List Position) → MayBeAsked n ps → EndsWith (λ (margin : Margin) (units : ℕ). Says n ps margin) (margin_run (asked_for limit budget n ps))
unfolding margin_run
run_says limit budget n ps may =
    let a = asked_for limit budget n ps in
    let first = zero_prices n in
    on_steps-ends (λ (margin : Margin) (units : ℕ). Says n ps margin) 0 (net_at a first) (λ L. turns_from a (budget + 1) L first 0)
    (λ L is. turns_say a (Wants n ps) (Says n ps) (keeps limit budget n ps may) (budget + 1) L first 0
    (record {
      lowest = first_is_lowest limit ps first L is;
      state = zero_prices_are n;
      settlement = omega arith;
      equal = first_equals limit ps first L refl is;
    })
    (omega arith) (omega arith))

pub margins_are_least : MarginsAreLeast
margins_are_least limit budget n units ps L at tree may ended = subst (EndsWith (λ (margin : Margin) (units : ℕ). Says n ps margin)) ended (run_says limit budget n ps may)

pub endless_are_unbounded : EndlessAreUnbounded
endless_are_unbounded limit budget n units ps ray may ended = subst (EndsWith (λ (margin : Margin) (units : ℕ). Says n ps margin)) ended (run_says limit budget n ps may)

pub each_run_ends : EachRunEnds
each_run_ends limit budget n units ps d may ended = subst (EndsWith (λ (margin : Margin) (units : ℕ). Says n ps margin)) ended (run_says limit budget n ps may)

-- ---- the answer of the code
pub true_of : (budget n : ℕ) (ps : List Position) (margin : LeastMargin) → MayBeAsked n ps → IsMarginOf (margin_run (asked_for largest budget n ps)) margin → IsTrueOf n ps margin
true_of budget n ps (Least L at tree) may (written, units, (nodes, multipliers), ended) =
    let says = margins_are_least largest budget n units ps (fraction_of L) (vector_of at) written may ended in (
      says.0,
      subst (λ (ns : List WrittenNode). ClosesAsWritten n (orders_of ps) (fills_of ps) (fraction_of L) ns (map placed_of tree.multipliers)) (sym nodes)
          (subst (λ (ms : List PlacedMultiplier). ClosesAsWritten n (orders_of ps) (fills_of ps) (fraction_of L) (nodes_of written) ms) (sym multipliers) says.1),
    )
true_of budget n ps (Unbounded ray) may (units, ended) = endless_are_unbounded largest budget n units ps (vector_of ray) may ended
true_of budget n ps (Wide unit wide) may ended = tt
true_of budget n ps Budget may ended = tt
