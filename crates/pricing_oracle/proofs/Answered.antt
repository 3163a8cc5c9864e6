-- From the branches of a search to its answer.
use Rattle.std.proofs.Common.{◌≡◌, ℕ, List, [], ◌∷◌, length, map, ap, sym, subst, ◌∙◌, All, Some, None}
use Rattle.std.specs.Prelude.{IfOk, Option, Result, Ok, Err}
use Rattle.std.proofs.lemmas.List.{length-map}
use Rattle.std.proofs.lemmas.List.Elements.{All-nil, All-cons}
use Rattle.exact_num.specs.Fraction.{Fraction, IsLowest, IsNotBelowZero}
use Rattle.form.specs.States.{vector_of}
use Rattle.clearing_model.specs.Certificate.{ClosesAsWritten}
use Rattle.clearing_model.specs.Written.{WrittenNode, PlacedMultiplier, nodes_of}
use Rattle.sign_tree.specs.declared.trees.SignTree.{SignTree}
use Rattle.sign_tree.specs.Read.{placed_of}
use Rattle.master_program.specs.Search.{Question, search}
use Rattle.search_laws.specs.Search.{IsAsked}
use Rattle.search_laws.proofs.Searching.{search_closes, search_finds}
use Rattle.pricing_oracle.specs.declared.found.Found.{Found as Answer}
use Rattle.pricing_oracle.specs.declared.found.Found.TheVariants.{Closed, Violated}
use Rattle.pricing_oracle.specs.declared.legs.SearchQuestion.{SearchQuestion}
use Rattle.form.specs.declared.states.State.{State}
use Rattle.simplex.specs.declared.stop.RunStop.{RunStop}
use Rattle.simplex.specs.declared.stop.RunStop.TheVariants.{Wide, Budget}
use Rattle.pricing_oracle.specs.Answers.{EndsWith, IsSearchAnswer, IsTrueOf, found_in, question}
use Rattle.form.specs.declared.orders.Batch.{Batch}
use Rattle.form.specs.Limits.{HasItsForms}
use Rattle.pricing_oracle.specs.Nodes.{MayBeAsked}
use Rattle.pricing_oracle.specs.Searches.{WrittenParts, HasSearched, asked_within, no_parts, parts_in}

each_lowest : {A : Type 0} (value : A → Fraction) (xs : List A) → ((a : A) → IsLowest (value a)) → All IsLowest (map value xs)
each_lowest value [] lowest = All-nil IsLowest
each_lowest value (x ∷ xs) lowest = All-cons IsLowest (value x) (map value xs) (lowest x) (each_lowest value xs lowest)

-- what may be asked is a question of the laws
pub is_asked : {A : Type 0} (value : A → Fraction) (limit budget : ℕ) (asked : SearchQuestion A) → ((a : A) → IsLowest (value a)) → MayBeAsked asked → All IsNotBelowZero (map value asked.fills.now) → IsAsked (asked_within value limit budget asked)
is_asked value limit budget asked lowest may low =
    record {
      some = may.some;
      few = may.few;
      lowest = each_lowest value asked.fills.now lowest;
      not_below_zero = low;
      count = length-map asked.fills.now value ∙ may.fills;
      liability = lowest asked.liability.now;
    }

-- what a search ends with is true
is_true : (q : Question) (spent units : ℕ) (answer : Answer) → IsAsked q → EndsWith (search q spent) answer units → IsTrueOf q answer
is_true q spent units (Closed tree) asked (written, (nodes, multipliers), ends) =
    subst (λ (ns : List WrittenNode). ClosesAsWritten q.underlyings q.orders q.fills q.liability ns (map placed_of tree.multipliers)) (sym nodes)
    (subst (λ (ms : List PlacedMultiplier). ClosesAsWritten q.underlyings q.orders q.fills q.liability (nodes_of written) ms) (sym multipliers) (search_closes q spent units written asked ends))
is_true q spent units (Violated z) asked ends = search_finds q spent units (vector_of z) asked ends

-- ---- the answer
pub answers : (q q' : Question) (before spent : ℕ) (tree : SignTree) (result : Result (Option State) RunStop) → q' ≡ q → HasSearched no_parts (parts_in tree) (search q' before) result spent
    → IsSearchAnswer (search q before) (found_in tree result) spent
answers q q' before spent tree (Ok None) same (written, parts, ends) =
    (written, (ap (λ (p : WrittenParts). p.nodes) parts, ap (λ (p : WrittenParts). p.multipliers) parts), ap (λ q. search q before) (sym same) ∙ ends)
answers q q' before spent tree (Ok (Some z)) same h = ap (λ q. search q before) (sym same) ∙ h
answers q q' before spent tree (Err (Wide unit wide)) same (h, units) = (ap (λ q. search q before) (sym same) ∙ h, units)
answers q q' before spent tree (Err Budget) same h = ap (λ q. search q before) (sym same) ∙ h

pub answer_is_true : (q : Question) (before spent : ℕ) (tree : SignTree) (result : Result (Option State) RunStop) → IsAsked q → IsSearchAnswer (search q before) (found_in tree result) spent
    → IfOk (found_in tree result) (IsTrueOf q)
answer_is_true q before spent tree (Ok None) asked h = is_true q before spent (Closed tree) asked h
answer_is_true q before spent tree (Ok (Some z)) asked h = is_true q before spent (Violated z) asked h
answer_is_true q before spent tree (Err stop) asked h = tt

pub is_question : {A : Type 0} (value : A → Fraction) (limit budget : ℕ) (batch : Batch) (fills : List A) (liability : A) → ((a : A) → IsLowest (value a)) → HasItsForms batch → length fills ≡ length batch.orders → All IsNotBelowZero (map value fills)
    → IsAsked (question limit budget batch (map value fills) (value liability))
is_question value limit budget batch fills liability lowest forms count low =
    record {
      some = forms.some;
      few = forms.few;
      lowest = each_lowest value fills lowest;
      not_below_zero = low;
      count = length-map fills value ∙ count;
      liability = lowest liability;
    }
