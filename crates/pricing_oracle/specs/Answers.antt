-- What the answers of the code say of the search.
use Rattle.std.specs.Prelude.{ℕ, ◌≡◌, ◌≤◌, List, length, map, Option, Some, None, Result, Ok, Err}
use Rattle.std.specs.List.{All}
use Rattle.exact_num.specs.Fraction.{Fraction, IsNotBelowZero}
use Rattle.frac.specs.Range.{limit as largest}
use Rattle.form.specs.declared.orders.Batch.{Batch}
use Rattle.form.specs.declared.states.State.{State}
use Rattle.form.specs.Limits.{HasItsForms}
use Rattle.form.specs.States.{vector_of}
use Rattle.form.specs.declared.limits.TheConstants.{MAX_ORDERS}
use Rattle.clearing_model.specs.Certificate.{ClosesAsWritten}
use Rattle.clearing_model.specs.Written.{WrittenTree, IsWritten}
use Rattle.sign_tree.specs.declared.trees.SignTree.{SignTree}
use Rattle.sign_tree.specs.Read.{node_of, placed_of}
use Rattle.simplex.specs.Stops.{stop_of}
use Rattle.simplex.specs.declared.stop.RunStop.{RunStop}
use Rattle.simplex.specs.declared.stop.SolveStop.{SolveStop}
use Rattle.simplex.specs.declared.stop.SolveStop.TheVariants.{Wide, Budget, Memory}
use Rattle.simplex_run.specs.Ending.{Ending, done, wide_at, no_unit_left}
use Rattle.master_program.specs.Search.{Question, Found, closed, found}
use Rattle.search_laws.specs.Search.{IsFound}
use Rattle.pricing_oracle.specs.declared.found.Found.{Found as Answer}
use Rattle.pricing_oracle.specs.declared.found.Found.TheVariants.{Closed, Violated}

-- the tree of the code is the tree as it is written
abbrev pub IsTreeAs : WrittenTree → SignTree → Type 0
IsTreeAs written tree = IsWritten written (map node_of tree.nodes) (map placed_of tree.multipliers)

-- a market on 1 to 8 underlyings with at most 256 orders on just these, and for each a fill that is not below 0
pub record MayBeSearched {A : Type 0} (value : A → Fraction) (batch : Batch) (amounts : List A) : Type 0 where
  pub forms : HasItsForms batch
  pub few : length batch.orders ≤ MAX_ORDERS
  pub fills : length amounts ≡ length batch.orders
  pub not_below_zero : All IsNotBelowZero (map value amounts)

-- what a batch, its fills and the liability ask of a search, in numbers within a limit and with a
-- budget
abbrev pub question : (limit budget : ℕ) → Batch → List Fraction → Fraction → Question
question limit budget batch fills liability =
    record { payoff_limit = largest; limit = limit; budget = budget; underlyings = batch.underlyings; orders = batch.orders; fills = fills; liability = liability }

-- the search ends with what the code found
abbrev pub EndsWith : Ending Found → Answer → ℕ → Type 0
EndsWith ending (Closed tree) spent = (written : WrittenTree) × IsTreeAs written tree × (ending ≡ done (closed written) spent)
EndsWith ending (Violated state) spent = ending ≡ done (found (vector_of state)) spent

-- the answer of the call is the end of the search, and the units are those spent; want of memory
-- says nothing
abbrev pub IsSearchAnswer : Ending Found → Result Answer SolveStop → ℕ → Type 0
IsSearchAnswer ending (Ok answer) spent = EndsWith ending answer spent
IsSearchAnswer ending (Err (Wide unit wide)) spent = (ending ≡ wide_at unit wide) × (spent ≡ unit)
IsSearchAnswer ending (Err Budget) spent = ending ≡ no_unit_left spent
IsSearchAnswer ending (Err Memory) spent = Unit {0}

-- what a search in given room found: its tree stands in the room where it closed
abbrev pub found_in : SignTree → Result (Option State) RunStop → Result Answer SolveStop
found_in tree (Ok None) = Ok (Closed tree)
found_in tree (Ok (Some state)) = Ok (Violated state)
found_in tree (Err stop) = Err (stop_of stop)

-- the tree is well formed and closes; the state is primitive, and at it the fills owe more than the
-- liability
abbrev pub IsTrueOf : Question → Answer → Type 0
IsTrueOf q (Closed tree) = ClosesAsWritten q.underlyings q.orders q.fills q.liability (map node_of tree.nodes) (map placed_of tree.multipliers)
IsTrueOf q (Violated state) = IsFound q (vector_of state)
