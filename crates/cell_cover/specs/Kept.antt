-- What a walk of the code keeps: the cell that it has come to, and the sides that are still to come.
use Rattle.std.specs.Prelude.{ℕ, ◌≡◌, ◌++◌, ◌-◌, Bool, true, false, List, [], ◌∷◌, map, reverse, slice_set, Result, Ok, Err}
use Rattle.exact_num.specs.declared.misfit.Wide.{Wide as Misfit}
use Rattle.cell_cover.specs.declared.vectors.Row.{Row}
use Rattle.cell_cover.specs.declared.vectors.Knowledge.{Knowledge}
use Rattle.cell_cover.specs.declared.vectors.Knowledge.TheVariants.{Bounded}
use Rattle.cell_cover.specs.declared.walk.Change.{Change}
use Rattle.cell_cover.specs.declared.walk.Walk.{Walk}
use Rattle.cell_cover.specs.declared.walk.Taken.{Taken}
use Rattle.cell_cover.specs.declared.walk.Taken.TheVariants.{On, Ended, Open, Wide}
use Rattle.cell_cover.specs.Walk.{Cell}
use Rattle.cell_cover.specs.NodeWalk.{Pending, State, Next, Fails, Ends, GoesOn}
use Rattle.cell_cover.specs.Rows.{row_of, known_as}

-- what was known before the change
abbrev pub set_back : List Knowledge → Change → List Knowledge
set_back known change = slice_set known (change.class - 1) (Bounded change.before)

abbrev pub cell_with : ℕ → Row → List Knowledge → Cell
cell_with count sums known = record { sums = row_of count sums; known = map (known_as count) known }

-- what is still to come behind a change: the minus side of its split, and what comes behind that
abbrev pub behind : ℕ → List Knowledge → Change → Bool → List Row → (List Row → List Pending) → List Pending
behind count before change false saved later = later saved
behind count before change true [] later = []
behind count before change true (sums ∷ saved) later =
    record { cell = cell_with count sums before; class = change.class; bound = row_of count change.before } ∷ later saved

-- the sides that are still to come, where so much is known and these changes were made, the last
-- one first, with the sums from before each split
abbrev pub pending_of : ℕ → List Knowledge → List Change → List Row → List Pending
pending_of count known [] saved = []
pending_of count known (change ∷ changes) saved =
    let before = set_back known change in
    behind count before change change.splits saved (pending_of count before changes)

abbrev pub still_to_come : ℕ → Walk → List Pending
still_to_come count walk = pending_of count walk.known.items (reverse walk.changes.items) (reverse walk.saved.items)

abbrev pub state_of : ℕ → Walk → State
state_of count walk = record { cell = cell_with count walk.sums walk.known.items; pending = still_to_come count walk }

-- what a node has led to
abbrev pub taken_as : ℕ → Taken → Walk → Result Next Misfit
taken_as count On walk = Ok (GoesOn (state_of count walk))
taken_as count Ended walk = Ok Ends
taken_as count Open walk = Ok Fails
taken_as count (Wide w) walk = Err w

-- a change was made: so much else is known of its class
pub record IsChanged (old new : Walk) (change : Change) (knowledge : Knowledge) (taken : Taken) : Type 0 where
  pub on : taken ≡ On
  pub sums : new.sums ≡ old.sums
  pub known : new.known.items ≡ slice_set old.known.items (change.class - 1) knowledge
  pub changes : new.changes.items ≡ old.changes.items ++ change ∷ []
  pub saved : new.saved.items ≡ old.saved.items
