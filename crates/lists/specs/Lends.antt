-- How many places a block has, and what it ends as where a part of its numbers is lent to be
-- written.
use Rattle.std.specs.Prelude.{ℕ, ◌+◌, List, length}
use Rattle.std.specs.Borrow.{Fml, RattleType, MutBor, follows, Array}
use Rattle.std.specs.declared.alloc.Allocator.{Ghosts}
use Rattle.lists.specs.Parts.{with_part}
use Rattle.lists.specs.declared.block.Block.{Block}
use Rattle.lists.specs.contracts.block.Block.{the_row}

abbrev pub capacity : {X A : Type 0} → Block X A → ℕ
capacity b = length b.numbers + b.spare

abbrev pub with_numbers : {X A : Type 0} → Block X A → List X → Block X A
with_numbers b xs = record { ptr = b.ptr; by = b.by; numbers = xs; spare = b.spare; alloc = b.alloc }

module _ (N A : RattleType) (g : Ghosts A.Denot) (b : MutBor (Block N.Denot A.Denot)) (start count : ℕ) where
  abbrev pub lends_part : MutBor (List N.Denot) → Fml
  lends_part r = follows (the_row N A g) (Array N 0) b.ghost_name r.ghost_name (λ ws. with_numbers b.now (with_part start count b.now.numbers ws))
