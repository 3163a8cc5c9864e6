-- What a block owns and lends, at numbers of the row R: xs from the pointer on, and room for m more
-- behind them.
use Rattle.std.specs.Prelude.{ℕ, ◌+◌, ◌*◌, ◌^◌, List, [], ◌∷◌, length}
use Rattle.std.specs.Mem.{type_size}
use base.Fml.{Lft, Fml, fsep, flt, froom}
use mir.Syntax.{Ty, ty_array}
use mir.Raw.{raw}
use types.SemTy.{cells}
use denote.RattleType.{RattleType}
use denote.Memory.{lone, mem, shared_of}
use denote.Sharing.{nothing, said, beside}
use denote.RawPtr.{Ptr, block_ptr, null_ptr}

module _ (R : RattleType) where
  -- all places take fewer than 2 ^ 63 bytes
  abbrev pub fit : List R.Denot → ℕ → Fml
  fit xs m = flt ((length xs + m) * type_size R) (2 ^ 63)

  -- there is no place
  abbrev pub no_place : List R.Denot → ℕ → Fml
  no_place xs m = flt (length xs + m) 1

  -- token is what lets the allocator take a block back
  abbrev pub block_owns : (Ty → Ptr → Fml) → Ptr → List R.Denot → ℕ → Fml
  block_owns token (block_ptr b o) xs m =
      fsep (fit xs m) (fsep (cells (mem R) xs b o) (fsep (froom (raw (ty_array (lone R.mir) m)) b (length xs * type_size R + o))
      (token (raw (ty_array (lone R.mir) (length xs + m))) (block_ptr b o))))
  block_owns token null_ptr xs m = no_place xs m

  abbrev pub numbers_lent : ℕ → ℕ → List R.Denot → Lft → Fml
  numbers_lent b o [] = nothing
  numbers_lent b o (x ∷ xs) = beside (shared_of R x b o) (numbers_lent b (o + type_size R) xs)

  abbrev pub block_lent : Ptr → List R.Denot → ℕ → Lft → Fml
  block_lent (block_ptr b o) xs m = beside (said (fit xs m)) (numbers_lent b o xs)
  block_lent null_ptr xs m = said (no_place xs m)
