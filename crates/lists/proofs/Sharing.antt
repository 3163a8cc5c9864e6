-- A `&` to a block is made where one to a number is. Assumes `Logic`.
use Prim.Native.Nat.{ℕ, ◌+◌}
use mathlib.Core.List.{List, [], ◌∷◌}
use seplogic.Ra.Ura.{Ura}
use base.Fraction.{full_share}
use base.Fml.{Lft, Fml, Incl, ftrue, fsep, froom}
use mir.Syntax.{Ty, ty_array}
use mir.Raw.{raw}
use types.Logic.{Logic}
use types.SemTy.{cells}
use denote.RattleType.{RattleType, RowLaws}
use denote.Memory.{lone, mem, part_at, shared_of}
use denote.Param.Laws.{Laws}
use denote.RawPtr.{Ptr, block_ptr, null_ptr}
use denote.Sharing.{ShrLaws, said}
use denote.SharingLaws.{beside_shr_laws, nothing_shr_laws, said_shr_laws}
use denote.Shares.{Shares-less}
use denote.Struct.Lending.{Lends, Lends-both, Lends-first, Lends-nothing, Lends-said}
use Rattle.std.specs.Mem.{type_size}
use lib.ListN.{length}
use Prim.Native.Nat.{◌*◌}
use Rattle.lists.specs.Ownership.{fit, no_place, numbers_lent, block_owns, block_lent}

module _ (R : RattleType) (L : RowLaws R) where
  numbers_lent_laws : (b o : ℕ) (xs : List R.Denot) → ShrLaws (numbers_lent R b o xs)
  numbers_lent_laws b o [] = nothing_shr_laws
  numbers_lent_laws b o (x ∷ xs) = beside_shr_laws _ _ (L x b o) (numbers_lent_laws b (o + type_size R) xs)

  pub block_lent_laws : (p : Ptr) (xs : List R.Denot) (m : ℕ) → ShrLaws (block_lent R p xs m)
  block_lent_laws (block_ptr b o) xs m = beside_shr_laws _ _ (said_shr_laws (fit R xs m) tt) (numbers_lent_laws b o xs)
  block_lent_laws null_ptr xs m = said_shr_laws (no_place R xs m) tt

module _ {M : Type 1} {𝓤 : Ura M} (𝓛 : Logic 𝓤) (l : Lft) (R : RattleType) (L : Laws R) (inc : Incl l R.lives) (t : Ty → Ptr → Fml) where
  Lends-numbers : (b o : ℕ) (xs : List R.Denot) → Lends 𝓛 (cells (mem R) xs b o) (numbers_lent R b o xs) l
  Lends-numbers b o [] = Lends-nothing 𝓛 ftrue l
  Lends-numbers b o (x ∷ xs) =
      Lends-both 𝓛 (part_at R full_share x b o) (cells (mem R) xs b (o + type_size R)) (shared_of R x b o) (numbers_lent R b (o + type_size R) xs) l
      (λ κ ts. Shares-less 𝓛 R R.lives l inc (L.shares 𝓛) x κ ts b o) (Lends-numbers b (o + type_size R) xs)

  pub Lends-block : (p : Ptr) (xs : List R.Denot) (m : ℕ) → Lends 𝓛 (block_owns R t p xs m) (block_lent R p xs m) l
  Lends-block (block_ptr b o) xs m =
      let others : Fml = fsep (froom (raw (ty_array (lone R.mir) m)) b (length xs * type_size R + o)) (t (raw (ty_array (lone R.mir) (length xs + m))) (block_ptr b o)) in
      Lends-both 𝓛 (fit R xs m) (fsep (cells (mem R) xs b o) others) (said (fit R xs m)) (numbers_lent R b o xs) l (Lends-said 𝓛 (fit R xs m) tt l)
      (Lends-first 𝓛 (cells (mem R) xs b o) others (numbers_lent R b o xs) l (Lends-numbers b o xs))
  Lends-block null_ptr xs m = Lends-said 𝓛 (no_place R xs m) tt l
