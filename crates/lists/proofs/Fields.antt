-- A block by value, and behind a `&mut`. Assumes `Logic`. holdings, block_places, block_from_parts
-- what a block owns beside its fields; with a place there is an allocation; a block is made of what
-- it owns block_opens, block_closes          a `&mut` to a block is opened and closed
use mathlib.Core.Path.{◌≡◌, sym, ap, ◌∙◌}
use Prim.Native.Nat.{ℕ, suc, zero, ◌+◌, ◌*◌, ◌<◌, ◌^◌}
use native.Mathlib.Nat.{zero-mul, suc-mul}
use native.Mathlib.Omega.{arith}
use mathlib.Core.Path.{refl}
use mathlib.Core.List.{List, [], ◌∷◌, ◌++◌}
use lib.ListN.{length}
use lib.Dec.{lit<}
use seplogic.Ra.Ura.{Ura}
use base.Fraction.{full_share}
use base.Stored.{Gv}
use mir.Syntax.{Ty, Args, a_type, ty_array, ty_ptr, ty_struct, tcons, tnil, dcons, dnil}
use mir.Val.{Val, vstruct, vcons, vnil, of_list}
use mir.Raw.{raw as bare}
use base.Logic.{ent, emp, never}
use base.Fml.{Lft, GName, Share, Fml, flt, froom, flft, fobs, fauth, fbor, fobor}
use prog.Memory.{size, align, capped}
use prog.Capped.{capped_is}
use prog.RawLaws.{size-raw, align-raw}
use types.Logic.{Logic, sem}
use types.Kit.{Goal, Soaks, Step, step, Seq, Item, ‵, ◌$◌, ◌∵◌, !, qed, move, drop, use0, fsplit, fsplit3, fjoin, fjoin3, flt_l, flt_i, rewrite}
use types.SemTy.{cells, Body}
use denote.RattleType.{RattleType}
use denote.Laws.{Is, shows}
use denote.Memory.{cell_at, mem}
use denote.Param.{param, bounded}
use denote.RawPtr.{Ptr, block_ptr, null_ptr, ptr_val, in_a_block}
use denote.Shadow.{makes_shadow}
use denote.Steps.{peeks, opens, closes}
use denote.Struct.Struct.{Struct}
use denote.Struct.Owning.{shape}
use Rattle.std.specs.Mem.{type_size}
use Rattle.std.proofs.mem.Param.{El, R, elτ}
use Rattle.std.proofs.alloc.Calls.{Al, token}
use Rattle.std.proofs.RcSteps.{Good}
use Rattle.lists.specs.Ownership.{block_owns}
use Rattle.lists.specs.contracts.block.Block as C

abbrev pub block_val : Ptr → Val
block_val p = vstruct (vcons (ptr_val p) (vcons (vstruct vnil) vnil))

pub block_Good : (p : Ptr) → Good (ty_struct [] (tcons ty_ptr (tcons (ty_struct [] tnil) tnil))) (block_val p)
block_Good (block_ptr b o) = (tt, (tt, (tt, tt)))
block_Good null_ptr = (tt, (record { fits = lit< tt }, (tt, tt)))

-- where the product fits a word, the count is zero or the size fits too
pub uncapped : (i k : ℕ) → i * k < 2 ^ 64 → i * capped k ≡ i * k
uncapped zero k h = zero-mul (capped k) ∙ sym (zero-mul k)
uncapped (suc i) k h = let up = suc-mul i k in ap (λ (j : ℕ). suc i * j) (capped_is k (omega arith))

module _ (E : El) where
  abbrev pub sz : ℕ
  sz = type_size (R E)

  -- the type that a block of n places is allocated for
  abbrev pub block_ty : ℕ → Ty
  block_ty n = bare (ty_array (elτ E) n)

  pub block_size : (n : ℕ) → n * sz < 2 ^ 64 → capped (size (block_ty n)) ≡ n * sz
  block_size n fits = ap capped (size-raw (ty_array (elτ E) n)) ∙ capped_is (n * sz) fits

  pub block_align : (n : ℕ) → capped (align (block_ty n)) ≡ capped (align (elτ E))
  block_align n = ap capped (align-raw (ty_array (elτ E) n))

module _ (E : El) (Z : Al) where
  abbrev pub args : Args
  args = bounded (a_type ∷ a_type ∷ []) (E.row, (Z.row, tt)) (dcons Z.d (dcons Z.drops dnil))

  abbrev pub P : RattleType
  P = param 1 Z.row

  abbrev pub Br : RattleType
  Br = C.the_row (R E) P Z.g

  -- the data fields, as a plain struct
  abbrev pub Data : RattleType
  Data = Struct (shape (C.the_type (R E) P Z.g))

  abbrev pub holdings : Br.Denot → Fml
  holdings d = block_owns (R E) (token Z d.alloc) d.ptr d.numbers d.spare

  abbrev pub room_after : Br.Denot → ℕ → ℕ → Fml
  room_after d b o = froom (block_ty E d.spare) b (length d.numbers * sz E + o)

  abbrev pub deed : Br.Denot → ℕ → ℕ → Fml
  deed d b o = token Z d.alloc (block_ty E (length d.numbers + d.spare)) (block_ptr b o)

  abbrev pub words : Br.Denot → ℕ → ℕ → Fml
  words d rb ro = cell_at full_share Br.mir (block_val d.ptr ∷ []) rb ro

  pub data_val : (p : Ptr) (vs : List Val) → Is Data (p, (tt, tt)) vs → vs ≡ block_val p ∷ []
  data_val p vs is = is.1.0 ∙ ap (λ (ws : List Val). vstruct (of_list (ws ++ (is.0.1.0 ++ []))) ∷ []) is.1.1.0 ∙ ap (λ (ws : List Val). vstruct (of_list (ptr_val p ∷ (ws ++ []))) ∷ []) is.1.1.1.0.1.0

  data_from_none : {M : Type 1} {𝓤 : Ura M} (𝓛 : Logic 𝓤) (p : Ptr) → ent 𝓤 (emp 𝓤) (sem 𝓛 (Data.own_val (p, (tt, tt)) (block_val p ∷ [])))
  data_from_none 𝓛 p = makes_shadow 𝓛 (Data.own_val (p, (tt, tt)) (block_val p ∷ [])) (λ vss. (tt, (tt, ((λ uss. (tt, tt)), tt))))
      ((ptr_val p ∷ [], (vstruct vnil ∷ [], tt)), (refl, (refl, ((tt, (refl, tt)), tt))))

module _ {M : Type 1} {𝓤 : Ura M} (𝓛 : Logic 𝓤) where
  pub none_at_null : (n : ℕ) → 0 < n → ent 𝓤 (sem 𝓛 (flt n 1)) (never 𝓤)
  none_at_null n some = qed 𝓛 (‵ (flt n 1) ∷ []) ∵ flt_l ! (λ none. absurd (omega (arith, some, none)))

module _ (E : El) (Z : Al) {M : Type 1} {𝓤 : Ura M} {𝓛 : Logic 𝓤} {K : Type 0} {Γ : List (Item 𝓤)} {G : Goal 𝓤 𝓛.H} where
  pub block_parts : K → (d : (Br E Z).Denot) (vs : List Val) → (vs ≡ block_val d.ptr ∷ [] → Seq K 𝓛 (‵ (holdings E Z d) ∷ Γ) G) → Seq K 𝓛 (‵ ((Br E Z).own_val d vs) ∷ Γ) G
  block_parts t d vs k = fsplit t $ peeks t (Data E Z) (Is (Data E Z)) (shows 𝓛 (Data E Z)) (d.ptr, (tt, tt)) vs (λ is. drop t $ k (data_val E Z d.ptr vs is))

  -- [the numbers; the room; what frees it]
  pub block_places : K → (d : (Br E Z).Denot) → 0 < length d.numbers + d.spare
      → ((b o : ℕ) → d.ptr ≡ block_ptr b o → (length d.numbers + d.spare) * sz E < 2 ^ 63 → Seq K 𝓛 (‵ (cells (mem (R E)) d.numbers b o) ∷ ‵ (room_after E Z d b o) ∷ ‵ (deed E Z d b o) ∷ Γ) G)
      → Seq K 𝓛 (‵ (holdings E Z d) ∷ Γ) G
  block_places t d some k = in_a_block t d.ptr (λ p. block_owns (R E) (token Z d.alloc) p d.numbers d.spare) (none_at_null 𝓛 (length d.numbers + d.spare) some)
      (λ b o e. fsplit t $ flt_l t (λ fit. fsplit3 t $ k b o e fit))

  pub block_from_parts : K → (d : (Br E Z).Denot) (b o : ℕ) → d.ptr ≡ block_ptr b o → (length d.numbers + d.spare) * sz E < 2 ^ 63
      → Step K 𝓛 (‵ ((Br E Z).own_val d (block_val d.ptr ∷ [])) ∷ Γ) G (‵ (cells (mem (R E)) d.numbers b o) ∷ ‵ (room_after E Z d b o) ∷ ‵ (deed E Z d b o) ∷ Γ) G
  block_from_parts t d b o e fit = step (λ s. fjoin3 t $ flt_i t ((length d.numbers + d.spare) * sz E) (2 ^ 63) fit $ fjoin t $
      rewrite t 0 (λ (p : Ptr). ‵ (block_owns (R E) (token Z d.alloc) p d.numbers d.spare)) (sym e) refl $
      use0 𝓛 (‵ ((Data E Z).own_val (d.ptr, (tt, tt)) (block_val d.ptr ∷ []))) (data_from_none E Z 𝓛 d.ptr) $ fjoin t $ s)

  -- a block with no place owns nothing
  pub block_from_none : K → (d : (Br E Z).Denot) → d.ptr ≡ null_ptr → length d.numbers + d.spare < 1 → Step K 𝓛 (‵ ((Br E Z).own_val d (block_val d.ptr ∷ [])) ∷ Γ) G Γ G
  block_from_none t d e none = step (λ s. flt_i t (length d.numbers + d.spare) 1 none $ rewrite t 0 (λ (p : Ptr). ‵ (block_owns (R E) (token Z d.alloc) p d.numbers d.spare)) (sym e) refl $
      use0 𝓛 (‵ ((Data E Z).own_val (d.ptr, (tt, tt)) (block_val d.ptr ∷ []))) (data_from_none E Z 𝓛 d.ptr) $ fjoin t $ s)

module _ (E : El) (Z : Al) {M : Type 1} {𝓤 : Ura M} {𝓛 : Logic 𝓤} {K : Type 0} {Γ : List (Item 𝓤)} {G : Goal 𝓤 𝓛.H} where
  -- [the numbers; the room; what frees it; the fields; the open borrow; obs; auth]
  pub block_opens : K → Soaks G → {κ : Lft} {q : Share} {γ : GName} (d : (Br E Z).Denot) (rb ro : ℕ) → 0 < length d.numbers + d.spare
      → ((b o : ℕ) → d.ptr ≡ block_ptr b o → (length d.numbers + d.spare) * sz E < 2 ^ 63
      → Seq K 𝓛 (‵ (cells (mem (R E)) d.numbers b o) ∷ ‵ (room_after E Z d b o) ∷ ‵ (deed E Z d b o) ∷ ‵ (words E Z d rb ro)
      ∷ ‵ (fobor κ q (Body (mem (Br E Z)) rb ro γ)) ∷ ‵ (fobs γ ((Br E Z).coded.code d)) ∷ ‵ (fauth γ ((Br E Z).coded.code d)) ∷ Γ) G)
      → Seq K 𝓛 (‵ (fobs γ ((Br E Z).coded.code d)) ∷ ‵ (fbor κ (Body (mem (Br E Z)) rb ro γ)) ∷ ‵ (flft κ q) ∷ Γ) G
  block_opens t z d rb ro some k =
      opens t z (Br E Z) {h = d} rb ro (λ vs. move t (1 ∷ []) $ block_parts E Z t d vs (λ ev.
      rewrite t 1 (λ (ws : List Val). ‵ (cell_at full_share (Br E Z).mir ws rb ro)) ev refl $ block_places E Z t d some k))

  pub block_closes : K → Soaks G → {κ : Lft} {q : Share} {u v : Gv} {γ : GName} (d : (Br E Z).Denot) (b o rb ro : ℕ) → d.ptr ≡ block_ptr b o → (length d.numbers + d.spare) * sz E < 2 ^ 63
      → Step K 𝓛 (‵ (fobs γ ((Br E Z).coded.code d)) ∷ ‵ (fbor κ (Body (mem (Br E Z)) rb ro γ)) ∷ ‵ (flft κ q) ∷ Γ) G
      (‵ (cells (mem (R E)) d.numbers b o) ∷ ‵ (room_after E Z d b o) ∷ ‵ (deed E Z d b o) ∷ ‵ (words E Z d rb ro) ∷ ‵ (fobor κ q (Body (mem (Br E Z)) rb ro γ)) ∷ ‵ (fobs γ u) ∷ ‵ (fauth γ v) ∷ Γ) G
  block_closes t z d b o rb ro e fit = step (λ s. block_from_parts E Z t d b o e fit $ move t (1 ∷ 0 ∷ []) $ closes t z (Br E Z) d (block_val d.ptr ∷ []) rb ro $ s)
