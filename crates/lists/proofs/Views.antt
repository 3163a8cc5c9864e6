-- A `&` to a block shows a part of its numbers, and its pointer is read. Assumes `Logic`.
use mathlib.Core.Path.{◌≡◌, refl, sym, ap, subst, ◌∙◌}
use Prim.Native.Nat.{ℕ, zero, suc, ◌+◌, ◌*◌, ◌≤◌}
use native.Mathlib.Nat.{zero-mul, suc-mul}
use native.Mathlib.Omega.{arith}
use mathlib.Core.List.{List, [], ◌∷◌, ◌++◌}
use lib.ListN.{length, take-append-drop, drop as drop_l}
use seplogic.Ra.Ura.{Ura}
use mir.Syntax.{ty_ptr}
use mir.Val.{Val, vptr}
use base.Logic.{ent, via, snd∗, mono_r, id⊢}
use base.Fml.{Lft, Share, fat, flft}
use types.Logic.{Logic, sem}
use types.Kit.{Goal, Soaks, Step, step, Seq, Item, ‵, ◌$◌, ◌∵◌, !, qed, by, move, keep, drop, use1, rewrite, feq_i, feq_l}
use denote.Copied.{plain_Copied}
use denote.Memory.{cell_at, part_at, hidden_shr, shared_of}
use denote.Opens.{Shut}
use denote.RawPtr.{Ptr, RawPtr, block_ptr, coded_ptr, ptr_own, rawptr_pure, ptr_val}
use denote.Slice.{elements_shared}
use denote.Steps.{looks, shuts}
use denote.Struct.Laws.{RawPtr-laws}
use types.Kit.{done}
use Rattle.std.proofs.mem.Param.{El, R, el_x}
use Rattle.lists.specs.Ownership.{numbers_lent}
use Rattle.lists.specs.Parts.{part}
use Rattle.lists.proofs.Fields.{sz}

module _ (E : El) {M : Type 1} {𝓤 : Ura M} (𝓛 : Logic 𝓤) (b : ℕ) (κ : Lft) where
  abbrev s : ℕ
  s = sz E

  from_on : (xs : List (el_x E)) (i o far : ℕ) → i ≤ length xs → far ≡ i * s + o → ent 𝓤 (sem 𝓛 (numbers_lent (R E) b o xs κ)) (sem 𝓛 (numbers_lent (R E) b far (drop_l i xs) κ))
  from_on xs zero o far le e = let same : o ≡ far = omega (arith, zero-mul s, e) in subst (λ k. ent 𝓤 (sem 𝓛 (numbers_lent (R E) b o xs κ)) (sem 𝓛 (numbers_lent (R E) b k xs κ))) same (id⊢ 𝓤 _)
  from_on [] (suc i) o far le e = absurd (omega (arith, le))
  from_on (x ∷ xs) (suc i) o far le e =
      via 𝓤 (sem 𝓛 (numbers_lent (R E) b (o + s) xs κ)) (snd∗ 𝓤 (sem 𝓛 (shared_of (R E) x b o κ)) (sem 𝓛 (numbers_lent (R E) b (o + s) xs κ))) (from_on xs i (o + s) far (omega (arith, le)) (omega (arith, suc-mul i s, e)))

  up_to : (xs rest : List (el_x E)) (o : ℕ) → ent 𝓤 (sem 𝓛 (numbers_lent (R E) b o (xs ++ rest) κ)) (sem 𝓛 (elements_shared (R E) xs b o κ))
  up_to [] rest o = qed 𝓛 (‵ (numbers_lent (R E) b o rest κ) ∷ []) ∵ keep ! [] $ done !
  up_to (x ∷ xs) rest o = mono_r 𝓤 (sem 𝓛 (shared_of (R E) x b o κ)) (up_to xs rest (o + s))

  pub part_view : (xs : List (el_x E)) (i n o : ℕ) → i ≤ length xs → ent 𝓤 (sem 𝓛 (numbers_lent (R E) b o xs κ)) (sem 𝓛 (elements_shared (R E) (part i n xs) b (i * s + o) κ))
  part_view xs i n o le = qed 𝓛 (‵ (numbers_lent (R E) b o xs κ) ∷ []) ∵ use1 𝓛 (‵ (numbers_lent (R E) b (i * s + o) (drop_l i xs) κ)) (from_on xs i o (i * s + o) le refl) $
      rewrite ! 0 (λ (l : List (el_x E)). ‵ (numbers_lent (R E) b (i * s + o) l κ)) (sym (take-append-drop n (drop_l i xs))) refl $ by ! (up_to (part i n xs) (drop_l n (drop_l i xs)) (i * s + o))

module _ {M : Type 1} {𝓤 : Ura M} {𝓛 : Logic 𝓤} {K : Type 0} {Γ : List (Item 𝓤)} {G : Goal 𝓤 𝓛.H} where
  -- a pointer into a block, behind a `&`, is looked at: [the pointer; the way back]
  pub pointer_in : K → Soaks G → {κ : Lft} {q : Share} (p : Ptr) (pb po : ℕ) → p ≡ block_ptr pb po → (b at : ℕ)
      → ((q' : Share) → Seq K 𝓛 (‵ (fat q' ty_ptr b at (vptr pb po)) ∷ Shut 𝓛 κ q (part_at RawPtr q' p b at) ∷ Γ) G) → Seq K 𝓛 (‵ (hidden_shr RawPtr κ p b at) ∷ ‵ (flft κ q) ∷ Γ) G
  pointer_in t z p pb po is b at k =
      looks t z RawPtr (plain_Copied 𝓛 Ptr coded_ptr (ty_ptr ∷ []) ptr_own rawptr_pure ptr_val RawPtr-laws.tells).opens p b at (λ q' vs. move t (1 ∷ []) $ feq_l t (λ e.
      rewrite t 0 (λ (us : List Val). ‵ (cell_at q' RawPtr.mir us b at)) (e ∙ ap (λ (r : Ptr). ptr_val r ∷ []) is) refl $ move t (2 ∷ []) $ drop t $ k q'))

  pub pointer_out : K → Soaks G → {κ : Lft} {q q' : Share} (p : Ptr) (pb po : ℕ) → p ≡ block_ptr pb po → (b at : ℕ)
      → Step K 𝓛 (‵ (flft κ q) ∷ Γ) G (‵ (fat q' ty_ptr b at (vptr pb po)) ∷ Shut 𝓛 κ q (part_at RawPtr q' p b at) ∷ Γ) G
  pointer_out t z {q' = q'} p pb po is b at = step (λ s.
      feq_i t (List Val) (vptr pb po ∷ []) (ptr_val p ∷ []) (ap (λ (r : Ptr). ptr_val r ∷ []) (sym is)) $ move t (1 ∷ 0 ∷ []) $ shuts t z RawPtr q' p (vptr pb po ∷ []) b at $ s)
