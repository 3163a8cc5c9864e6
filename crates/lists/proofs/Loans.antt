-- A part of a block's numbers is lent to be read and another to be written; the block follows the
-- second. Assumes `Logic`.
use mathlib.Core.Path.{◌≡◌, refl, sym, subst}
use Prim.Native.Nat.{ℕ, ◌+◌, ◌*◌, ◌<◌, ◌^◌}
use mathlib.Core.List.{List, [], ◌∷◌}
use lib.ListN.{length}
use seplogic.Ra.Ura.{Ura}
use base.Fraction.{full_share}
use base.Stored.{Gv}
use mir.Syntax.{named}
use mir.Val.{Val}
use base.Logic.{SProp, ent, sep, ex}
use base.Fml.{Fml, GName, Lft, Share, Incl-refl, ftrue, froom, fsep, fseps, flft, fobs, fauth, fbor, fobor}
use types.Logic.{Logic, sem}
use contract.BorrowLft.{◌⊑◌}
use types.Kit.{‵, raw, ◌⊛◌, some, later, ◌$◌, ◌∵◌, !, qed, move, keep, use1, use2, use3, split, split3, group, pick, rewrite, fsplit, fjoin, fpack, feq_l, feq_i, flt_i, show, await, updating, now as at_once, done}
use types.SemTy.{SemTy, cells, Arr, Body as Borrowed}
use types.Follow.{takes_beside}
use denote.Memory.{mem, cell_at, part_of, shared_of}
use denote.Array.{Array}
use denote.Index.{row, whole_in, whole_out}
use denote.Param.Laws.{param_laws}
use denote.RawPtr.{block_ptr}
use denote.Shares.{shares_each}
use denote.Slice.{MutSlice, ShrSlice, Room, elements_shared, slice_val}
use denote.Opens.{hide}
use denote.Steps.{nothing}
use denote.Follow.{follows}
use denote.FollowSlice.{slice_of}
use Rattle.std.proofs.mem.Param.{El, R, el_x}
use Rattle.std.proofs.alloc.Calls.{Al, token}
use Rattle.lists.specs.Lends.{with_numbers}
use Rattle.lists.proofs.Cuts.{Cut}
use Rattle.lists.proofs.Fields.{sz, block_ty, Br, block_val, words, room_after, deed, block_from_parts}

module _ (E : El) (Z : Al) {M : Type 1} {𝓤 : Ura M} (𝓛 : Logic 𝓤) (κ : Lft) (q : Share) (rb ro b o : ℕ) (γ : GName) (d : (Br E Z).Denot) (at : d.ptr ≡ block_ptr b o) (fit : (length d.numbers + d.spare) * sz E < 2 ^ 63)
    (r w : List (el_x E)) (pr pw : ℕ) (G : List (el_x E) → List (el_x E)) (c : Cut 𝓛 (R E) b o d.numbers r w pr pw G) (long : (w' : List (el_x E)) → length w' ≡ length w → length (G w') ≡ length d.numbers) where
  open 𝓛 use {H, A}

  abbrev new : List (el_x E) → (Br E Z).Denot
  new w' = with_numbers d (G w')

  abbrev Items : SemTy
  Items = Arr (mem (R E)) (length w)

  abbrev Read : Fml
  Read = row (R E) full_share r b pr

  -- what is neither read nor written
  abbrev Others : SProp 𝓤
  Others = sep 𝓤 c.rest (sep 𝓤 (sem 𝓛 (room_after E Z d b o)) (sep 𝓤 (sem 𝓛 (deed E Z d b o)) (sem 𝓛 (words E Z d rb ro))))

  abbrev deed_of : ℕ → Fml
  deed_of n = token Z d.alloc (block_ty E (n + d.spare)) (block_ptr b o)

  abbrev room_behind : ℕ → Fml
  room_behind n = froom (block_ty E d.spare) b (n * sz E + o)

  whole : (w' : List (el_x E)) → ent 𝓤 (sep 𝓤 (sem 𝓛 (Items.own_at w' b pw)) (sep 𝓤 (sem 𝓛 (fseps (Read ∷ []))) Others)) (sem 𝓛 ((mem (Br E Z)).own_at (new w') rb ro))
  unfolding fseps part_of
  whole w' =
      qed 𝓛 (‵ (Items.own_at w' b pw) ∷ (‵ Read ⊛ ‵ ftrue) ∷ (raw c.rest ⊛ ‵ (room_after E Z d b o) ⊛ ‵ (deed E Z d b o) ⊛ ‵ (words E Z d rb ro)) ∷ []) ∵ fsplit ! $ feq_l ! (λ e. move ! (1 ∷ []) $ split ! $
      use1 𝓛 (‵ (cells (mem (R E)) r b pr)) (whole_in 𝓛 (R E) r b pr) $ move ! (3 ∷ []) $ split3 ! $ move ! (2 ∷ []) $ split ! $
      -- [what frees it; the fields; the rest; the room behind; the read numbers; nothing; the
      -- written numbers]
      move ! (6 ∷ 4 ∷ 2 ∷ []) $ use3 𝓛 (‵ (cells (mem (R E)) (G w') b o)) (c.back w' e) $
      let same : length d.numbers ≡ length (G w') = sym (long w' e) in
      rewrite ! 1 (λ (n : ℕ). ‵ (deed_of n)) same refl $ rewrite ! 3 (λ (n : ℕ). ‵ (room_behind n)) same refl $ move ! (0 ∷ 3 ∷ 1 ∷ []) $
      block_from_parts E Z ! (new w') b o at (subst (λ (n : ℕ). (n + d.spare) * sz E < 2 ^ 63) same fit) $ move ! (1 ∷ 0 ∷ []) $ fjoin ! $
      fpack ! (List Val) (λ us. fsep (cell_at full_share (Br E Z).mir us rb ro) ((Br E Z).own_val (new w') us)) (block_val d.ptr ∷ []) $ keep ! (0 ∷ []) $ done !)

  abbrev pub Both : GName → SProp 𝓤
  Both γ' = sep 𝓤 (sem 𝓛 ((ShrSlice (named 0) κ (R E)).own_val (record { ref_ptr = (b, pr); now = r }) (slice_val (b, pr) (length r) ∷ [])))
      (sep 𝓤 (sem 𝓛 ((MutSlice (named 0) κ (R E)).own_val (record { ref_ptr = (b, pw); ghost_name = γ'; now = w }) (slice_val (b, pw) (length w) ∷ [])))
      (sep 𝓤 (A.lft κ q) (sem 𝓛 (follows (Br E Z) (Array (R E) 0) γ γ' new))))

  pub lends : κ ⊑ E.row.lives → Room (R E) (length r) → Room (R E) (length w) → (u v : Gv)
      → ent 𝓤 (sep 𝓤 (sem 𝓛 (cells (mem (R E)) d.numbers b o)) (sep 𝓤 (sem 𝓛 (room_after E Z d b o)) (sep 𝓤 (sem 𝓛 (deed E Z d b o)) (sep 𝓤 (sem 𝓛 (words E Z d rb ro))
      (sep 𝓤 (A.obor κ q (Borrowed (mem (Br E Z)) rb ro γ)) (sep 𝓤 (A.obs γ u) (A.auth γ v))))))) (H.⇛ (ex 𝓤 Both))
  unfolding fseps
  lends within room_r room_w u v =
      qed 𝓛 (‵ (cells (mem (R E)) d.numbers b o) ∷ ‵ (room_after E Z d b o) ∷ ‵ (deed E Z d b o) ∷ ‵ (words E Z d rb ro) ∷ ‵ (fobor κ q (Borrowed (mem (Br E Z)) rb ro γ)) ∷ ‵ (fobs γ u) ∷ ‵ (fauth γ v) ∷ []) ∵ updating ! $
      use1 𝓛 (‵ (cells (mem (R E)) r b pr) ⊛ ‵ (cells (mem (R E)) w b pw) ⊛ raw c.rest) c.out $ split3 ! $
      use1 𝓛 (‵ Read) (whole_out 𝓛 (R E) r b pr) $ nothing ! $ move ! (1 ∷ 0 ∷ []) $ fjoin ! $ move ! (1 ∷ []) $ feq_i ! ℕ (length w) (length w) refl $ fjoin ! $
      -- [the numbers to be written; those to be read; the rest; the room behind; what frees it; the
      -- fields; the open borrow; obs; auth]
      move ! (2 ∷ 3 ∷ 4 ∷ 5 ∷ []) $ group ! 4 $ move ! (3 ∷ 4 ∷ 5 ∷ 1 ∷ 2 ∷ 0 ∷ []) $ group ! 6 $
      use1 𝓛 (later (some (λ (γ' : GName). ‵ (fobs γ' (Items.coded.code w)) ⊛ ‵ (fbor κ (Borrowed Items b pw γ')) ⊛ ‵ (flft κ q) ⊛ ‵ (follows (Br E Z) (Array (R E) 0) γ γ' new) ⊛ ‵ (fbor κ Read) ⊛ ‵ ftrue)))
      (takes_beside 𝓛 (mem (Br E Z)) Items new κ q rb ro b pw γ (Read ∷ []) Others whole u v w) $ await ! tt $ pick ! (λ γ'. split3 ! $
      use2 𝓛 (‵ ((MutSlice (named 0) κ (R E)).own_val (record { ref_ptr = (b, pw); ghost_name = γ'; now = w }) (slice_val (b, pw) (length w) ∷ []))) (slice_of 𝓛 (R E) (named 0) κ b pw γ' w room_w) $
      move ! (1 ∷ []) $ split3 ! $ move ! (2 ∷ []) $ split ! $ move ! (0 ∷ 2 ∷ []) $
      use2 𝓛 (later (‵ (elements_shared (R E) r b pr κ) ⊛ ‵ (flft κ q))) (shares_each 𝓛 (R E) (shared_of (R E)) (R E).lives ((param_laws 0 E.row E.laws).shares 𝓛) r κ ((κ, q) ∷ []) b pr within (Incl-refl κ)) $ await ! tt $ split ! $
      hide ! $ flt_i ! (length r * sz E) (2 ^ 63) room_r.1 $ flt_i ! (length r) (2 ^ 64) room_r.0 $ fjoin ! $
      feq_i ! (List Val) (slice_val (b, pr) (length r) ∷ []) (slice_val (b, pr) (length r) ∷ []) refl $ fjoin ! $ fjoin ! $
      at_once ! $ show ! Both γ' $ keep ! (0 ∷ 4 ∷ 1 ∷ 3 ∷ []) $ done !)
