-- Numbers in memory become room, and one more is put behind some of them. Assumes `Logic`.
use mathlib.Core.Path.{◌≡◌, refl, sym, ap, ◌∙◌}
use Prim.Native.Nat.{ℕ, suc, ◌+◌, ◌*◌, ◌≤◌}
use native.Mathlib.Nat.{zero-mul, suc-mul}
use native.Mathlib.Omega.{arith}
use mathlib.Core.List.{List, [], ◌∷◌, ◌++◌}
use lib.ListN.{length, take, take-append-drop, length-drop, drop as drop_l}
use seplogic.Ra.Ura.{Ura}
use base.Fraction.{full_share}
use base.Logic.{ent, sep}
use base.Fml.{fat, froom}
use mir.Syntax.{ty_array}
use mir.Val.{Val}
use types.Logic.{Logic, sem}
use types.Kit.{‵, ◌⊛◌, some, ◌$◌, ◌∵◌, !, qed, move, keep, drop, use1, use2, pick, split, fsplit, fjoin, rewrite, done}
use types.SemTy.{cells}
use denote.Memory.{mem, part_at}
use denote.Steps.{nothing}
use borrow.Table.Elements.{at, at_mul, cut_app, join_app, length-take-le}
use borrow.Table.OneValue.{part_out}
use Rattle.std.proofs.mem.Param.{El, R, el_x, elτ}
use Rattle.std.proofs.ptr.Rows.{add_times}
use Rattle.lists.proofs.Fields.{sz}

module _ (E : El) {M : Type 1} {𝓤 : Ura M} (𝓛 : Logic 𝓤) (b : ℕ) where
  open 𝓛 use {H}

  abbrev s : ℕ
  s = sz E

  -- numbers and the room behind them are room
  pub numbers_to_room : (xs : List (el_x E)) (m o : ℕ) → ent 𝓤 (sep 𝓤 (sem 𝓛 (cells (mem (R E)) xs b o)) (H.room (ty_array (elτ E) m) b (length xs * s + o))) (H.room (ty_array (elτ E) (length xs + m)) b o)
  numbers_to_room [] m o =
      let here : 0 * s + o ≡ o = omega (arith, zero-mul s) in
      let same : m ≡ 0 + m = omega arith in
      qed 𝓛 (‵ (cells (mem (R E)) [] b o) ∷ ‵ (froom (ty_array (elτ E) m) b (0 * s + o)) ∷ []) ∵ drop ! $ rewrite ! 0 (λ (k : ℕ). ‵ (froom (ty_array (elτ E) m) b k)) here refl $
      rewrite ! 0 (λ (k : ℕ). ‵ (froom (ty_array (elτ E) k) b o)) same refl $ done !
  numbers_to_room (x ∷ xs) m o =
      let far : suc (length xs) * s + o ≡ length xs * s + (o + s) = omega (arith, suc-mul (length xs) s) in
      let count : suc (length xs + m) ≡ suc (length xs) + m = omega arith in
      qed 𝓛 (‵ (cells (mem (R E)) (x ∷ xs) b o) ∷ ‵ (froom (ty_array (elτ E) m) b (suc (length xs) * s + o)) ∷ []) ∵ fsplit ! $ move ! (1 ∷ 2 ∷ []) $
      rewrite ! 1 (λ (k : ℕ). ‵ (froom (ty_array (elτ E) m) b k)) far refl $
      use2 𝓛 (‵ (froom (ty_array (elτ E) (length xs + m)) b (o + s))) (numbers_to_room xs m (o + s)) $ move ! (1 ∷ []) $
      use1 𝓛 (some (λ (v : Val). ‵ (fat full_share (elτ E) b o v) ⊛ ‵ (E.row.own_val x (v ∷ [])))) (part_out 𝓛 (R E) refl full_share x b o) $ pick ! (λ v. split ! $
      use1 𝓛 (‵ (froom (elτ E) b o)) (𝓛.laws.at_room (elτ E) b o v) $ keep ! (0 ∷ 2 ∷ []) $
      use2 𝓛 (‵ (froom (ty_array (elτ E) (suc (length xs + m))) b o)) (𝓛.laws.room_cons (elτ E) (length xs + m) b o) $
      rewrite ! 0 (λ (k : ℕ). ‵ (froom (ty_array (elτ E) k) b o)) count refl $ done !)

  -- the first i numbers, the place behind them, and the room behind that
  pub cut_place : (xs : List (el_x E)) (i m m' o : ℕ) → i ≤ length xs → length xs + m ≡ i + suc m'
      → ent 𝓤 (sep 𝓤 (sem 𝓛 (cells (mem (R E)) xs b o)) (H.room (ty_array (elτ E) m) b (length xs * s + o)))
      (sep 𝓤 (sem 𝓛 (cells (mem (R E)) (take i xs) b o)) (sep 𝓤 (H.room (elτ E) b (i * s + o)) (H.room (ty_array (elτ E) m') b (i * s + o + s))))
  cut_place xs i m m' o le places =
      let rest = drop_l i xs in
      let left : length xs ≡ i + length rest = omega (arith, length-drop i xs, le) in
      let far : length xs * s + o ≡ length rest * s + (i * s + o) = ap (λ (k : ℕ). k * s + o) left ∙ omega (arith, add_times i (length rest) s) in
      let count : length rest + m ≡ suc m' = omega (arith, left, places) in
      qed 𝓛 (‵ (cells (mem (R E)) xs b o) ∷ ‵ (froom (ty_array (elτ E) m) b (length xs * s + o)) ∷ []) ∵
      rewrite ! 0 (λ (l : List (el_x E)). ‵ (cells (mem (R E)) l b o)) (sym (take-append-drop i xs)) refl $
      use1 𝓛 (‵ (cells (mem (R E)) (take i xs) b o) ⊛ ‵ (cells (mem (R E)) rest b (at o s (length (take i xs))))) (cut_app 𝓛 (mem (R E)) (take i xs) rest b o) $ split ! $ move ! (1 ∷ 2 ∷ []) $
      rewrite ! 0 (λ (k : ℕ). ‵ (cells (mem (R E)) rest b k)) (at_mul o s (length (take i xs)) ∙ ap (λ (k : ℕ). k * s + o) (length-take-le i xs le)) refl $
      rewrite ! 1 (λ (k : ℕ). ‵ (froom (ty_array (elτ E) m) b k)) far refl $
      use2 𝓛 (‵ (froom (ty_array (elτ E) (length rest + m)) b (i * s + o))) (numbers_to_room rest m (i * s + o)) $
      rewrite ! 0 (λ (k : ℕ). ‵ (froom (ty_array (elτ E) k) b (i * s + o))) count refl $
      use1 𝓛 (‵ (froom (elτ E) b (i * s + o)) ⊛ ‵ (froom (ty_array (elτ E) m') b (i * s + o + s))) (𝓛.laws.room_uncons (elτ E) m' b (i * s + o)) $ split ! $ move ! (2 ∷ []) $ done !

  pub fill_place : (xs : List (el_x E)) (x : el_x E) (o far : ℕ) → far ≡ length xs * s + o
      → ent 𝓤 (sep 𝓤 (sem 𝓛 (cells (mem (R E)) xs b o)) (sem 𝓛 (part_at (R E) full_share x b far))) (sem 𝓛 (cells (mem (R E)) (xs ++ x ∷ []) b o))
  fill_place xs x o far e =
      qed 𝓛 (‵ (cells (mem (R E)) xs b o) ∷ ‵ (part_at (R E) full_share x b far) ∷ []) ∵ nothing ! $ move ! (2 ∷ 0 ∷ []) $ fjoin ! $ move ! (1 ∷ 0 ∷ []) $
      rewrite ! 1 (λ (k : ℕ). ‵ (cells (mem (R E)) (x ∷ []) b k)) (e ∙ sym (at_mul o s (length xs))) refl $
      use2 𝓛 (‵ (cells (mem (R E)) (xs ++ x ∷ []) b o)) (join_app 𝓛 (mem (R E)) xs (x ∷ []) b o) $ done !

-- behind the place of number k
pub behind : (k n s o : ℕ) → n ≡ suc k → k * s + o + s ≡ n * s + o
behind k n s o e = omega (arith, suc-mul k s) ∙ ap (λ (j : ℕ). j * s + o) (sym e)
