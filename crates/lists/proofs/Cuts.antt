-- Two runs of the elements of an array in memory come out of it, and go back changed. Assumes
-- nothing.
use mathlib.Core.Path.{◌≡◌, refl, sym, ◌∙◌, ap}
use mathlib.Core.Logic.{◌⊎◌, inl, inr}
use Prim.Native.Nat.{ℕ, ◌+◌, ◌*◌, ◌≤◌}
use native.Mathlib.Omega.{arith}
use mathlib.Core.List.{List, [], ◌∷◌, ◌++◌}
use lib.ListN.{length, take, drop as drop_l, length-append}
use seplogic.Ra.Ura.{Ura}
use base.Logic.{SProp, ent, sep}
use types.Logic.{Logic, sem}
use types.Kit.{‵, raw, ◌⊛◌, ◌$◌, ◌∵◌, !, qed, move, use1, use2, use3, split, split3, rewrite, done}
use types.SemTy.{cells}
use denote.RattleType.{RattleType}
use denote.Memory.{mem}
use borrow.Table.Elements.{at, at_mul, cut_app, join_app, length-take-le}
use Rattle.lists.specs.Parts.{part, with_part}
use Rattle.lists.proofs.Lists.{length-part, refit_is, cut_in_three, front_is, reads_first, whole_reads_first, writes_first, whole_writes_first}

module _ {M : Type 1} {𝓤 : Ura M} (𝓛 : Logic 𝓤) (R : RattleType) (b o : ℕ) (A P D Q Z : List R.Denot) where
  abbrev pub p₁ : ℕ
  p₁ = at o (mem R).size (length A)

  abbrev pub p₂ : ℕ
  p₂ = at p₁ (mem R).size (length P)

  abbrev pub p₃ : ℕ
  p₃ = at o (mem R).size (length (A ++ (P ++ D)))

  abbrev pub p₄ : ℕ
  p₄ = at p₃ (mem R).size (length Q)

  -- what stays behind
  abbrev pub Others : SProp 𝓤
  Others = sep 𝓤 (sem 𝓛 (cells (mem R) A b o)) (sep 𝓤 (sem 𝓛 (cells (mem R) D b p₂)) (sem 𝓛 (cells (mem R) Z b p₄)))

  pub apart : ent 𝓤 (sem 𝓛 (cells (mem R) ((A ++ (P ++ D)) ++ (Q ++ Z)) b o)) (sep 𝓤 (sem 𝓛 (cells (mem R) P b p₁)) (sep 𝓤 (sem 𝓛 (cells (mem R) Q b p₃)) Others))
  apart =
      qed 𝓛 (‵ (cells (mem R) ((A ++ (P ++ D)) ++ (Q ++ Z)) b o) ∷ []) ∵
      use1 𝓛 (‵ (cells (mem R) (A ++ (P ++ D)) b o) ⊛ ‵ (cells (mem R) (Q ++ Z) b p₃)) (cut_app 𝓛 (mem R) (A ++ (P ++ D)) (Q ++ Z) b o) $ split ! $
      use1 𝓛 (‵ (cells (mem R) A b o) ⊛ ‵ (cells (mem R) (P ++ D) b p₁)) (cut_app 𝓛 (mem R) A (P ++ D) b o) $ split ! $ move ! (1 ∷ []) $
      use1 𝓛 (‵ (cells (mem R) P b p₁) ⊛ ‵ (cells (mem R) D b p₂)) (cut_app 𝓛 (mem R) P D b p₁) $ split ! $ move ! (3 ∷ []) $
      use1 𝓛 (‵ (cells (mem R) Q b p₃) ⊛ ‵ (cells (mem R) Z b p₄)) (cut_app 𝓛 (mem R) Q Z b p₃) $ split ! $ move ! (2 ∷ 0 ∷ 4 ∷ 3 ∷ 1 ∷ []) $ done !

  pub joined : (P' Q' : List R.Denot) → length P' ≡ length P → length Q' ≡ length Q
      → ent 𝓤 (sep 𝓤 (sem 𝓛 (cells (mem R) P' b p₁)) (sep 𝓤 (sem 𝓛 (cells (mem R) Q' b p₃)) Others)) (sem 𝓛 (cells (mem R) ((A ++ (P' ++ D)) ++ (Q' ++ Z)) b o))
  joined P' Q' e e' =
      let same : length (A ++ (P ++ D)) ≡ length (A ++ (P' ++ D)) =
      length-append A (P ++ D) ∙ ap (λ (k : ℕ). length A + k) (length-append P D ∙ ap (λ (k : ℕ). k + length D) (sym e) ∙ sym (length-append P' D)) ∙ sym (length-append A (P' ++ D)) in
      qed 𝓛 (‵ (cells (mem R) P' b p₁) ∷ ‵ (cells (mem R) Q' b p₃) ∷ ‵ (cells (mem R) A b o) ∷ ‵ (cells (mem R) D b p₂) ∷ ‵ (cells (mem R) Z b p₄) ∷ []) ∵
      move ! (0 ∷ 3 ∷ []) $ rewrite ! 1 (λ (k : ℕ). ‵ (cells (mem R) D b (at p₁ (mem R).size k))) (sym e) refl $
      use2 𝓛 (‵ (cells (mem R) (P' ++ D) b p₁)) (join_app 𝓛 (mem R) P' D b p₁) $ move ! (2 ∷ 0 ∷ []) $
      use2 𝓛 (‵ (cells (mem R) (A ++ (P' ++ D)) b o)) (join_app 𝓛 (mem R) A (P' ++ D) b o) $ move ! (1 ∷ 2 ∷ []) $
      rewrite ! 1 (λ (k : ℕ). ‵ (cells (mem R) Z b (at p₃ (mem R).size k))) (sym e') refl $
      use2 𝓛 (‵ (cells (mem R) (Q' ++ Z) b p₃)) (join_app 𝓛 (mem R) Q' Z b p₃) $ move ! (1 ∷ 0 ∷ []) $
      rewrite ! 1 (λ (k : ℕ). ‵ (cells (mem R) (Q' ++ Z) b (at o (mem R).size k))) same refl $
      use2 𝓛 (‵ (cells (mem R) ((A ++ (P' ++ D)) ++ (Q' ++ Z)) b o)) (join_app 𝓛 (mem R) (A ++ (P' ++ D)) (Q' ++ Z) b o) $ done !

-- where the parts lie, and that they come out of the whole and go back
pub record Cut {M : Type 1} {𝓤 : Ura M} (𝓛 : Logic 𝓤) (R : RattleType) (b o : ℕ) (xs r w : List R.Denot) (pr pw : ℕ) (G : List R.Denot → List R.Denot) : Type 2 where
  pub rest : SProp 𝓤
  pub out : ent 𝓤 (sem 𝓛 (cells (mem R) xs b o)) (sep 𝓤 (sem 𝓛 (cells (mem R) r b pr)) (sep 𝓤 (sem 𝓛 (cells (mem R) w b pw)) rest))
  pub back : (w' : List R.Denot) → length w' ≡ length w → ent 𝓤 (sep 𝓤 (sem 𝓛 (cells (mem R) w' b pw)) (sep 𝓤 (sem 𝓛 (cells (mem R) r b pr)) rest)) (sem 𝓛 (cells (mem R) (G w') b o))

module _ {M : Type 1} {𝓤 : Ura M} (𝓛 : Logic 𝓤) (R : RattleType) (b o : ℕ) (xs : List R.Denot) (i j n : ℕ) where
  abbrev size : ℕ
  size = (mem R).size

  -- the part to be read comes first
  read_first : i + n ≤ j → j + n ≤ length xs → Cut 𝓛 R b o xs (part i n xs) (part j n xs) (i * size + o) (j * size + o) (with_part j n xs)
  read_first h k =
      let A : List R.Denot = take i xs in
      let P : List R.Denot = part i n xs in
      let D : List R.Denot = drop_l (i + n) (take j xs) in
      let Q : List R.Denot = part j n xs in
      let Z : List R.Denot = drop_l (j + n) xs in
      let front : take j xs ≡ A ++ (P ++ D) = front_is i n j xs h in
      let la : length A ≡ i = length-take-le i xs (omega arith) in
      let lf : length (A ++ (P ++ D)) ≡ j = ap (λ (l : List R.Denot). length l) (sym front) ∙ length-take-le j xs (omega arith) in
      let on : p₁ 𝓛 R b o A P D Q Z ≡ i * size + o = at_mul o size (length A) ∙ ap (λ (m : ℕ). m * size + o) la in
      let on' : p₃ 𝓛 R b o A P D Q Z ≡ j * size + o = at_mul o size (length (A ++ (P ++ D))) ∙ ap (λ (m : ℕ). m * size + o) lf in
      let rest : SProp 𝓤 = Others 𝓛 R b o A P D Q Z in
      record {
        rest = rest;
        out =
            qed 𝓛 (‵ (cells (mem R) xs b o) ∷ []) ∵ rewrite ! 0 (λ (l : List R.Denot). ‵ (cells (mem R) l b o)) (whole_reads_first i j n xs h) refl $
            use1 𝓛 (‵ (cells (mem R) P b (p₁ 𝓛 R b o A P D Q Z)) ⊛ ‵ (cells (mem R) Q b (p₃ 𝓛 R b o A P D Q Z)) ⊛ raw rest) (apart 𝓛 R b o A P D Q Z) $ split3 ! $
            rewrite ! 0 (λ (m : ℕ). ‵ (cells (mem R) P b m)) on refl $ rewrite ! 1 (λ (m : ℕ). ‵ (cells (mem R) Q b m)) on' refl $ done !;
        back = λ w' e.
            qed 𝓛 (‵ (cells (mem R) w' b (j * size + o)) ∷ ‵ (cells (mem R) P b (i * size + o)) ∷ raw rest ∷ []) ∵
            rewrite ! 0 (λ (m : ℕ). ‵ (cells (mem R) w' b m)) (sym on') refl $ rewrite ! 1 (λ (m : ℕ). ‵ (cells (mem R) P b m)) (sym on) refl $ move ! (1 ∷ 0 ∷ []) $
            use3 𝓛 (‵ (cells (mem R) ((A ++ (P ++ D)) ++ (w' ++ Z)) b o)) (joined 𝓛 R b o A P D Q Z P w' refl e) $
            rewrite ! 0 (λ (l : List R.Denot). ‵ (cells (mem R) l b o)) (sym (reads_first i j n xs h k w' (e ∙ length-part j n xs k))) refl $ done !;
      }

  -- the part to be written comes first
  write_first : j + n ≤ i → i + n ≤ length xs → Cut 𝓛 R b o xs (part i n xs) (part j n xs) (i * size + o) (j * size + o) (with_part j n xs)
  write_first h k =
      let A : List R.Denot = take j xs in
      let P : List R.Denot = part j n xs in
      let D : List R.Denot = drop_l (j + n) (take i xs) in
      let Q : List R.Denot = part i n xs in
      let Z : List R.Denot = drop_l (i + n) xs in
      let front : take i xs ≡ A ++ (P ++ D) = front_is j n i xs h in
      let la : length A ≡ j = length-take-le j xs (omega arith) in
      let lf : length (A ++ (P ++ D)) ≡ i = ap (λ (l : List R.Denot). length l) (sym front) ∙ length-take-le i xs (omega arith) in
      let on : p₁ 𝓛 R b o A P D Q Z ≡ j * size + o = at_mul o size (length A) ∙ ap (λ (m : ℕ). m * size + o) la in
      let on' : p₃ 𝓛 R b o A P D Q Z ≡ i * size + o = at_mul o size (length (A ++ (P ++ D))) ∙ ap (λ (m : ℕ). m * size + o) lf in
      let rest : SProp 𝓤 = Others 𝓛 R b o A P D Q Z in
      record {
        rest = rest;
        out =
            qed 𝓛 (‵ (cells (mem R) xs b o) ∷ []) ∵ rewrite ! 0 (λ (l : List R.Denot). ‵ (cells (mem R) l b o)) (whole_writes_first i j n xs h) refl $
            use1 𝓛 (‵ (cells (mem R) P b (p₁ 𝓛 R b o A P D Q Z)) ⊛ ‵ (cells (mem R) Q b (p₃ 𝓛 R b o A P D Q Z)) ⊛ raw rest) (apart 𝓛 R b o A P D Q Z) $ split3 ! $
            rewrite ! 0 (λ (m : ℕ). ‵ (cells (mem R) P b m)) on refl $ rewrite ! 1 (λ (m : ℕ). ‵ (cells (mem R) Q b m)) on' refl $ move ! (1 ∷ 0 ∷ []) $ done !;
        back = λ w' e.
            qed 𝓛 (‵ (cells (mem R) w' b (j * size + o)) ∷ ‵ (cells (mem R) Q b (i * size + o)) ∷ raw rest ∷ []) ∵
            rewrite ! 0 (λ (m : ℕ). ‵ (cells (mem R) w' b m)) (sym on) refl $ rewrite ! 1 (λ (m : ℕ). ‵ (cells (mem R) Q b m)) (sym on') refl $
            use3 𝓛 (‵ (cells (mem R) ((A ++ (w' ++ D)) ++ (Q ++ Z)) b o)) (joined 𝓛 R b o A P D Q Z w' Q e refl) $
            rewrite ! 0 (λ (l : List R.Denot). ‵ (cells (mem R) l b o)) (sym (writes_first i j n xs h k w' (e ∙ length-part j n xs (omega arith)))) refl $ done !;
      }

  abbrev pub Asked : Type 0
  Asked = (i + n ≤ length xs) × (j + n ≤ length xs) × ((i + n ≤ j) ⊎ (j + n ≤ i))

  pub both : Asked → Cut 𝓛 R b o xs (part i n xs) (part j n xs) (i * size + o) (j * size + o) (with_part j n xs)
  both a = elim a.2 [ inl h ↦ read_first h a.1 | inr h ↦ write_first h a.0 ]

module _ {M : Type 1} {𝓤 : Ura M} (𝓛 : Logic 𝓤) (R : RattleType) (b o : ℕ) (xs : List R.Denot) (j n : ℕ) where
  abbrev step : ℕ
  step = (mem R).size

  -- the part comes out of the whole, with nothing to be read beside it
  pub alone : j + n ≤ length xs → Cut 𝓛 R b o xs [] (part j n xs) o (j * step + o) (with_part j n xs)
  alone k =
      let A : List R.Denot = take j xs in
      let Q : List R.Denot = part j n xs in
      let Z : List R.Denot = drop_l (j + n) xs in
      let la : length A ≡ j = length-take-le j xs (omega arith) in
      let on : p₃ 𝓛 R b o [] [] A Q Z ≡ j * step + o = at_mul o step (length A) ∙ ap (λ (m : ℕ). m * step + o) la in
      let rest : SProp 𝓤 = Others 𝓛 R b o [] [] A Q Z in
      record {
        rest = rest;
        out =
            qed 𝓛 (‵ (cells (mem R) xs b o) ∷ []) ∵ rewrite ! 0 (λ (l : List R.Denot). ‵ (cells (mem R) l b o)) (cut_in_three j n xs) refl $
            use1 𝓛 (‵ (cells (mem R) [] b (p₁ 𝓛 R b o [] [] A Q Z)) ⊛ ‵ (cells (mem R) Q b (p₃ 𝓛 R b o [] [] A Q Z)) ⊛ raw rest) (apart 𝓛 R b o [] [] A Q Z) $ split3 ! $
            rewrite ! 1 (λ (m : ℕ). ‵ (cells (mem R) Q b m)) on refl $ done !;
        back = λ w' e.
            qed 𝓛 (‵ (cells (mem R) w' b (j * step + o)) ∷ ‵ (cells (mem R) [] b o) ∷ raw rest ∷ []) ∵
            rewrite ! 0 (λ (m : ℕ). ‵ (cells (mem R) w' b m)) (sym on) refl $ move ! (1 ∷ 0 ∷ []) $
            use3 𝓛 (‵ (cells (mem R) (A ++ (w' ++ Z)) b o)) (joined 𝓛 R b o [] [] A Q Z [] w' refl e) $
            rewrite ! 0 (λ (l : List R.Denot). ‵ (cells (mem R) (A ++ (l ++ Z)) b o)) (sym (refit_is n Q w' (e ∙ length-part j n xs k))) refl $ done !;
      }
