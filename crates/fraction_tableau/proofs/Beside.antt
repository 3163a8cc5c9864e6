-- The pivot of a table whose basic variables stand in a list of their own.
use Rattle.std.proofs.Common.{◌≡◌, ℕ, zero, suc, ◌+◌, ◌<◌, List, [], ◌∷◌, length, set, refl, arith, ◌∙◌}
use Rattle.std.specs.Prelude.{Result, Ok, Err, get_or, slice_index_or}
use Rattle.std.proofs.lemmas.Bool.{eq-eqb, ne_eqb}
use Rattle.exact_num.specs.declared.misfit.Wide.{Wide}
use Rattle.exact_num.specs.Fraction.{Fraction}
use Rattle.exact_num.specs.Fits.{after, written_back}
use Rattle.simplex_run.specs.Table.{Row, Table, row_of, with_right, entries_at, basic_at}
use Rattle.simplex_run.specs.Pivot.{divided, eliminated, rows_after, after_pivot}
use Rattle.fraction_tableau.specs.Lists.{lists_after, lists_after_pivot}
use Rattle.fraction_tableau.specs.Candidates.{beside_basics, apart}

one_more : (b : ℕ) (bs : List ℕ) (q : Result (List Fraction) Wide) (rest : Result (List (List Fraction)) Wide)
    → after (after q (λ es. Ok (row_of b es))) (λ first. after (after rest (λ o. Ok (beside_basics bs o))) (λ others. Ok (first ∷ others)))
    ≡ after (after q (λ first. after rest (λ others. Ok (first ∷ others)))) (λ o. Ok (beside_basics (b ∷ bs) o))
one_more b bs (Ok es) (Ok o) = refl
one_more b bs (Ok es) (Err w) = refl
one_more b bs (Err w) rest = refl

module _ (L c : ℕ) (labels : List ℕ) (e r : ℕ) (P : List Fraction) where
  -- past the pivot row
  past : (bs : List ℕ) (lists : List (List Fraction)) (i : ℕ) → length bs ≡ length lists → r < i
      → rows_after L c labels e r P i (beside_basics bs lists) ≡ after (lists_after L c labels r P i lists) (λ o. Ok (beside_basics bs o))
  unfolding rows_after lists_after
  past [] [] i s p = refl
  past [] (xs ∷ lists) i s p = absurd (omega (arith, s))
  past (b ∷ bs) [] i s p = absurd (omega (arith, s))
  past (b ∷ bs) (xs ∷ lists) i s p =
      let t = ne_eqb i r (λ q. omega (arith, p, q)) in
      rw (t, past bs lists (i + 1) (omega (arith, s)) (omega (arith, p))) (one_more b bs (eliminated L c labels P xs) (lists_after L c labels r P (i + 1) lists))

  pub rows_beside : (bs : List ℕ) (lists : List (List Fraction)) (i j : ℕ) → length bs ≡ length lists → i + j ≡ r
      → rows_after L c labels e r P i (beside_basics bs lists) ≡ after (lists_after L c labels r P i lists) (λ o. Ok (beside_basics (set bs j e) o))
  unfolding rows_after lists_after
  rows_beside [] [] i j s p = refl
  rows_beside [] (xs ∷ lists) i j s p = absurd (omega (arith, s))
  rows_beside (b ∷ bs) [] i j s p = absurd (omega (arith, s))
  rows_beside (b ∷ bs) (xs ∷ lists) i zero s p =
      let t = eq-eqb i r (omega (arith, p)) in
      rw (t, past bs lists (i + 1) (omega (arith, s)) (omega (arith, p))) (one_more e bs (Ok P) (lists_after L c labels r P (i + 1) lists))
  rows_beside (b ∷ bs) (xs ∷ lists) i (suc j) s p =
      let t = ne_eqb i r (λ q. omega (arith, p, q)) in
      rw (t, rows_beside bs lists (i + 1) j (omega (arith, s)) (omega (arith, p))) (one_more b (set bs j e) (eliminated L c labels P xs) (lists_after L c labels r P (i + 1) lists))

pub entries_beside : (bs : List ℕ) (lists : List (List Fraction)) (r : ℕ) → length bs ≡ length lists → entries_at (beside_basics bs lists) r ≡ slice_index_or lists r []
entries_beside [] [] r s = refl
entries_beside [] (xs ∷ lists) r s = absurd (omega (arith, s))
entries_beside (b ∷ bs) [] r s = absurd (omega (arith, s))
entries_beside (b ∷ bs) (xs ∷ lists) zero s = refl
entries_beside (b ∷ bs) (xs ∷ lists) (suc r) s = entries_beside bs lists r (omega (arith, s))

pub basic_beside : (bs : List ℕ) (lists : List (List Fraction)) (r : ℕ) → length bs ≡ length lists → basic_at (beside_basics bs lists) r ≡ slice_index_or bs r 0
basic_beside [] lists r s = refl
basic_beside (b ∷ bs) [] r s = absurd (omega (arith, s))
basic_beside (b ∷ bs) (xs ∷ lists) zero s = refl
basic_beside (b ∷ bs) (xs ∷ lists) (suc r) s = basic_beside bs lists r (omega (arith, s))

abbrev table_with : ℕ → List ℕ → List Row → List Fraction → Result Table Wide
table_with columns labels rows objective = Ok (record { columns = columns; labels = labels; rows = rows; objective = objective })

-- the table made of what is done to the rows and to the objective row
made_of : (columns : ℕ) (labels basics : List ℕ) (q : Result (List (List Fraction)) Wide) (last : Result (List Fraction) Wide)
    → after (after q (λ o. Ok (beside_basics basics o))) (λ rows. after last (λ objective. table_with columns labels rows objective))
    ≡ after (after {B = List (List Fraction) × List Fraction} q (λ others. after last (λ l. Ok (others, l)))) (λ t. Ok (apart columns labels basics t.0 t.1))
made_of columns labels basics (Ok o) (Ok l) = refl
made_of columns labels basics (Ok o) (Err w) = refl
made_of columns labels basics (Err w) last = refl

-- l is the variable that leaves
pub pivoted_apart : (L c r l columns : ℕ) (labels basics : List ℕ) (lists : List (List Fraction)) (objective : List Fraction) → length basics ≡ length lists → slice_index_or basics r 0 ≡ l
    → after_pivot L c r (apart columns labels basics lists objective)
    ≡ after (lists_after_pivot L c (with_right columns (set labels c l)) r lists objective) (λ t. Ok (apart columns (set labels c l) (set basics r (get_or labels c 0)) t.0 t.1))
unfolding after_pivot
pivoted_apart L c r l columns labels basics lists objective s is_l =
    let b = basic_beside basics lists r s ∙ is_l in
    rw (entries_beside basics lists r s, b) (go (divided L c (with_right columns (set labels c l)) (slice_index_or lists r [])))
  where
    news : List ℕ
    news = with_right columns (set labels c l)

    go : (q : Result (List Fraction) Wide)
        → after q (λ pivot. after (rows_after L c (with_right columns (set labels c l)) (get_or labels c 0) r pivot 0 (beside_basics basics lists)) (λ rows. after (eliminated L c (with_right columns (set labels c l)) pivot objective) (λ o. table_with columns (set labels c l) rows o)))
        ≡ after (after {B = List (List Fraction) × List Fraction} q (λ pivot. after (lists_after L c (with_right columns (set labels c l)) r pivot 0 lists) (λ others. after (eliminated L c (with_right columns (set labels c l)) pivot objective) (λ l. Ok (others, l))))) (λ t. Ok (apart columns (set labels c l) (set basics r (get_or labels c 0)) t.0 t.1))
    go (Err w) = refl
    go (Ok P) = rw (rows_beside L c news (get_or labels c 0) r P basics lists 0 r s (omega arith)) (made_of columns (set labels c l) (set basics r (get_or labels c 0)) (lists_after L c news r P 0 lists) (eliminated L c news P objective))

pub written_apart : {T : Type 0} (columns : ℕ) (labels basics : List ℕ) (q : Result T Wide) (lists : List (List Fraction)) (objective : List Fraction)
    → written_back q (apart columns labels basics lists objective) ≡ after (written_back {A = List (List Fraction) × List Fraction} q (lists, objective)) (λ t. Ok (apart columns labels basics t.0 t.1))
written_apart columns labels basics (Ok t) lists objective = refl
written_apart columns labels basics (Err w) lists objective = refl
