-- The entries of a form, as a loop writes them.
use Rattle.std.proofs.Common.{◌≡◌, ℕ, ◌+◌, ◌<◌, ◌≤◌, List, ◌∷◌, length, get_or, set, take, sym, ◌∙◌, arith, ℤ, pos}
use Rattle.std.proofs.lemmas.List.{take_all}
use Rattle.std.proofs.lemmas.Grind.{common_steps}

-- the first entry and i of the others are written, and the rest are 0
pub record IsFilledTo (first : ℤ) (rest entries : List ℤ) (i : ℕ) : Type 0 where
  pub nine : length entries ≡ 9
  pub front : take (i + 1) entries ≡ first ∷ take i rest
  pub zeros : (k : ℕ) → i + 1 ≤ k → get_or entries k (pos 0) ≡ pos 0

-- one entry more
pub filled_more : (first : ℤ) (rest entries : List ℤ) (i : ℕ) (x : ℤ) → IsFilledTo first rest entries i → i < length rest → length rest ≤ 8
    → x ≡ get_or rest i (pos 0) → IsFilledTo first rest (set entries (i + 1) x) (i + 1)
filled_more first rest entries i x filled within few is = record {
  nine = grind (arith, common_steps, filled.nine);
  front = grind (arith, common_steps, filled.front, filled.nine);
  zeros = λ k le. grind (arith, common_steps, filled.zeros k);
}

-- the first i of the entries are written, and the rest are 0
pub record IsWrittenTo (target entries : List ℤ) (i : ℕ) : Type 0 where
  pub nine : length entries ≡ 9
  pub front : take i entries ≡ take i target
  pub zeros : (k : ℕ) → i ≤ k → get_or entries k (pos 0) ≡ pos 0

pub written_more : (target entries : List ℤ) (i : ℕ) (x : ℤ) → IsWrittenTo target entries i → i < length target → length target ≤ 9
    → x ≡ get_or target i (pos 0) → IsWrittenTo target (set entries i x) (i + 1)
written_more target entries i x written within few is = record {
  nine = grind (arith, common_steps, written.nine);
  front = grind (arith, common_steps, written.front, written.nine);
  zeros = λ k le. grind (arith, common_steps, written.zeros k);
}

pub written_all : (target entries : List ℤ) (i : ℕ) → IsWrittenTo target entries i → 9 ≤ i → length target ≡ 9 → entries ≡ target
written_all target entries i written all nine =
    sym (take_all i entries (omega (arith, written.nine))) ∙ written.front ∙ take_all i target (omega arith)
