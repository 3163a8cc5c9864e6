-- A list that is filled up with zeros to nine entries.
use Rattle.std.proofs.Common.{◌≡◌, ℕ, ◌-◌, ◌≤◌, ◌++◌, min, max, List, length, take, replicate, get_or, ℤ, pos, inl, inr, ◌∙◌, length-append, arith}
use Rattle.std.proofs.lemmas.Bool.{cases_lt}
use Rattle.std.proofs.lemmas.List.{get_or-take, get_or-replicate, get_or_past, length-take-le}
use Rattle.std.proofs.Math.Seq.{get_or-append_right}

pub padded_range : (v : List ℤ) → (2 ≤ max 2 (min 9 (length v))) × (max 2 (min 9 (length v)) ≤ 9)
padded_range v = (omega arith, omega arith)

pub padded_length : (v : List ℤ) → length (take 9 (v ++ replicate 9 (pos 0))) ≡ 9
padded_length v = length-take-le 9 (v ++ replicate 9 (pos 0)) (omega (arith, length-append v (replicate 9 (pos 0))))

pub padded_zeros : (v : List ℤ) (i : ℕ) → max 2 (min 9 (length v)) ≤ i → get_or (take 9 (v ++ replicate 9 (pos 0))) i (pos 0) ≡ pos 0
padded_zeros v i past = elim (cases_lt i 9) [
  | inl within ↦
      let zeros = replicate 9 (pos 0) in
      get_or-take 9 (v ++ zeros) i (pos 0) within
      ∙ get_or-append_right v zeros i (pos 0) (omega arith)
      ∙ get_or-replicate 9 (i - length v) (pos 0) (pos 0) (omega arith)
  | inr behind ↦ get_or_past (take 9 (v ++ replicate 9 (pos 0))) i (pos 0) (omega (arith, padded_length v))
]
