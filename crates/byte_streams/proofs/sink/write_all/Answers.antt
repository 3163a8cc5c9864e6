use Rattle.std.proofs.Common.{rules, arith, ◌≡◌, ◌+◌, ◌≤◌, zero, suc, [], ◌∷◌, List, ℕ, Option, take, drop, subst, sym, refl, ap}
use Rattle.std.proofs.Math.Seq.{take-add}
use Rattle.std.proofs.KnownBytes.{Appends-trans}
use Rattle.std.specs.Io.KnownBytes.{Appends}
use Rattle.byte_streams.proofs.sink.write_all.Goals as goal

front_of_front : (n m : ℕ) (xs : List ℕ) → n ≤ m → take n (take m xs) ≡ take n xs
front_of_front zero m xs le = refl
front_of_front (suc n) zero xs le = absurd (omega arith)
front_of_front (suc n) (suc m) [] le = refl
front_of_front (suc n) (suc m) (x ∷ xs) le = ap (λ (l : List ℕ). x ∷ l) (front_of_front n m xs (omega arith))

-- what was sent, and then what a write took of the rest
more : (a b c : Option (List ℕ)) (sent count size : ℕ) (piece : List ℕ) → count ≤ size → Appends a b (take sent piece) → Appends b c (take count (take size (drop sent piece))) → Appends a c (take (sent + count) piece)
more a b c sent count size piece le before now =
    subst (Appends a c) (sym (take-add sent count piece)) (Appends-trans a b c _ _ before (subst (Appends b c) (front_of_front count size (drop sent piece) le) now))

pub loop-sent-preserved : goal.loop-sent-preserved
loop-sent-preserved g c = record {
  short = search rules;
  wrote = more _ _ _ c.loop-sent.sent c.in-Took.count _ c.args.piece.now (search rules) c.loop-sent.invariant.wrote c.in-Took.ensures.bytes;
  calm = search rules;
}
