use Rattle.std.proofs.Common.{arith, ◌≡◌, ◌+◌, ◌-◌, ◌++◌, List, ℕ, length, take, drop, sym, ap, ◌∙◌, take-append-drop, length-drop}
use Rattle.std.proofs.lemmas.List.{drop-drop, take_all}
use Rattle.byte_streams.proofs.memory.MemSourceSource.read.Goals as goal

-- what is left is what was copied, and the rest
copied : (left buf bytes slice : List ℕ) (given count : ℕ) → drop given bytes ≡ left → slice ≡ bytes → take count buf ≡ take count (take (length slice - given) (drop given slice)) → left ≡ take count buf ++ drop (given + count) bytes
copied left buf bytes slice given count is same front =
    let whole : take (length slice - given) (drop given slice) ≡ drop given slice = take_all _ _ (omega (arith, length-drop given slice)) in
    sym is ∙ sym (take-append-drop count (drop given bytes)) ∙ (λ i. sym (front ∙ ap (take count) (whole ∙ ap (drop given) same)) i ++ drop-drop count given bytes i)

pub returns-clause-bytes : goal.returns-clause-bytes
returns-clause-bytes g c = copied _ _ _ _ _ _ (ap (λ f. f.left) c.self.view_is) c.deref-2.ensures.value c.copy_front.ensures
