use Rattle.std.proofs.Common.{◌≡◌, ◌++◌, ◌==◌, map, ap, ◌∙◌, rules}
use Rattle.std.proofs.lemmas.Iterator.{YieldsList-from_map_by, YieldsList-from_take}
use Rattle.std.proofs.lemmas.Iterator.Adapters.{fact_from_extend}
use Rattle.std.proofs.lemmas.Iterator.Consumers.{YieldsList-at}
use Rattle.std.proofs.lemmas.Iterator.Splits.{YieldsList-from_slice_split}
use Rattle.std.proofs.lemmas.Result.{IfOk-at_ok}
use Rattle.std.specs.List.{slice_split}
use Rattle.command_text.specs.Fields.{first_of_many, without_quotes}
use Rattle.command_text.proofs.field_lists.first_texts.Goals as goal

pub returns : goal.returns
returns c =
    let cut = YieldsList-from_slice_split _ (λ b. b == 44) c.args.line.now c.split.ensures.rest c.split.ensures.done c.split.ensures.closure (search rules) in
    let bare = YieldsList-from_map_by {s = c.map-pieces.result} _ (λ f. f.now) without_quotes (YieldsList-at c.map-pieces.ensures.source cut) c.map-pieces.ensures.closure (λ x r q call. search rules) in
    let road = YieldsList-from_take {s = c.take.result} 52 (YieldsList-at c.take.ensures.source bare) c.take.ensures.count in
    let Q : Type 0 = map (λ p. p.now) c.extend.new.self.items ≡ first_of_many (map without_quotes (slice_split (λ b. b == 44) c.args.line.now)) in
    IfOk-at_ok (λ _. Q) c.in_ok-extend.was
    (fact_from_extend (λ p. p.now) c.extend.result c.extend.ensures.ran (λ it is. YieldsList-at is road) (λ xs all put. ap (map (λ p. p.now)) (put.0 ∙ ap (λ l. l ++ xs) c.in_ok-fields.ensures.items) ∙ all))
