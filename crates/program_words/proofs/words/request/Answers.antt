use Rattle.std.specs.Prelude.{Option, IfSome}
use Rattle.std.proofs.lemmas.Result.{IfOk-weaker}
use Rattle.std.proofs.Common.{subst, ◌≡◌, map, string_bytes, ◌∙◌, rules}
use Rattle.program_words.specs.Positional.{request_in}
use Rattle.program_words.specs.declared.requests.Request.{Request}
use Rattle.program_words.specs.Requests.{request_of, IsRequestWithin}
use Rattle.program_words.proofs.RequestsWithin.{requests_are_within}
use Rattle.program_words.proofs.Forms.{by_place, told_ok, told_usage}
use Rattle.program_words.proofs.words.request.Goals as goal

asked : (c : goal.After-ok_or) → c.request_in.result ≡ request_of (map string_bytes c.args.words.now)
asked c =
    let places = c.in_ok-word.ensures in
    c.request_in.ensures ∙ (λ i. request_in (places.word i) (places.second i) (places.third i)) ∙ by_place (map string_bytes c.args.words.now) (search rules)

pub returns-clause-ok : goal.returns-clause-ok
returns-clause-ok c = told_ok c.request_in.result c.ok_or.result (map string_bytes c.args.words.now) c.ok_or.ensures.value (asked c)

pub returns-clause-usage : goal.returns-clause-usage
returns-clause-usage c = told_usage c.request_in.result c.ok_or.result (map string_bytes c.args.words.now) c.ok_or.ensures.value (asked c)

pub returns-clause-within : goal.returns-clause-within
returns-clause-within c =
    IfOk-weaker c.ok_or.result _ _ (λ (r : Request) h. subst (λ (o : Option Request). IfSome o IsRequestWithin) h (requests_are_within (map string_bytes c.args.words.now))) (returns-clause-ok c)
