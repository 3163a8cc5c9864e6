use Rattle.std.proofs.Common.{rules, ap, ap₂, refl, codes, map, string_bytes, ◌≡◌, ◌∙◌}
use Rattle.std.proofs.lemmas.Result.{IfErr-weaker, IfOk-weaker}
use Rattle.clap.specs.Matches.{found_of}
use Rattle.clap.specs.Walk.{rule_of, first_of}
use Rattle.clap.proofs.WalkLemmas.{first_value-rows}
use Rattle.clap.specs.Simple.{app_of, is_simple, matches_of, new_rule, with_rule}
use Rattle.clap.specs.Takes.{takes}
use Rattle.program_words.proofs.Matching.{word_rule, bare, command, simple, words_match}
use Rattle.program_words.proofs.places.arg_matches.Goals as goal

pub returns : goal.returns
returns c =
    let word_is : rule_of c.required-word.result ≡ word_rule = search rules in
    let second_is : rule_of c.new-second.result ≡ new_rule (codes "second") = search rules in
    let third_is : rule_of c.new-third.result ≡ new_rule (codes "third") = search rules in
    let bare_is : app_of c.disable_help_flag.result ≡ bare = search rules in
    let command_is : app_of c.in_ok-command.command ≡ command = c.in_ok-command.ensures.shape (search rules)
    ∙ ap₂ with_rule (c.in_ok-arg-2.ensures.shape (search rules) ∙ ap₂ with_rule (c.in_ok-arg.ensures.shape (search rules) ∙ ap₂ with_rule bare_is word_is) second_is) third_is in
    let words = map string_bytes c.args.words.now in
    let matched = words_match words c.requires in
    record {
      word = IfOk-weaker c.try_get_matches_from.result _ _ (λ m h.
          let rows = (h (ap is_simple command_is ∙ simple)).0 ∙ ap₂ matches_of command_is refl in
          first_value-rows (found_of m) (codes "word") ∙ ap (first_of (codes "word")) rows ∙ matched.1) c.try_get_matches_from.ensures.matches;
      second = IfOk-weaker c.try_get_matches_from.result _ _ (λ m h.
          let rows = (h (ap is_simple command_is ∙ simple)).0 ∙ ap₂ matches_of command_is refl in
          first_value-rows (found_of m) (codes "second") ∙ ap (first_of (codes "second")) rows ∙ matched.2) c.try_get_matches_from.ensures.matches;
      third = IfOk-weaker c.try_get_matches_from.result _ _ (λ m h.
          let rows = (h (ap is_simple command_is ∙ simple)).0 ∙ ap₂ matches_of command_is refl in
          first_value-rows (found_of m) (codes "third") ∙ ap (first_of (codes "third")) rows ∙ matched.3) c.try_get_matches_from.ensures.matches;
      memory = IfErr-weaker c.try_get_matches_from.result _ _ (λ e h. h (ap₂ takes command_is refl ∙ matched.0)) c.try_get_matches_from.ensures.passes;
    }
