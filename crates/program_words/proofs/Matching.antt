-- The command matches each list of positional words, word by word.
use Rattle.std.proofs.Common.{◌≡◌, ℕ, List, [], ◌∷◌, true, false, not, slice_get, nat_eq, ◌==◌, codes, None, ◌&&◌, true≢false, refl, sym, arith}
use Rattle.std.proofs.lemmas.Bool.Decides.{nat_tests}
use Rattle.std.proofs.lemmas.Bool.{and_parts}
use Rattle.clap.specs.Walk.{Rule, Text, first_of}
use Rattle.clap.specs.Simple.{App, is_simple, matches_of, new_app, new_rule, with_rule}
use Rattle.clap.specs.Lexer.{strip_byte}
use Rattle.clap.specs.Takes.{takes}
use Rattle.clap.proofs.OnLiterals.{clap_on_literals}
use Rattle.program_words.specs.Positional.{is_plain, are_positional}

abbrev pub word_rule : Rule
word_rule = record (new_rule (codes "word")) { required = true }

abbrev pub bare : App
bare = let a = new_app (codes "exchange") in record a { top = record a.top { no_binary_name = true; disable_help_flag = true } }

abbrev pub command : App
command = with_rule (with_rule (with_rule bare word_rule) (new_rule (codes "second"))) (new_rule (codes "third"))

pub simple : is_simple command ≡ true
unfolding clap_on_literals
simple = refl

-- the command takes the words, each at its place
abbrev pub IsMatched : List Text → Type 0
IsMatched words =
    (takes command words ≡ true)
    × (first_of (codes "word") (matches_of command words) ≡ slice_get words 0)
    × (first_of (codes "second") (matches_of command words) ≡ slice_get words 1)
    × (first_of (codes "third") (matches_of command words) ≡ slice_get words 2)

strip : (b : ℕ) (bs : Text) → nat_eq b 45 ≡ false → strip_byte 45 (b ∷ bs) ≡ None
strip b bs e = rw e refl

no_hyphen : (b : ℕ) → not (b == 45) ≡ true → nat_eq b 45 ≡ false
no_hyphen b e = grind (arith, nat_tests)

one : (a : Text) → is_plain a ≡ true → IsMatched (a ∷ [])
unfolding clap_on_literals
one [] ae = (refl, refl, refl, refl)
one (a ∷ at) ae = let an = no_hyphen a ae in rw (an, strip a at an) (refl, refl, refl, refl)

two : (a b : Text) → is_plain a ≡ true → is_plain b ≡ true → IsMatched (a ∷ b ∷ [])
unfolding clap_on_literals
two [] [] ae be = (refl, refl, refl, refl)
two (a ∷ at) [] ae be = let an = no_hyphen a ae in rw (an, strip a at an) (refl, refl, refl, refl)
two [] (b ∷ bt) ae be = let bn = no_hyphen b be in rw (bn, strip b bt bn) (refl, refl, refl, refl)
two (a ∷ at) (b ∷ bt) ae be = let an = no_hyphen a ae in let bn = no_hyphen b be in rw (an, strip a at an, bn, strip b bt bn) (refl, refl, refl, refl)

three : (a b c : Text) → is_plain a ≡ true → is_plain b ≡ true → is_plain c ≡ true → IsMatched (a ∷ b ∷ c ∷ [])
unfolding clap_on_literals
three [] [] [] ae be ce = (refl, refl, refl, refl)
three (a ∷ at) [] [] ae be ce = let an = no_hyphen a ae in rw (an, strip a at an) (refl, refl, refl, refl)
three [] (b ∷ bt) [] ae be ce = let bn = no_hyphen b be in rw (bn, strip b bt bn) (refl, refl, refl, refl)
three (a ∷ at) (b ∷ bt) [] ae be ce = let an = no_hyphen a ae in let bn = no_hyphen b be in rw (an, strip a at an, bn, strip b bt bn) (refl, refl, refl, refl)
three [] [] (c ∷ ct) ae be ce = let cn = no_hyphen c ce in rw (cn, strip c ct cn) (refl, refl, refl, refl)
three (a ∷ at) [] (c ∷ ct) ae be ce = let an = no_hyphen a ae in let cn = no_hyphen c ce in rw (an, strip a at an, cn, strip c ct cn) (refl, refl, refl, refl)
three [] (b ∷ bt) (c ∷ ct) ae be ce = let bn = no_hyphen b be in let cn = no_hyphen c ce in rw (bn, strip b bt bn, cn, strip c ct cn) (refl, refl, refl, refl)
three (a ∷ at) (b ∷ bt) (c ∷ ct) ae be ce =
    let an = no_hyphen a ae in
    let bn = no_hyphen b be in
    let cn = no_hyphen c ce in
    rw (an, strip a at an, bn, strip b bt bn, cn, strip c ct cn) (refl, refl, refl, refl)

pub words_match : (words : List Text) → are_positional words ≡ true → IsMatched words
words_match [] e = absurd (true≢false (sym e))
words_match (a ∷ []) e = one a e
words_match (a ∷ b ∷ []) e = let h = and_parts (is_plain a) (is_plain b) e in two a b h.0 h.1
words_match (a ∷ b ∷ c ∷ []) e =
    let h = and_parts (is_plain a) (is_plain b && is_plain c) e in
    let k = and_parts (is_plain b) (is_plain c) h.1 in
    three a b c h.0 k.0 k.1
words_match (a ∷ b ∷ c ∷ d ∷ more) e = absurd (true≢false (sym e))
