-- A plain text needs no escape.
use Rattle.std.proofs.Common.{◌≡◌, ℕ, ◌++◌, ◌∷◌, [], List, true, refl, ap₂, arith}
use Rattle.std.specs.List.{list_all}
use Rattle.std.proofs.lemmas.Bool.{and_parts}
use Rattle.std.proofs.lemmas.Bool.Decides.{nat_tests}
use Rattle.json.specs.Print.{escape, escape_byte}
use Rattle.reply_print.specs.Written.{is_plain, is_plain_byte}

escape-plain_byte : (b : ℕ) → is_plain_byte b ≡ true → escape_byte b ≡ b ∷ []
unfolding escape_byte
escape-plain_byte b h = grind (arith, nat_tests)

pub escape-plain : (s : List ℕ) → is_plain s ≡ true → escape s ≡ s
escape-plain [] h = refl
escape-plain (b ∷ s) h =
    let parts = and_parts (is_plain_byte b) (list_all is_plain_byte s) h in
    ap₂ (λ (a c : List ℕ). a ++ c) (escape-plain_byte b parts.0) (escape-plain s parts.1)
