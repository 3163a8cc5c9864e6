-- A line of bare bytes is to be read, and has no quotation mark.
use Rattle.std.proofs.Common.{◌≡◌, ℕ, ◌<◌, List, [], ◌∷◌, true, false, ◌==◌, refl, arith}
use Rattle.std.specs.List.{list_all, list_any}
use Rattle.std.specs.Str.{IsAscii}
use Rattle.std.proofs.lemmas.Bool.{and_parts}
use Rattle.std.proofs.lemmas.Bool.Decides.{nat_tests}
use Rattle.std.proofs.lemmas.Str.{IsUtf8-from_ascii, is_utf8-from_IsUtf8}
use Rattle.std.proofs.lemmas.Str.Ascii.{IsAscii-nil, IsAscii-cons}
use Rattle.command_text.specs.Fields.{begins_with_mark, is_bare, is_readable}

no_return : (line : List ℕ) → list_all is_bare line ≡ true → list_any (λ b. b == 13) line ≡ false
no_return [] bare = refl
no_return (b ∷ line) bare =
    let parts = and_parts (is_bare b) (list_all is_bare line) bare in
    let first : (b == 13) ≡ false = grind (arith, nat_tests, parts.0) in
    rw first (no_return line parts.1)

pub no_quote : (line : List ℕ) → list_all is_bare line ≡ true → list_any (λ b. b == 34) line ≡ false
no_quote [] bare = refl
no_quote (b ∷ line) bare =
    let parts = and_parts (is_bare b) (list_all is_bare line) bare in
    let first : (b == 34) ≡ false = grind (arith, nat_tests, parts.0) in
    rw first (no_quote line parts.1)

no_mark : (line : List ℕ) → list_all is_bare line ≡ true → begins_with_mark line ≡ false
no_mark [] bare = refl
no_mark (a ∷ []) bare = refl
no_mark (a ∷ b ∷ []) bare = refl
no_mark (a ∷ b ∷ c ∷ line) bare =
    let parts = and_parts (is_bare a) (list_all is_bare (b ∷ c ∷ line)) bare in
    let first : (a == 0xEF) ≡ false = grind (arith, nat_tests, parts.0) in
    rw first refl

ascii : (line : List ℕ) → list_all is_bare line ≡ true → IsAscii line
ascii [] bare = IsAscii-nil
ascii (b ∷ line) bare =
    let parts = and_parts (is_bare b) (list_all is_bare line) bare in
    let low : b < 128 = grind (arith, nat_tests, parts.0) in
    IsAscii-cons b line low (ascii line parts.1)

pub bare_is_readable : (line : List ℕ) → list_all is_bare line ≡ true → is_readable line ≡ true
bare_is_readable line bare =
    let text = is_utf8-from_IsUtf8 line (IsUtf8-from_ascii line (ascii line bare)) in
    rw (no_return line bare, no_mark line bare, text) refl
