-- The first comma of a text.
use Rattle.std.proofs.Common.{◌≡◌, ◌==◌, ℕ, ◌+◌, true, List, [], ◌∷◌, ◌++◌, take, drop, get_or, All, Some, None, if◌then◌else◌, refl, sym, ap, ◌∙◌, arith}
use Rattle.std.proofs.lemmas.List.{take-append-drop, drop_more}
use Rattle.std.proofs.lemmas.List.Elements.{All-head, All-tail}
use Rattle.std.specs.Option.{option_map}
use Rattle.memchr.specs.Find.{IsFirstByte, is_byte}
use Rattle.live_lines.proofs.FirstByte.{IsOther, no_byte, others_before}
use Rattle.session_lines.specs.Messages.{at_comma}

-- behind bytes that are no comma
module _ (b : ℕ) (bs : List ℕ) (other : IsOther 44 b) where
  behind : at_comma (b ∷ bs) ≡ option_map (λ (parts : List ℕ × List ℕ). (b ∷ parts.0, parts.1)) (at_comma bs)
  behind = ap (λ t. if t then Some ([], bs) else option_map (λ (parts : List ℕ × List ℕ). (b ∷ parts.0, parts.1)) (at_comma bs)) other

at_first : (front : List ℕ) (b : ℕ) (rest : List ℕ) → (b == 44) ≡ true → All (IsOther 44) front → at_comma (front ++ b ∷ rest) ≡ Some (front, rest)
at_first [] b rest comma h = ap (λ t. if t then Some ([], rest) else option_map (λ (parts : List ℕ × List ℕ). (b ∷ parts.0, parts.1)) (at_comma rest)) comma
at_first (c ∷ front) b rest comma h =
    behind c (front ++ b ∷ rest) (All-head (IsOther 44) c front h)
    ∙ ap (option_map (λ (parts : List ℕ × List ℕ). (c ∷ parts.0, parts.1))) (at_first front b rest comma (All-tail (IsOther 44) c front h))

at_none : (bytes : List ℕ) → All (IsOther 44) bytes → at_comma bytes ≡ None
at_none [] h = refl
at_none (b ∷ bs) h = behind b bs (All-head (IsOther 44) b bs h) ∙ ap (option_map (λ (parts : List ℕ × List ℕ). (b ∷ parts.0, parts.1))) (at_none bs (All-tail (IsOther 44) b bs h))

pub comma_found : (bytes : List ℕ) (k : ℕ) → IsFirstByte (is_byte 44) bytes (Some k) → Some (take k bytes, drop (k + 1) bytes) ≡ at_comma bytes
comma_found bytes k first =
    let rest = drop (k + 1) bytes in
    let parts : bytes ≡ take k bytes ++ get_or bytes k 0 ∷ rest = sym (take-append-drop k bytes) ∙ ap (λ zs. take k bytes ++ zs) (drop_more bytes k 0 first.0.high) in
    sym (ap at_comma parts ∙ at_first (take k bytes) (get_or bytes k 0) rest first.1 (others_before 44 bytes k (omega (arith, first.0.high)) first.0.before))

pub no_comma : (bytes : List ℕ) → IsFirstByte (is_byte 44) bytes None → None ≡ at_comma bytes
no_comma bytes none = sym (at_none bytes (no_byte 44 bytes none))
