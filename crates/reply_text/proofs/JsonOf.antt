-- Whether a text reads as a value.
use Rattle.std.proofs.Common.{◌≡◌, ℕ, List, Bool, true, false, Some, None, refl}
use Rattle.std.specs.Str.{is_utf8, IsUtf8}
use Rattle.std.proofs.lemmas.Str.{is_utf8-from_IsUtf8, IsUtf8-from_is_utf8}
use Rattle.serde_json.specs.Data.{Data}
use Rattle.serde_json.specs.Read.{read}
use Rattle.reply_text.specs.Tests.{json_of}

pub json_from : (text : List ℕ) (d : Data) → IsUtf8 text → read text ≡ Some d → json_of text ≡ Some d
json_from text d u e = rw (is_utf8-from_IsUtf8 text u) e

no_json_if : (b : Bool) (text : List ℕ) → is_utf8 text ≡ b → (IsUtf8 text → read text ≡ None) → json_of text ≡ None
no_json_if true text e h = rw e (h (IsUtf8-from_is_utf8 text e))
no_json_if false text e h = rw e refl

pub no_json : (text : List ℕ) → (IsUtf8 text → read text ≡ None) → json_of text ≡ None
no_json text h = no_json_if (is_utf8 text) text refl h
