-- Fronts of what is to be written.
use Rattle.std.proofs.Common.{◌≡◌, ℕ, suc, ◌+◌, List, [], ◌∷◌, ◌++◌, length, take, sym, ap, ◌∙◌, subst, arith, length-append, Option, Result, Ok, Err, OnErr}
use Rattle.std.proofs.KnownBytes.{Appends-nil, Appends-trans}
use Rattle.std.proofs.lemmas.List.{take-append-le, take_all}
use Rattle.std.specs.Io.KnownBytes.{Appends}
use Rattle.byte_streams.specs.Writes.{AppendsFront}

take_past : (told text : List ℕ) (n : ℕ) → take (length told + n) (told ++ text) ≡ told ++ take n text
take_past [] text n = let same : 0 + n ≡ n = omega arith in ap (λ k. take k text) same
take_past (x ∷ told) text n =
    let same : suc (length told) + n ≡ suc (length told + n) = omega arith in
    ap (λ k. take k (x ∷ (told ++ text))) same ∙ ap (λ l. x ∷ l) (take_past told text n)

-- behind what was written
pub front_behind : (old now new : Option (List ℕ)) (told text : List ℕ) → Appends old now told → AppendsFront now new text → AppendsFront old new (told ++ text)
front_behind old now new told text before h = (
  length told + h.0,
  omega (arith, h.1, length-append told text),
  subst (Appends old new) (sym (take_past told text h.0)) (Appends-trans old now new told (take h.0 text) before h.2),
)

-- all is a front
pub whole_front : (old new : Option (List ℕ)) (text : List ℕ) → Appends old new text → AppendsFront old new text
whole_front old new text adds = (length text, omega arith, subst (Appends old new) (sym (take_all (length text) text (omega arith))) adds)

-- nothing is a front
pub no_front : (now new : Option (List ℕ)) (text : List ℕ) → new ≡ now → AppendsFront now new text
no_front now new text same = (0, omega arith, subst (λ n. Appends now n []) (sym same) (Appends-nil now))

-- a front of a front
pub front_longer : (old new : Option (List ℕ)) (text all rest : List ℕ) → AppendsFront old new text → all ≡ text ++ rest → AppendsFront old new all
front_longer old new text all rest h is = (
  h.0,
  omega (arith, h.1, ap length is, length-append text rest),
  subst (λ l. Appends old new l) (sym (ap (take h.0) is ∙ take-append-le h.0 text rest h.1)) h.2,
)

-- what holds anyway holds of an error
pub on_err : {T E : Type 0} (r : Result T E) (P : Type 0) → P → OnErr r P
on_err (Ok x) P p = tt
on_err (Err e) P p = p
