-- The first refusal of lists one behind another, and of refusals by other names.
use Rattle.std.proofs.Common.{◌≡◌, List, [], ◌∷◌, ◌++◌, Bool, true, false, if◌then◌else◌, Option, None, Some, IsSome, Result, Err, ◌⊎◌, ⊎_elim, refl, sym, ap, ◌∙◌}
use Rattle.std.specs.Option.{option_or, option_map_or}
use Rattle.lists.specs.Refusals.{first_of, refusal_in, by_name, TellsFirst}

pub first_of-append : {R : Type 0} (front back : List (Bool × R)) → first_of (front ++ back) ≡ option_or (first_of front) (first_of back)
first_of-append [] back = refl
first_of-append {R} (r ∷ front) back =
    let Goal : Bool → Type 0 = λ b. (if b then Some r.1 else first_of (front ++ back)) ≡ option_or (if b then Some r.1 else first_of front) (first_of back) in
    elim r.0 as Goal [ true ↦ refl | false ↦ first_of-append front back ]

-- where none is told, the first is not met, and the others tell none
pub first_unmet : {R : Type 0} (met : Bool) (first : R) (others : Option R) → (if met then Some first else others) ≡ None → (met ≡ false) × (others ≡ None)
first_unmet true first others none = cc
first_unmet false first others none = (refl, none)

-- where the list in front holds none, that behind it decides; and where neither does, both hold
-- none
pub first_behind : {R : Type 0} (front back : List (Bool × R)) → first_of front ≡ None → first_of (front ++ back) ≡ first_of back
first_behind front back none = first_of-append front back ∙ ap (λ r. option_or r (first_of back)) none

pub none_in_both : {R : Type 0} (front back : List (Bool × R)) → first_of (front ++ back) ≡ None → (first_of front ≡ None) × (first_of back ≡ None)
none_in_both {R} front back none = by (first_of front) (first_of back) (sym (first_of-append front back) ∙ none)
  where
    by : (r s : Option R) → option_or r s ≡ None → (r ≡ None) × (s ≡ None)
    by None s h = (refl, h)
    by (Some x) s h = cc

-- what is told of the list in front is told of both
pub first_in_front : {R : Type 0} (front back : List (Bool × R)) (refusal : R) → first_of front ≡ Some refusal → first_of (front ++ back) ≡ Some refusal
first_in_front front back refusal found = first_of-append front back ∙ ap (λ r. option_or r (first_of back)) found

-- ---- by other names
module _ {E R : Type 0} (name : E → Option R) where
  pub first_named : (refusals : List (Bool × E)) (error : E) (refusal : R) → name error ≡ Some refusal → first_of refusals ≡ Some error → first_of (by_name name refusals) ≡ Some refusal
  first_named [] error refusal is told = cc
  first_named (r ∷ others) error refusal is told = by r.0 told (name r.1) refl (first_named others error refusal is)
    where
      by : (b : Bool) → (if b then Some r.1 else first_of others) ≡ Some error → (o : Option R) → name r.1 ≡ o
          → (first_of others ≡ Some error → first_of (by_name name others) ≡ Some refusal)
          → first_of (option_map_or (λ s. (b, s) ∷ by_name name others) o (by_name name others)) ≡ Some refusal
      by true h None e later = let same : r.1 ≡ error = cc in let none : name r.1 ≡ Some refusal = ap name same ∙ is in cc
      by true h (Some s) e later = let same : r.1 ≡ error = cc in sym e ∙ ap name same ∙ is
      by false h None e later = later h
      by false h (Some s) e later = later h

  pub none_named : (refusals : List (Bool × E)) → first_of refusals ≡ None → first_of (by_name name refusals) ≡ None
  none_named [] none = refl
  none_named (r ∷ others) none = by r.0 none (name r.1) (none_named others)
    where
      by : (b : Bool) → (if b then Some r.1 else first_of others) ≡ None → (o : Option R)
          → (first_of others ≡ None → first_of (by_name name others) ≡ None)
          → first_of (option_map_or (λ s. (b, s) ∷ by_name name others) o (by_name name others)) ≡ None
      by true h o later = cc
      by false h None later = later h
      by false h (Some s) later = later h

  -- where each refusal has a name
  abbrev pub AreNamed : List (Bool × E) → Type 0
  AreNamed [] = Unit {0}
  AreNamed (r ∷ others) = IsSome (name r.1) × AreNamed others

  pub none_unnamed : (refusals : List (Bool × E)) → AreNamed refusals → first_of (by_name name refusals) ≡ None → first_of refusals ≡ None
  none_unnamed [] are none = refl
  none_unnamed (r ∷ others) are none = by r.0 (name r.1) are.0 none (none_unnamed others are.1)
    where
      by : (b : Bool) (o : Option R) → IsSome o → first_of (option_map_or (λ s. (b, s) ∷ by_name name others) o (by_name name others)) ≡ None
          → (first_of (by_name name others) ≡ None → first_of others ≡ None) → (if b then Some r.1 else first_of others) ≡ None
      by b None there h later = cc
      by true (Some s) there h later = cc
      by false (Some s) there h later = later h

-- ---- the error of a call as the error of the call above it
-- memory is the one error without a name, and stays so
pub record IsAlike {E F R : Type 0} (own : E → Option E) (memory : E) (name : F → Option R) (failure : E → F) (error : E) : Type 0 where
  pub alike : ((error ≡ memory) × (own error ≡ None) × (name (failure error) ≡ None)) ⊎ ((own error ≡ Some error) × (r : R) × (name (failure error) ≡ Some r))

module _ {E F R T S : Type 0} (own : E → Option E) (memory : E) (name : F → Option R) (failure : E → F) (told : Result T E) (answer : Result S F) (error : E)
    (like : IsAlike own memory name failure error) (was : told ≡ Err error) (is : answer ≡ Err (failure error)) where
  answer_named : refusal_in name answer ≡ name (failure error)
  answer_named = ap (refusal_in name) is

  -- what is told below is told above, by its name
  pub told_named : (refusals : List (Bool × E)) → TellsFirst own told refusals → TellsFirst name answer (by_name (λ e. name (failure e)) refusals)
  told_named refusals first =
      let told_below : own error ≡ first_of refusals = ap (refusal_in own) (sym was) ∙ first in
      ⊎_elim
      (λ (h : (error ≡ memory) × (own error ≡ None) × (name (failure error) ≡ None)). answer_named ∙ h.2 ∙ sym (none_named (λ e. name (failure e)) refusals (sym told_below ∙ h.1)))
      (λ (h : (own error ≡ Some error) × (r : R) × (name (failure error) ≡ Some r)). answer_named ∙ h.2 ∙ sym (first_named (λ e. name (failure e)) refusals error h.1 h.2 (sym told_below ∙ h.0)))
      like.alike

  -- and whatever is tried behind it
  pub told_in_front : (refusals : List (Bool × E)) (back : List (Bool × R)) → (told ≡ Err memory → ⊥) → TellsFirst own told refusals
      → TellsFirst name answer (by_name (λ e. name (failure e)) refusals ++ back)
  told_in_front refusals back other first =
      ⊎_elim
      (λ (h : (error ≡ memory) × (own error ≡ None) × (name (failure error) ≡ None)). absurd (other (was ∙ ap Err h.0)))
      (λ (h : (own error ≡ Some error) × (r : R) × (name (failure error) ≡ Some r)).
      let same = sym (told_named refusals first) ∙ answer_named ∙ h.2 in
      answer_named ∙ h.2 ∙ sym (first_in_front (by_name (λ e. name (failure e)) refusals) back h.1 same))
      like.alike
