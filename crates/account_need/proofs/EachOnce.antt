-- Options, each once, as a loop finds them.
use Rattle.std.proofs.Common.{◌≡◌, Bool, true, false, cond, List, [], ◌∷◌, ◌++◌, filter, ℤ, refl, ap, sym, subst, ◌∙◌}
use mathlib.Core.Bool.{not}
use Rattle.std.specs.Prelude.{◌||◌}
use Rattle.std.specs.List.{list_any}
use Rattle.std.proofs.lemmas.List.{append-nil}
use Rattle.std.proofs.lemmas.List.Elements.{filter-append}
use Rattle.form.specs.Vector.{is_same_option}
use Rattle.form.proofs.SameOption.{same_option_is, option_is_same}
use Rattle.account_need.specs.Rounded.{each_once}

abbrev pub has : List (List ℤ) → List ℤ → Bool
has options v = list_any (λ w. is_same_option w v) options

abbrev pub with_by : Bool → List (List ℤ) → List ℤ → List (List ℤ)
with_by there options v = cond there options (options ++ v ∷ [])

abbrev pub with_option : List (List ℤ) → List ℤ → List (List ℤ)
with_option options v = with_by (has options v) options v

abbrev without : List ℤ → List (List ℤ) → List (List ℤ)
without x options = filter (λ w. not (is_same_option w x)) options

turned_same : (x v : List ℤ) → is_same_option x v ≡ true → is_same_option v x ≡ true
turned_same x v e = subst (λ (y : List ℤ). is_same_option y x ≡ true) (same_option_is x v e) (option_is_same x)

turned_other : (x v : List ℤ) → is_same_option x v ≡ false → is_same_option v x ≡ false
turned_other x v other = by (is_same_option v x) refl
  where
    by : (b : Bool) → is_same_option v x ≡ b → is_same_option v x ≡ false
    by true e = let turned : is_same_option x v ≡ true = turned_same v x e in cc
    by false e = e

-- another option is not taken out
has_without : (x v : List ℤ) (options : List (List ℤ)) → is_same_option x v ≡ false → has (without x options) v ≡ has options v
has_without x v [] other = refl
has_without x v (w ∷ options) other = by (is_same_option w x) refl (has_without x v options other)
  where
    by : (b : Bool) → is_same_option w x ≡ b → has (without x options) v ≡ has options v → has (cond (not b) (w ∷ without x options) (without x options)) v ≡ has (w ∷ options) v
    by true e h =
        let no : is_same_option w v ≡ false = subst (λ (y : List ℤ). is_same_option y v ≡ false) (sym (same_option_is w x e)) other in
        h ∙ ap (λ (b : Bool). b || has options v) (sym no)
    by false e h = ap (λ (b : Bool). is_same_option w v || b) h

one_left : (x v : List ℤ) (b : Bool) → is_same_option v x ≡ b → without x (v ∷ []) ≡ cond (not b) (v ∷ []) []
one_left x v b e = ap (λ (c : Bool). cond (not c) (v ∷ []) []) e

step : (x v : List ℤ) (E : List (List ℤ)) → x ∷ without x (with_option E v) ≡ with_option (x ∷ without x E) v
step x v E = by (is_same_option x v) refl (has E v) refl
  where
    all : List (List ℤ)
    all = x ∷ without x E

    start : (c : Bool) → has E v ≡ c → x ∷ without x (with_option E v) ≡ x ∷ without x (with_by c E v)
    start c h = ap (λ (b : Bool). x ∷ without x (with_by b E v)) h

    end : (c : Bool) → has (x ∷ without x E) v ≡ c → with_option (x ∷ without x E) v ≡ with_by c (x ∷ without x E) v
    end c h = ap (λ (b : Bool). with_by b (x ∷ without x E) v) h

    added : (b : Bool) → is_same_option v x ≡ b → x ∷ without x (E ++ v ∷ []) ≡ x ∷ (without x E ++ cond (not b) (v ∷ []) [])
    added b e = ap (λ (options : List (List ℤ)). x ∷ options) (filter-append (λ w. not (is_same_option w x)) E (v ∷ []) ∙ ap (λ (options : List (List ℤ)). without x E ++ options) (one_left x v b e))

    here : is_same_option x v ≡ true → has (x ∷ without x E) v ≡ true
    here e = ap (λ (b : Bool). b || has (without x E) v) e

    later : is_same_option x v ≡ false → has (x ∷ without x E) v ≡ has E v
    later e = ap (λ (b : Bool). b || has (without x E) v) e ∙ has_without x v E e

    by : (b : Bool) → is_same_option x v ≡ b → (c : Bool) → has E v ≡ c → x ∷ without x (with_option E v) ≡ with_option (x ∷ without x E) v
    by true e true h = start true h ∙ sym (end true (here e))
    by true e false h = start false h ∙ added true (turned_same x v e) ∙ ap (λ (options : List (List ℤ)). x ∷ options) (append-nil (without x E)) ∙ sym (end true (here e))
    by false e true h = start true h ∙ sym (end true (later e ∙ h))
    by false e false h = start false h ∙ added false (turned_other x v e) ∙ sym (end false (later e ∙ h))

-- one option more
pub once_more : (xs : List (List ℤ)) (v : List ℤ) → each_once (xs ++ v ∷ []) ≡ with_option (each_once xs) v
once_more [] v = refl
once_more (x ∷ xs) v = ap (λ (options : List (List ℤ)). x ∷ without x options) (once_more xs v) ∙ step x v (each_once xs)

-- and each of them is still there
pub has_once : (options : List (List ℤ)) (v : List ℤ) → has (each_once options) v ≡ has options v
has_once [] v = refl
has_once (x ∷ options) v = by (is_same_option x v) refl (has_once options v)
  where
    by : (b : Bool) → is_same_option x v ≡ b → has (each_once options) v ≡ has options v → has (each_once (x ∷ options)) v ≡ has (x ∷ options) v
    by true e h = ap (λ (b : Bool). b || has (without x (each_once options)) v) e ∙ sym (ap (λ (b : Bool). b || has options v) e)
    by false e h = ap (λ (b : Bool). is_same_option x v || b) (has_without x v (each_once options) e ∙ h)
