-- The classes of a batch are distinct, and each option's class is among them.
use Rattle.std.proofs.Common.{◌≡◌, Bool, true, false, List, [], ◌∷◌, ◌++◌, ℤ, refl, sym, subst, All}
use Rattle.std.specs.Prelude.{if◌then◌else◌}
use Rattle.std.proofs.lemmas.Bool.{both_ways}
use Rattle.std.proofs.lemmas.List.Elements.{All-nil, All-cons}
use Rattle.form.specs.Vector.{is_same_option}
use Rattle.form.proofs.SameOption.{same_option_is, option_is_same}
use Rattle.cell_cover.specs.Classes.{class_of, is_among, with_classes}

abbrev pub Distinct : List (List ℤ) → Type 0
Distinct [] = Unit {0}
Distinct (c ∷ cs) = (is_among c cs ≡ false) × Distinct cs

-- the same test, whichever comes first
same_other_way : (u v : List ℤ) (b : Bool) → is_same_option u v ≡ b → is_same_option v u ≡ b
same_other_way u v true h = let e = same_option_is u v h in subst (λ w. is_same_option w u ≡ true) e (option_is_same u)
same_other_way u v false h = by_test (is_same_option v u) refl
  where
    by_test : (t : Bool) → is_same_option v u ≡ t → is_same_option v u ≡ false
    by_test false e = e
    by_test true e = let s = same_option_is v u e in absurd (both_ways (is_same_option u v) h (subst (λ w. is_same_option u w ≡ true) (sym s) (option_is_same u)))

-- ---- one more class
among_more : (u c : List ℤ) (cs : List (List ℤ)) → is_among u cs ≡ true → is_among u (cs ++ c ∷ []) ≡ true
among_more u c [] h = cc
among_more u c (d ∷ cs) h = by_test (is_same_option u d) refl (among_more u c cs)
  where
    by_test : (t : Bool) → is_same_option u d ≡ t → (is_among u cs ≡ true → is_among u (cs ++ c ∷ []) ≡ true) → (if is_same_option u d then true else is_among u (cs ++ c ∷ [])) ≡ true
    by_test true e go = rw e refl
    by_test false e go = rw e (go (rw e at h))

among_last : (c : List ℤ) (cs : List (List ℤ)) → is_among c (cs ++ c ∷ []) ≡ true
among_last c [] = rw (option_is_same c) refl
among_last c (d ∷ cs) = by_test (is_same_option c d) refl (among_last c cs)
  where
    by_test : (t : Bool) → is_same_option c d ≡ t → is_among c (cs ++ c ∷ []) ≡ true → (if is_same_option c d then true else is_among c (cs ++ c ∷ [])) ≡ true
    by_test true e go = rw e refl
    by_test false e go = rw e go

-- what is not among them is among them and one more only where it is that one
not_among_more : (u c : List ℤ) (cs : List (List ℤ)) → is_among u cs ≡ false → is_same_option u c ≡ false → is_among u (cs ++ c ∷ []) ≡ false
not_among_more u c [] h s = rw s refl
not_among_more u c (d ∷ cs) h s = by_test (is_same_option u d) refl (not_among_more u c cs)
  where
    by_test : (t : Bool) → is_same_option u d ≡ t → (is_among u cs ≡ false → is_same_option u c ≡ false → is_among u (cs ++ c ∷ []) ≡ false) → (if is_same_option u d then true else is_among u (cs ++ c ∷ [])) ≡ false
    by_test true e go = let n : true ≡ false = rw e at h in cc
    by_test false e go = rw e (go (rw e at h) s)

distinct_more : (c : List ℤ) (cs : List (List ℤ)) → Distinct cs → is_among c cs ≡ false → Distinct (cs ++ c ∷ [])
distinct_more c [] d n = (refl, tt)
distinct_more c (b ∷ cs) d n = by_test (is_same_option c b) refl (distinct_more c cs d.1)
  where
    by_test : (t : Bool) → is_same_option c b ≡ t → (is_among c cs ≡ false → Distinct (cs ++ c ∷ [])) → (is_among b (cs ++ c ∷ []) ≡ false) × Distinct (cs ++ c ∷ [])
    by_test true e go = let x : true ≡ false = rw e at n in cc
    by_test false e go = (not_among_more b c cs d.0 (same_other_way c b false e), go (rw e at n))

-- ---- all options
pub distinct : (cs vs : List (List ℤ)) → Distinct cs → Distinct (with_classes cs vs)
distinct cs [] d = d
distinct cs (v ∷ vs) d = by_test (is_among (class_of v) cs) refl (λ ds. distinct ds vs)
  where
    by_test : (t : Bool) → is_among (class_of v) cs ≡ t → ((ds : List (List ℤ)) → Distinct ds → Distinct (with_classes ds vs)) → Distinct (with_classes (if is_among (class_of v) cs then cs else cs ++ class_of v ∷ []) vs)
    by_test true e go = rw e (go cs d)
    by_test false e go = rw e (go (cs ++ class_of v ∷ []) (distinct_more (class_of v) cs d e))

still_among : (u : List ℤ) (cs vs : List (List ℤ)) → is_among u cs ≡ true → is_among u (with_classes cs vs) ≡ true
still_among u cs [] h = h
still_among u cs (v ∷ vs) h = by_test (is_among (class_of v) cs) refl (λ ds. still_among u ds vs)
  where
    by_test : (t : Bool) → is_among (class_of v) cs ≡ t → ((ds : List (List ℤ)) → is_among u ds ≡ true → is_among u (with_classes ds vs) ≡ true) → is_among u (with_classes (if is_among (class_of v) cs then cs else cs ++ class_of v ∷ []) vs) ≡ true
    by_test true e go = rw e (go cs h)
    by_test false e go = rw e (go (cs ++ class_of v ∷ []) (among_more u (class_of v) cs h))

abbrev pub IsAmong : List (List ℤ) → List ℤ → Type 0
IsAmong classes v = is_among (class_of v) classes ≡ true

pub all_among : (cs vs : List (List ℤ)) → All (IsAmong (with_classes cs vs)) vs
all_among cs [] = All-nil (IsAmong (with_classes cs []))
all_among cs (v ∷ vs) = by_test (is_among (class_of v) cs) refl (λ ds. all_among ds vs) (λ ds h. still_among (class_of v) ds vs h)
  where
    by_test : (t : Bool) → is_among (class_of v) cs ≡ t → ((ds : List (List ℤ)) → All (IsAmong (with_classes ds vs)) vs) → ((ds : List (List ℤ)) → is_among (class_of v) ds ≡ true → is_among (class_of v) (with_classes ds vs) ≡ true)
        → All (IsAmong (with_classes (if is_among (class_of v) cs then cs else cs ++ class_of v ∷ []) vs)) (v ∷ vs)
    by_test true e go stays = rw e (All-cons (IsAmong (with_classes cs vs)) v vs (stays cs e) (go cs))
    by_test false e go stays = rw e (All-cons (IsAmong (with_classes (cs ++ class_of v ∷ []) vs)) v vs (stays (cs ++ class_of v ∷ []) (among_last (class_of v) cs)) (go (cs ++ class_of v ∷ [])))
