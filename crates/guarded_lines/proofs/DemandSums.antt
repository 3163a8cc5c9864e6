-- What the markets of an account demand, one after another.
use Rattle.std.proofs.Common.{◌≡◌, ℕ, ◌+◌, ◌<◌, ◌≤◌, List, [], ◌∷◌, ◌++◌, map, drop, length, get_or, nat_le, Option, Some, None, Result, Ok, Err, if◌then◌else◌, refl, ap, sym, ◌∙◌, append-nil}
use Rattle.std.proofs.lemmas.List.{drop_all}
use Rattle.std.specs.Prelude.{unwrap_or}
use Rattle.std.specs.List.{sum}
use Rattle.arithmetic.proofs.Lists.{number_next}
use Rattle.exact_num.specs.Fraction.{Fraction}
use Rattle.frac.specs.Range.{limit as largest}
use Rattle.exchange_core.specs.ExchangeState.{ExchangeState}
use Rattle.proposal_text.specs.declared.needs.Need.{Need}
use Rattle.portfolio_margin.specs.declared.needs.Needed.{Needed}
use Rattle.portfolio_margin.specs.declared.needs.Needed.TheVariants.{Amount, Sum}
use Rattle.portfolio_margin.specs.Need.{Demand, Counted, demand_amount, demand_word, liability_or_word, demands_of, first_demand_word, first_word, need_of, or_word, demand_sum, sum_need, word_or}
use Rattle.guarded_lines.specs.Needs.{demand_in, need_as, liability_or_need}

-- ---- what margins demand, by the names here
abbrev pub renamed_demand : Counted → Demand Need
renamed_demand m = (liability_or_need (liability_or_word m.0), m.1)

abbrev pub renamed_demands : List Counted → List (Demand Need)
renamed_demands margins = map renamed_demand margins

part_is : (a : Result Fraction Needed) (count : ℕ) → demand_amount (liability_or_need a) count ≡ demand_amount a count
part_is (Ok L) count = refl
part_is (Err word) count = refl

parts_are : (margins : List Counted) → map (λ (a : Demand Need). demand_amount a.0 a.1) (renamed_demands margins) ≡ map (λ (a : Demand Needed). demand_amount a.0 a.1) (demands_of margins)
parts_are [] = refl
parts_are (m ∷ margins) = λ i. part_is (liability_or_word m.0) m.1 i ∷ parts_are margins i

sum_is : (margins : List Counted) → demand_sum (renamed_demands margins) ≡ sum_need margins
sum_is margins = ap (λ (n : ℕ). if nat_le n largest then Amount n else Sum) (ap sum (parts_are margins))

no_words : (margins : List Counted) → first_demand_word (renamed_demands margins) ≡ None → first_word margins ≡ None
no_words [] none = refl
no_words (m ∷ margins) none = by (liability_or_word m.0) none (no_words margins)
  where
    by : (a : Result Fraction Needed) → or_word (demand_word (liability_or_need a)) (first_demand_word (renamed_demands margins)) ≡ None
        → (first_demand_word (renamed_demands margins) ≡ None → first_word margins ≡ None) → or_word (demand_word a) (first_word margins) ≡ None
    by (Ok L) h later = later h
    by (Err word) h later = cc

-- where no margin demands by a word, the need is that of the margins
pub need_is : (margins : List Counted) (demands : List (Demand Need)) → renamed_demands margins ≡ demands → first_demand_word (renamed_demands margins) ≡ None
    → need_as (need_of margins) ≡ unwrap_or (first_demand_word demands) (need_as (demand_sum demands))
need_is margins demands are none =
    let words : need_as (need_of margins) ≡ need_as (sum_need margins) = ap (λ (w : Option Needed). need_as (word_or w (sum_need margins))) (no_words margins none) in
    let sums : need_as (demand_sum (renamed_demands margins)) ≡ need_as (sum_need margins) = ap need_as (sum_is margins) in
    let first : unwrap_or (first_demand_word (renamed_demands margins)) (need_as (demand_sum (renamed_demands margins))) ≡ need_as (demand_sum (renamed_demands margins)) =
    ap (λ (w : Option Need). unwrap_or w (need_as (demand_sum (renamed_demands margins)))) none in
    words ∙ sym sums ∙ sym first ∙ (λ i. unwrap_or (first_demand_word (are i)) (need_as (demand_sum (are i))))

-- ---- one market after another
or_three : (a b c : Option Need) → or_word (or_word a b) c ≡ or_word a (or_word b c)
or_three (Some word) b c = refl
or_three None b c = refl

words_of_both : (xs ys : List (Demand Need)) → first_demand_word (xs ++ ys) ≡ or_word (first_demand_word xs) (first_demand_word ys)
words_of_both [] ys = refl
words_of_both (x ∷ xs) ys = ap (or_word (demand_word x.0)) (words_of_both xs ys) ∙ sym (or_three (demand_word x.0) (first_demand_word xs) (first_demand_word ys))

-- a word decides where none stands before it
pub word_decides : (front later : List (Demand Need)) (all : List (Demand Need)) (demand : Demand Need) (word need : Need) → front ++ (demand ∷ later) ≡ all → first_demand_word front ≡ None
    → demand.0 ≡ Err word → word ≡ unwrap_or (first_demand_word all) need
word_decides front later all demand word need is none by_word =
    let here : first_demand_word (front ++ (demand ∷ later)) ≡ Some word =
    words_of_both front (demand ∷ later) ∙ (λ i. or_word (none i) (or_word (demand_word (by_word i)) (first_demand_word later))) in
    sym (ap (λ (l : List (Demand Need)). unwrap_or (first_demand_word l) need) (sym is) ∙ ap (λ (w : Option Need). unwrap_or w need) here)

pushed_demands : (margins : List Counted) (m : Counted) (later : List (Demand Need)) → renamed_demands (margins ++ m ∷ []) ++ later ≡ renamed_demands margins ++ (renamed_demand m ∷ later)
pushed_demands [] m later = refl
pushed_demands (x ∷ margins) m later = ap (λ (l : List (Demand Need)). renamed_demand x ∷ l) (pushed_demands margins m later)

-- and a margin that is least leaves it open
pub still_none : (margins : List Counted) (m : Counted) → first_demand_word (renamed_demands margins) ≡ None → demand_word (liability_or_need (liability_or_word m.0)) ≡ None
    → first_demand_word (renamed_demands (margins ++ m ∷ [])) ≡ None
still_none [] m none here = ap (λ (w : Option Need). or_word w None) here
still_none (x ∷ margins) m none here = by (demand_word (renamed_demand x).0) none (λ h. still_none margins m h here)
  where
    by : (w : Option Need) → or_word w (first_demand_word (renamed_demands margins)) ≡ None
        → (first_demand_word (renamed_demands margins) ≡ None → first_demand_word (renamed_demands (margins ++ m ∷ [])) ≡ None) → or_word w (first_demand_word (renamed_demands (margins ++ m ∷ []))) ≡ None
    by (Some word) h later = cc
    by None h later = later h

module _ (state : ExchangeState) (account : ℕ) (markets : List ℕ) (all : List (Demand Need)) where
  -- the margins so far, and what the markets demand that are left, are all
  abbrev pub AreLeft : List Counted → ℕ → Type 0
  AreLeft margins i = renamed_demands margins ++ map (demand_in state account) (drop i markets) ≡ all

  next_left : (margins : List Counted) (i : ℕ) → i < length markets → AreLeft margins i
      → renamed_demands margins ++ (demand_in state account (get_or markets i 0) ∷ map (demand_in state account) (drop (i + 1) markets)) ≡ all
  next_left margins i within left =
      sym (ap (λ (ms : List ℕ). renamed_demands margins ++ map (demand_in state account) ms) (number_next markets i within)) ∙ left

  pub still_left : (margins : List Counted) (m : Counted) (i : ℕ) → i < length markets → AreLeft margins i → liability_or_need (liability_or_word m.0) ≡ (demand_in state account (get_or markets i 0)).0
      → m.1 ≡ (demand_in state account (get_or markets i 0)).1 → AreLeft (margins ++ m ∷ []) (i + 1)
  still_left margins m i within left liability count =
      let later = map (demand_in state account) (drop (i + 1) markets) in
      pushed_demands margins m later ∙ (λ j. renamed_demands margins ++ ((liability j, count j) ∷ later)) ∙ next_left margins i within left

  -- at the end the margins are all
  pub none_left : (margins : List Counted) (i : ℕ) → length markets ≤ i → AreLeft margins i → renamed_demands margins ≡ all
  none_left margins i past left =
      sym (append-nil (renamed_demands margins)) ∙ ap (λ (ms : List ℕ). renamed_demands margins ++ map (demand_in state account) ms) (sym (drop_all i markets past)) ∙ left

  pub word_is : (margins : List Counted) (i : ℕ) (word need : Need) → i < length markets → AreLeft margins i → first_demand_word (renamed_demands margins) ≡ None
      → Err word ≡ (demand_in state account (get_or markets i 0)).0 → word ≡ unwrap_or (first_demand_word all) need
  word_is margins i word need within left none is =
      word_decides (renamed_demands margins) (map (demand_in state account) (drop (i + 1) markets)) all (demand_in state account (get_or markets i 0)) word need
      (next_left margins i within left) none (sym is)
