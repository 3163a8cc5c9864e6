use Rattle.std.proofs.Common.{◌≡◌, ◌+◌, ◌<◌, ◌++◌, Bool, true, false, List, [], ◌∷◌, ℤ, length, map, take, rules, arith, ap, sym, ◌∙◌, to_z, of_z}
use Rattle.std.proofs.lemmas.Int.{fits_signed_from_abs, to_z-of_z}
use Rattle.std.proofs.lemmas.List.{length-map, map-append}
use mir.Syntax.{w128}
use Rattle.arithmetic.proofs.Lists.{item_of}
use Rattle.form.specs.Payoff.{BundleLeg, bundle_legs, leg_of, legs_in, option_of}
use Rattle.account_need.specs.declared.sums.FormSum.{FormSum}
use Rattle.account_need.specs.Prices.{option_sum}
use Rattle.account_need.specs.Rounded.{each_once, option_in, options_at, options_of, sum_of}
use Rattle.account_need.proofs.HeldSums.{looked_at, options_back, sum_from_here}
use Rattle.account_need.proofs.EachOnce.{has, once_more, with_by}
use Rattle.account_need.proofs.held.add_sums.Goals as goal
use Rattle.account_need.proofs.held.add_sums.Goals.{then-not-has+in_ok-push, else-not-has}

pub loop-leg-preserved : goal.loop-leg-preserved
loop-leg-preserved c =
    let left = c.args.left.now in
    let legs = legs_in c.args.bundle.now in
    let all = bundle_legs c.args.bundle.now in
    let os = options_of all in
    let i = c.loop-leg.leg-index in
    let leg = c.leg-item.result in
    let u = option_of leg.form in
    let lt : i < length legs = search rules in
    let lt2 : i < length all = omega (arith, lt, length-map legs leg_of) in
    let lt3 : i < length os = omega (arith, lt2, length-map all (λ (leg : BundleLeg). leg.option)) in
    let is = item_of (λ (leg : BundleLeg). leg.option) all i (leg_of leg) lt2 (item_of leg_of legs i leg lt (search rules)) in
    let sums = c.loop-leg.sums.items in
    let found : c.has.result ≡ has (map option_in (map option_sum sums)) u = c.has.ensures ∙ ap (λ (xs : List FormSum). has (map option_in (map option_sum xs)) u) c.deref.ensures.value in
    let more = c.if-not-has.sums.items in
    λ before start.
    let f = sum_of (before ++ left) in
    let so_far = c.loop-leg.invariant before start in
    let options = options_at before ++ take i os in
    let known : has (map option_in (map option_sum sums)) u ≡ has (each_once options) u = ap (λ (xs : List (List ℤ)). has xs u) (ap (map option_in) so_far ∙ options_back (before ++ left) (each_once options)) in
    let there : (b : Bool) → has (map option_in (map option_sum sums)) u ≡ b → each_once (options_at before ++ take (i + 1) os) ≡ with_by b (each_once options) u =
    λ b e. ap each_once (sym (looked_at (options_at before) os i u lt3 is)) ∙ once_more options u ∙ ap (λ (t : Bool). with_by t (each_once options) u) (sym known ∙ e) in
    elim c.if-not-has.branch [
      | then-not-has+in_ok-push w ↦
          let none = sym found ∙ w.if-not-has.true in
          let s = w.sum_of-sum.result in
          let x : FormSum = record { form = leg.form; sum = to_z w128 (of_z w128 s) } in
          let new : more ≡ sums ++ x ∷ [] = (λ j. (w.sums-is j).items) ∙ w.in_ok-push.ensures.items in
          let bits : to_z w128 (of_z w128 s) ≡ s = to_z-of_z w128 s (fits_signed_from_abs w128 s (omega (arith, w.sum_of-sum.ensures.small, c.requires.few))) in
          let sum : option_sum x ≡ f u = sum_from_here u before left (take i os) (to_z w128 (of_z w128 s)) (sym known ∙ none) (bits ∙ w.sum_of-sum.ensures.sum) in
          ap (map option_sum) new
          ∙ map-append option_sum sums (x ∷ [])
          ∙ (λ j. so_far j ++ sum j ∷ [])
          ∙ sym (map-append f (each_once options) (u ∷ []))
          ∙ ap (map f) (sym (there false none))
      | else-not-has w ↦
          let same : more ≡ sums = search rules in
          ap (map option_sum) same ∙ so_far ∙ ap (map f) (sym (there true (sym found ∙ w.if-not-has.false)))
    ]
