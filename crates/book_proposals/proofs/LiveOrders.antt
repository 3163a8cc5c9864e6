-- Orders that are read, as the live orders of a market.
use Rattle.std.proofs.Common.{◌≡◌, ◌+◌, Bool, get_or, true}
use Rattle.std.proofs.lemmas.List.Elements.{All-from_recursion, All-weaker}
use Rattle.std.proofs.lemmas.List.Sums.{AllPass-from_list_all, list_all-from_AllPass}
use Rattle.form.specs.declared.orders.Batch.{Batch}
use Rattle.form.specs.declared.orders.Order.{Order}
use Rattle.form.specs.Bundles.{is_on_count}
use Rattle.form.specs.Limits as limits
use Rattle.form.proofs.BundleLegs.{on_count-from, on_count-true}
use Rattle.cert_check.specs.Shape.{forms_have}
use Rattle.reply_print.specs.Within.{IsBatchWithin, IsOrderWithin}
use Rattle.proposal_text.specs.Within.{AreRising}

module _ (batch : Batch) where
  abbrev on_it : Order → Bool
  on_it order = is_on_count (batch.underlyings + 1) order.bundle

  pub live : IsBatchWithin batch → forms_have (batch.underlyings + 1) batch.orders ≡ true → AreRising batch.orders
      → limits.IsWithinLimits batch
  live ranges on rise = record {
    has_forms = record {
      some = ranges.0.0;
      few = ranges.0.1;
      forms = λ k d lt.
          on_count-from (batch.underlyings + 1) (get_or batch.orders k d).bundle (AllPass-from_list_all on_it batch.orders on k d lt);
    };
    orders_fit = ranges.1;
    ids_rise = rise;
    orders_within = All-weaker IsOrderWithin limits.IsOrderWithin (λ order within. within.2) batch.orders
        (All-from_recursion IsOrderWithin batch.orders ranges.2);
  }

  pub live_forms : limits.IsWithinLimits batch → forms_have (batch.underlyings + 1) batch.orders ≡ true
  live_forms within =
      list_all-from_AllPass on_it batch.orders
      (λ k d lt. on_count-true (batch.underlyings + 1) (get_or batch.orders k d).bundle (within.has_forms.forms k d lt))
