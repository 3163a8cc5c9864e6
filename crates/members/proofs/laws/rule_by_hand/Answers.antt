use Rattle.std.proofs.Common.{refl}
use Rattle.form.specs.BundleOf.{bundle_one}
use Rattle.form.specs.FormOf.{form_of}
use Rattle.members.proofs.laws.rule_by_hand.Goals as goal

pub returns : goal.returns
unfolding form_of bundle_one
returns c = record {
  owner = refl;
  deposit = refl;
  by_operator = refl;
  withdraw = refl;
  buy = refl;
  own_buy = refl;
  order = refl;
  cancel = refl;
  balance = refl;
  told = refl;
  positions = refl;
  operator = refl;
  clear = refl;
  open_again = refl;
  account_exists = refl;
  owner_stays = refl;
  house = refl;
  house_told = refl;
  own = refl;
  close = refl;
  close_by_operator = refl;
  reopen = refl;
  reopen_by_operator = refl;
  margin = refl;
  margin_asked = refl;
  margin_of_another = refl;
  need = refl;
  need_asked = refl;
  need_of_another = refl;
  need_by_operator = refl;
  secure = refl;
  secure_another = refl;
  secure_by_operator = refl;
  tenth = refl;
}
