-- Of an account its owner is told, and the operator, and no other.
use Rattle.std.proofs.Common.{◌≡◌, ◌||◌, ℕ, false, refl, sym, subst}
use Rattle.members.specs.Laws.{OthersAreToldNothing}
use Rattle.members.specs.Members.{Owned, owns}
use Rattle.members.specs.Rule.{is_operator}

neither : (owners : Owned) (session account : ℕ) → owns owners session account ≡ false → is_operator session ≡ false → (owns owners session account || is_operator session) ≡ false
neither owners session account other member = cc

pub others_are_told_nothing : OthersAreToldNothing
others_are_told_nothing owners session account other member =
    let no = neither owners session account other member in
    record {
      balance = (no, no);
      positions = λ market. (no, no);
      margin = λ request is. (refl, subst (λ a. (owns owners session a || is_operator session) ≡ false) (sym is) no);
      need = (refl, no);
    }
