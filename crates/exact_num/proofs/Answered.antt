-- What an answer behind a test says.
use Rattle.std.proofs.Common.{◌≡◌, Bool, true, false, refl, ap}
use Rattle.std.specs.Prelude.{Ok, Err, Some, None, if◌then◌else◌}
use Rattle.exact_num.specs.declared.misfit.Wide.{Wide}

-- an answer comes from its test, and is its value
pub record IsAnswer {A : Type 0} (b : Bool) (a s : A) : Type 0 where
  pub passed : b ≡ true
  pub value : a ≡ s

pub answer_is : {A : Type 0} (b : Bool) (a s : A) (w : Wide) → (if b then Ok a else Err w) ≡ Ok s → IsAnswer b a s
answer_is true a s w h = record { passed = refl; value = cc }
answer_is false a s w h = absurd cc

-- an answer with an error where the test fails, of one without a value
pub some_answers : {A : Type 0} (b : Bool) (w v : A) (m : Wide) → Some w ≡ (if b then Some v else None) → Ok w ≡ (if b then Ok v else Err m)
some_answers true w v m h = cc
some_answers false w v m h = cc

pub none_answers : {A : Type 0} (b : Bool) (v : A) (k m : Wide) → k ≡ m → None ≡ (if b then Some v else None) → Err k ≡ (if b then Ok v else Err m)
none_answers true v k m e h = cc
none_answers false v k m e h = ap Err e
