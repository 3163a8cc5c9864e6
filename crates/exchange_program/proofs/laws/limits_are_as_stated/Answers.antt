use Rattle.std.proofs.Common.{refl}
use Rattle.exchange_program.proofs.laws.limits_are_as_stated.Goals as goal

pub returns : goal.returns
returns c = record { lines = λ mode. refl; journals = λ journal. refl; sessions = refl; demo = λ seed count. refl; accounts = refl; markets = refl; batches = refl }
