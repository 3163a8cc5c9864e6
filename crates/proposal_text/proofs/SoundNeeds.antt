-- What an account needs is within its range, where it is taken out of a line.
use Rattle.std.proofs.Common.{ℕ, ◌≤◌, pos, int_le, unsigned_abs, List, option_and_then, codes, arith}
use Rattle.std.specs.Str.{bytes_eq}
use Rattle.frac.specs.Range.{limit}
use Rattle.serde_json.specs.Data.{Data}
use Rattle.reply_print.specs.Look.{word_at}
use Rattle.reply_text.specs.BatchValues.{whole_from}
use Rattle.reply_text.specs.ReplyValues.{not_below}
use Rattle.reply_text.proofs.Sound.{Sound, after, mapped, either, where_true, at_key, whole_sound}
use Rattle.proposal_text.specs.declared.needs.Need.TheVariants as need
use Rattle.proposal_text.specs.Needs.{IsNeedWithin, need_at, need_by, size_at}

held : (bound : ℕ) (d : Data) → Sound (λ z. unsigned_abs z ≤ bound) (option_and_then not_below (whole_from bound d))
held bound d =
    after (λ z. unsigned_abs z ≤ bound) (λ z. unsigned_abs z ≤ bound) not_below (whole_from bound d) (whole_sound bound d)
    (λ z h. where_true (λ y. unsigned_abs y ≤ bound) (int_le (pos 0) z) z (λ e. h))

pub size_sound : (bound : ℕ) (key : List ℕ) (d : Data) → Sound (λ n. n ≤ bound) (size_at bound key d)
size_sound bound key d =
    mapped (λ z. unsigned_abs z ≤ bound) (λ n. n ≤ bound) unsigned_abs _ (at_key (λ z. unsigned_abs z ≤ bound) key (λ e. option_and_then not_below (whole_from bound e)) d (held bound)) (λ z h. h)

by_word : (word : List ℕ) (d : Data) → Sound IsNeedWithin (need_by word d)
by_word word d =
    either IsNeedWithin (bytes_eq word (codes "positions")) _ _ tt
    (either IsNeedWithin (bytes_eq word (codes "unbounded")) _ _ tt
    (either IsNeedWithin (bytes_eq word (codes "wide")) _ _ tt
    (either IsNeedWithin (bytes_eq word (codes "budget")) _ _ tt
    (either IsNeedWithin (bytes_eq word (codes "sum")) _ _ tt (mapped (λ n. n ≤ limit) IsNeedWithin need.Amount _ (size_sound limit (codes "need") d) (λ n h. omega (arith, h)))))))

pub need_sound : (d : Data) → Sound IsNeedWithin (need_at d)
need_sound d = by_word (word_at (codes "need") d) d
