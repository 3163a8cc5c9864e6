-- Replies to lines that are refused.
use Rattle.exchange_core.specs.declared.refusal.Refusal.{Refusal}
use Rattle.reply_print.specs.declared.replies.Reply.{Reply}
use Rattle.reply_print.specs.declared.replies.Reply.TheVariants.{Refused}
use Rattle.exchange_core.specs.Refusal.{field_of, number_of}

-- the reply to a line that is refused
abbrev pub refused_with : Refusal → Reply
refused_with refusal = Refused (number_of refusal) (field_of refusal)
