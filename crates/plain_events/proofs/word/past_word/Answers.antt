use Rattle.plain_events.proofs.Words.{word_from}
use Rattle.plain_events.proofs.word.past_word.Goals as goal

pub returns : goal.returns
returns c = word_from _ _ _ c.past_end.result c.in_ok-behind.ensures c.past_end.ensures.ends c.past_end.ensures.gap
