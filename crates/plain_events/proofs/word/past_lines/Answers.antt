use Rattle.plain_events.proofs.Elements.{gap_after}
use Rattle.plain_events.proofs.word.past_lines.Goals as goal

pub returns : goal.returns
returns c d = gap_after (c.past_line_feed.ensures d) (c.past_white.ensures d)
