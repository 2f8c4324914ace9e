use Rattle.line_loop.proofs.OneCut.{one_reply_text_law}
use Rattle.line_loop.proofs.laws.one_reply_text.Goals as goal

pub returns : goal.returns
returns g c = one_reply_text_law g.M.LineMachine.may_reply c.requires
