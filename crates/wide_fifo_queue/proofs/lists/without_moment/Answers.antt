use Rattle.std.proofs.Common.{rules, ap, ◌∙◌}
use Rattle.std.specs.List.{filter}
use Rattle.std.proofs.lemmas.Fn.{filter_same}
use Rattle.wide_fifo_queue.specs.Facts.{is_other_moment}
use Rattle.wide_fifo_queue.proofs.lists.without_moment.Goals as goal

pub returns : goal.returns
returns c = filter_same _ _ _ (λ x b f' k. search rules) _ _ c.retain.ensures.filtered ∙ ap (filter (is_other_moment c.args.moment)) c.in_ok-others.ensures.items
