use Rattle.std.proofs.Common.{[], ◌∷◌, ◌++◌, ap, refl, ◌∙◌}
use Rattle.wide_cas_register.proofs.Copies.{first_facts}
use Rattle.wide_cas_register.proofs.kept.Kept.start.Goals as goal

pub returns : goal.returns
returns c = first_facts _ c.start.result refl c.new.ensures.items (c.in_ok-push.ensures.items ∙ ap (λ l. l ++ c.start.result ∷ []) c.new-rows.ensures.items) c.start.ensures
