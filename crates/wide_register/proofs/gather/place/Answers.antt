use Rattle.std.proofs.Common.{◌∙◌, inr, subst, sym}
use Rattle.std.specs.List.{Contains}
use Rattle.std.proofs.lemmas.Bool.{true≢false}
use Rattle.wide_register.proofs.Gathering.{just_joined, pushed_other}
use Rattle.wide_register.proofs.gather.place.Goals as goal

pub returns-clause-without_it : goal.returns-clause-without_it
returns-clause-without_it c =
    let id = c.args.id in
    pushed_other c.args.halves.now.without.items c.push-2.new.self.items c.args.row id c.in_ok-push-2.ensures.items
    (λ n. true≢false (sym (c.has_id-needed.ensures.1 (subst (λ l. Contains l id) (sym c.deref.ensures.value) n)) ∙ c.if-needed.false))

pub returns-clause-placed : goal.returns-clause-placed
returns-clause-placed c = inr (just_joined c.args.halves.now.without.items c.push-2.new.self.items c.args.row c.in_ok-push-2.ensures.items)
