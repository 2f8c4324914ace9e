use Rattle.std.proofs.Common.{Some, [], ◌∷◌, rules, subst, sym}
use Rattle.std.specs.List.{Contains}
use Rattle.std.proofs.lemmas.List.Elements.{Contains-append_left, Contains-push}
use Rattle.wide_register.specs.Facts.{IsPut}
use Rattle.wide_register.proofs.next.put_both.Goals as goal

pub returns-in_ok-push-2-clause-behind : goal.returns-in_ok-push-2-clause-behind
returns-in_ok-push-2-clause-behind c =
    let is : IsPut c.args.write c.args.row.now.state c.args.moment (Some c.args.value) c.args.done c.args.row.now c.in_ok-put.field-0 = search rules in
    let first : Contains c.push.new.self.items c.in_ok-put.field-0 = subst (λ l. Contains l c.in_ok-put.field-0) (sym c.in_ok-push.ensures.items) (Contains-push c.args.made.now.items c.in_ok-put.field-0) in
    (c.in_ok-put.field-0, subst (λ l. Contains l c.in_ok-put.field-0) (sym c.in_ok-push-2.ensures.items) (Contains-append_left c.push.new.self.items (c.in_ok-put-2.field-0 ∷ []) c.in_ok-put.field-0 first), is)

pub returns-in_ok-push-2-clause-before : goal.returns-in_ok-push-2-clause-before
returns-in_ok-push-2-clause-before c t =
    let is : IsPut c.args.write (Some c.args.value) c.args.row.now.door c.args.row.now.state c.args.done c.args.row.now c.in_ok-put-2.field-0 = search rules in
    (c.in_ok-put-2.field-0, subst (λ l. Contains l c.in_ok-put-2.field-0) (sym c.in_ok-push-2.ensures.items) (Contains-push c.push.new.self.items c.in_ok-put-2.field-0), is)

pub returns-else-may_before-clause-behind : goal.returns-else-may_before-clause-behind
returns-else-may_before-clause-behind c =
    let is : IsPut c.args.write c.args.row.now.state c.args.moment (Some c.args.value) c.args.done c.args.row.now c.in_ok-put.field-0 = search rules in
    let first : Contains c.push.new.self.items c.in_ok-put.field-0 = subst (λ l. Contains l c.in_ok-put.field-0) (sym c.in_ok-push.ensures.items) (Contains-push c.args.made.now.items c.in_ok-put.field-0) in
    (c.in_ok-put.field-0, first, is)
