use Rattle.std.proofs.Common.{◌≡◌, Some, IfSome, true, [], inr, inl, refl, sym, subst}
use Rattle.edn.specs.declared.refusal.Refusal.TheVariants.{ReadFailed}
use Rattle.check_command.proofs.Recording.{reads_none}
use Rattle.confirm_command.specs.declared.found.Found.TheVariants.{RefusedOrder}
use Rattle.confirm_command.proofs.Confirmed.{confirms, confirms_held}
use Rattle.confirm_command.proofs.confirming.confirm_input.Goals as goal

pub returns-in-Ok : goal.returns-in-Ok
returns-in-Ok g c =
    let held = g.X.Opens.holds c.args.rt.now c.args.order_path.now in (
      _,
      _,
      confirms_held c.args.concurrency c.args.kind held _ _ _ held _ _ _ _ _ _ _ _
          (subst (λ f. IfSome held (λ bytes. g.X.Opened.Read.remaining f ≡ Some bytes)) (sym c.new.ensures.inner) c.in-Ok.ensures) c.confirm_text.ensures,
    )

pub returns-in-Err : goal.returns-in-Err
returns-in-Err g c =
    let (told, which, tells) = c.tell.ensures in
    let left = g.R.Read.remaining c.args.reader.now in
    let held = g.X.Opens.holds c.args.rt.now c.args.order_path.now in (
      held,
      true,
      confirms c.args.concurrency c.args.kind left left _ held held true _ _ _ _ _
          [] (reads_none left) [] (reads_none held) (RefusedOrder ReadFailed) (inr (inr (inl (refl, refl)))) told which tells,
    )
