use Rattle.std.proofs.Common.{◌≡◌, Some, IfSome, true, sym, subst}
use Rattle.harness.specs.Setups.{setup_of}
use Rattle.check_command.proofs.Recording.{checks_none, checks_held}
use Rattle.check_command.proofs.check.check_file.Goals as goal

pub returns-in-Ok : goal.returns-in-Ok
returns-in-Ok g c =
    let held = g.X.Opens.holds c.args.rt.now c.args.path.now in (
      _,
      _,
      checks_held (setup_of c.args.config) held _ _ _ _ _ _ _ _
          (subst (λ f. IfSome held (λ bytes. g.X.Opened.Read.remaining f ≡ Some bytes)) (sym c.new.ensures.inner) c.in-Ok.ensures) c.check_text.ensures,
    )

pub returns-in-Err : goal.returns-in-Err
returns-in-Err g c =
    let (told, which, tells) = c.tell.ensures in
    let held = g.X.Opens.holds c.args.rt.now c.args.path.now in
    (held, true, checks_none (setup_of c.args.config) held _ _ _ _ _ told which tells)
