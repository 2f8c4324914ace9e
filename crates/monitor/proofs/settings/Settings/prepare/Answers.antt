use Rattle.std.proofs.Common.{◌≡◌, sym, subst}
use Rattle.linspec.specs.JudgedHistory.{kind_of, budget_of}
use Rattle.monitor.specs.declared.settings.Setting.{Setting}
use Rattle.monitor.specs.Settings.{with_setting}
use Rattle.monitor.proofs.SetKeys.{kind_is_set, budget_is_set}
use Rattle.monitor.proofs.settings.Settings.prepare.Goals as goal

pub returns-in_ok-reserve-in-Kind-clause-kind : goal.returns-in_ok-reserve-in-Kind-clause-kind
returns-in_ok-reserve-in-Kind-clause-kind c = subst (λ (s : Setting). c.in-Kind.kind ≡ kind_of (with_setting c.args.key s c.args.self.now.opening) c.args.key) (sym c.in-Kind.is) (kind_is_set c.args.key c.in-Kind.kind c.args.self.now.opening)

pub returns-in_ok-reserve-in-Budget-clause-budget : goal.returns-in_ok-reserve-in-Budget-clause-budget
returns-in_ok-reserve-in-Budget-clause-budget c = subst (λ (s : Setting). c.in-Budget.n ≡ budget_of (with_setting c.args.key s c.args.self.now.opening) c.args.key) (sym c.in-Budget.is) (budget_is_set c.args.key c.in-Budget.n c.args.self.now.opening)
