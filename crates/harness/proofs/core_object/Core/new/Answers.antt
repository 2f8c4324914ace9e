use Rattle.std.proofs.Common.{◌≡◌}
use Rattle.std.specs.Vec.{vec_capacity}
use Rattle.std.proofs.lemmas.Result.{err_from_is_err_and}
use Rattle.machine.specs.Machine.{Machine, opening}
use Rattle.harness.specs.Setups.{setup_of}
use Rattle.harness.specs.SoundCore.{machine_of}
use Rattle.harness.proofs.Opening.{not_stored, opened, declines_to_open}
use Rattle.harness.proofs.core_object.Core.new.Goals as goal

pub returns-in_err-store-clause-refused : goal.returns-in_err-store-clause-refused
returns-in_err-store-clause-refused c =
    let setup = setup_of c.args.config in
    let r = c.from_residual-in_err-store.result in
    let (e, same, from) = err_from_is_err_and r c.from_residual-in_err-store.ensures.1 in
    declines_to_open r e c.in_err-store.field-0.0 setup same from (not_stored setup c.in_err-store.field-0.0 c.in_ok-check.ensures.within c.in_err-store.ensures.refused)

pub invariant_of-result : goal.invariant_of-result
invariant_of-result c =
    let monitor_is = c.in_ok-monitor.ensures.opened in
    let store_is = c.in_ok-store.ensures.opened in
    let m : Machine = machine_of c.in_ok-monitor.monitor c.new-3.result c.args.config.schedule c.in_ok-store.store c.new-4.result.items in
    let same : m ≡ opening (setup_of c.args.config) = λ i. machine_of (monitor_is i) (c.new-3.ensures i) c.args.config.schedule (store_is i) (c.new-4.ensures.items i) in
    opened (setup_of c.args.config) m (vec_capacity c.new-4.result) c.in_ok-check.ensures.within same
