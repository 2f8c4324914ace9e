use Rattle.std.proofs.Common.{sym, subst, to_z, of_z, w64, ◌≡◌}
use Rattle.std.proofs.lemmas.Int.{to_z-of_z}
use Rattle.wide_fifo_queue.specs.Queries.{IsWithoutFirst, IsWaitingBut}
use Rattle.wide_fifo_queue.proofs.known.Known.waiting_but.Goals as goal

pub returns-in_ok-row-in-Some : goal.returns-in_ok-row-in-Some
returns-in_ok-row-in-Some c = subst (λ d. IsWaitingBut c.args.self.now.waiting c.args.value d c.in_ok-row-in-Some.row) (sym c.in-Some.is) c.in_ok-row-in-Some.ensures

pub returns-in_ok-row-in-None : goal.returns-in_ok-row-in-None
returns-in_ok-row-in-None c =
    let same : to_z w64 (of_z w64 c.args.value) ≡ c.args.value = to_z-of_z w64 c.args.value c.ranges.value in
    subst (λ d. IsWaitingBut c.args.self.now.waiting c.args.value d c.in_ok-row-in-None.row) (sym c.in-None.is) (subst (λ v. IsWithoutFirst c.args.self.now.waiting v c.in_ok-row-in-None.row) same c.in_ok-row-in-None.ensures)
