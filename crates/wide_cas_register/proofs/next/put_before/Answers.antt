use Rattle.std.proofs.Common.{◌≡◌, ℤ, subst, to_z, of_z, w64}
use Rattle.std.proofs.lemmas.Int.{to_z-of_z}
use Rattle.wide_cas_register.specs.Facts.{IsPut}
use Rattle.wide_cas_register.proofs.next.put_before.Goals as goal

pub returns : goal.returns
returns c =
    let passed : ℤ = to_z w64 (of_z w64 c.args.value) in
    let same : passed ≡ c.args.value = to_z-of_z w64 c.args.value c.ranges.value in
    (c.in_ok-mid.mid, subst (λ v. IsPut c.args.calls.now c.args.write.now.id v c.args.row.now.door c.args.row.now.state c.args.row.now c.in_ok-mid.mid) same c.in_ok-mid.ensures, c.leave.ensures)
