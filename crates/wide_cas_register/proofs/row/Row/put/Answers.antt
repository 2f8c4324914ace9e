use Rattle.std.proofs.Common.{◌≡◌, ◌↔◌, ◌⊎◌, ℤ, refl, subst, to_z, of_z, w64}
use Rattle.std.specs.List.{Contains}
use Rattle.std.proofs.lemmas.Int.{to_z-of_z}
use Rattle.wide_cas_register.specs.declared.row.Found.{Found}
use Rattle.wide_cas_register.specs.Facts.{IsFoundBy}
use Rattle.wide_cas_register.proofs.Copies.{put_made}
use Rattle.wide_cas_register.proofs.row.Row.put.Goals as goal

pub returns : goal.returns
returns c =
    let passed : ℤ = to_z w64 (of_z w64 c.args.value) in
    let same : passed ≡ c.args.value = to_z-of_z w64 c.args.value c.ranges.value in
    put_made c.args.calls.now c.args.write c.args.value c.args.gap c.args.self.now c.in_ok-row.row _ c.in_ok-row.ensures c.in_ok-push.ensures.items
    (subst (λ v. (f : Found) → Contains c.find_value.new.finds.items f ↔ (Contains c.in_ok-row.row.finds.items f ⊎ IsFoundBy c.args.calls.now c.args.gap v f)) same c.in_ok-find_value.ensures)
    c.args.state refl refl
