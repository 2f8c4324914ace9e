-- a member is there already; any other goes where the search ends
use Rattle.std.proofs.Common.{◌≡◌, ◌+◌, ◌%◌, ◌^◌, ℕ, sym, ◌∙◌, subst, ap, to_z, of_z, w64, IfOk}
use Rattle.std.proofs.lemmas.Int.{to_z-of_z}
use Rattle.std.specs.List.{insert}
use Rattle.values.specs.Members.{IsAscending, put_in}
use Rattle.values.specs.Sums.{sum_of}
use Rattle.values.proofs.PutIn.{put_in-found, put_in-not_found, IsAscending-put_in}
use Rattle.values.proofs.Sums.{sum_of-insert}
use Rattle.values.proofs.members.Members.with.Goals as goal

pub returns-in-Ok : goal.returns-in-Ok
returns-in-Ok c =
    let v = c.args.value in
    let xs = c.as_slice-members.result.now in
    let passed = to_z w64 (of_z w64 v) in
    let same : passed ≡ v = to_z-of_z w64 v c.ranges.value in
    let now = c.as_slice-members.ensures.value in
    let is = subst IsAscending (sym now) c.as_slice-members.ensures.ascending in
    let found = put_in-found passed xs c.in-Ok.field-0 is c.in-Ok.ensures.bound c.in-Ok.ensures.position in
    subst (λ l. IfOk c.copy.result (λ more. more ≡ l)) (sym now ∙ sym found ∙ ap (λ n. put_in n xs) same ∙ ap (put_in v) now) c.copy.ensures

pub invariant_of-sharing : goal.invariant_of-sharing
invariant_of-sharing c =
    let v = c.args.value in
    let xs = c.as_slice-members.result.now in
    let at = c.in-Err.at in
    let passed = to_z w64 (of_z w64 v) in
    let is = subst IsAscending (sym c.as_slice-members.ensures.value) c.as_slice-members.ensures.ascending in
    let placed = put_in-not_found passed xs at is c.in-Err.ensures.bound c.in-Err.ensures.position in
    let items = c.in_ok-insert-in-Err.ensures.items ∙ ap (λ l. insert l at passed) c.in_ok-items-in-Err.ensures.items in
    record {
      ascending = subst IsAscending (sym (items ∙ placed)) (IsAscending-put_in passed xs is);
      sums = ap (λ (n : ℕ). (n + c.mixed.result) % 2 ^ 128) (c.sum.ensures ∙ ap sum_of (sym c.as_slice-members.ensures.value))
          ∙ ap (λ (n : ℕ). (sum_of xs + n) % 2 ^ 128) c.mixed.ensures ∙ sym (sum_of-insert xs at passed c.in-Err.ensures.bound) ∙ ap sum_of (sym items);
    }

pub returns-in_ok-insert-in-Err : goal.returns-in_ok-insert-in-Err
returns-in_ok-insert-in-Err c =
    let v = c.args.value in
    let xs = c.as_slice-members.result.now in
    let passed = to_z w64 (of_z w64 v) in
    let same : passed ≡ v = to_z-of_z w64 v c.ranges.value in
    let now = c.as_slice-members.ensures.value in
    let is = subst IsAscending (sym now) c.as_slice-members.ensures.ascending in
    let placed = put_in-not_found passed xs c.in-Err.at is c.in-Err.ensures.bound c.in-Err.ensures.position in
    subst (λ l. IfOk c.sharing.result (λ more. more ≡ l))
    (c.in_ok-insert-in-Err.ensures.items ∙ ap (λ l. insert l c.in-Err.at passed) c.in_ok-items-in-Err.ensures.items ∙ placed ∙ ap (λ n. put_in n xs) same ∙ ap (put_in v) now)
    c.sharing.ensures
