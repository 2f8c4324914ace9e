use Rattle.std.proofs.Common.{pos, ◌≡◌, ◌<◌, ◌≤◌, ◌<ℤ◌, ◌≤ℤ◌, length, get_or, sym, ◌∙◌, subst, ap, to_z, of_z, w64}
use Rattle.std.proofs.lemmas.Int.{to_z-of_z}
use Rattle.models.specs.Runs.{times_in}
use Rattle.wide_unordered_queue.proofs.Places.{IsPlace, IsEnd, times_is}
use Rattle.wide_unordered_queue.proofs.backlog.Backlog.times.Goals as goal

pub returns : goal.returns
returns c =
    let v = c.args.value in
    let passed = to_z w64 (of_z w64 v) in
    let same : passed ≡ v = to_z-of_z w64 v c.ranges.value in
    let xs = c.self.inside.row in
    let at = c.place_of-from in
    let to = c.place_behind-to in
    let place : IsPlace xs passed at.result = record { within = at.ensures.within; before = λ k. at.ensures.before k (pos 0); there = at.ensures.there (pos 0) } in
    let end : IsEnd xs passed to.result = record {
      within = subst (λ l. to.result ≤ length l) (sym c.self.view_is) to.ensures.within;
      before = λ k e. subst (λ l. get_or l k (pos 0) ≤ℤ passed) (sym c.self.view_is) (to.ensures.before k (pos 0) e);
      there = λ h. subst (λ l. passed <ℤ get_or l to.result (pos 0)) (sym c.self.view_is) (to.ensures.there (pos 0) (subst (λ l. to.result < length l) c.self.view_is h));
    } in
    c.saturating_sub.ensures ∙ times_is xs c.self.invariant passed at.result place to.result end ∙ ap (λ z. times_in z xs) same ∙ ap (times_in v) c.self.view_is
