use Rattle.std.proofs.Common.{◌≡◌, ◌+◌, ◌-◌, ◌∷◌, [], Some, slice_get, length, refl, sym, ap, ◌∙◌, subst, ⊎_elim, arith, length-append}
use Rattle.moves.specs.Moves.{AreAll}
use Rattle.moves.proofs.Showing.{no_get}
use Rattle.interner.proofs.Lists.{get_push}
use Rattle.moves.proofs.moves.note_likes.Goals as goal

pub loop-behind-init : goal.loop-behind-init
loop-behind-init g c = record {
  long = ap length c.clear.ensures.items;
  all = λ i lt. absurd (omega (arith, lt));
  likes = λ at place here. absurd (no_get c.clear.new.self.items at place c.clear.ensures.items here);
  known = refl;
  targets = refl;
}

pub loop-behind-preserved : goal.loop-behind-preserved
loop-behind-preserved g c =
    let i = c.loop-behind.invariant in
    let calls = c.args.calls.now in
    let behind = c.loop-behind.behind in
    let old = c.loop-behind.moves.likes.items in
    let now = c.like_before-like.result in
    let pushed = c.in_ok-push.ensures.items in
    let before = subst (λ k. AreAll calls k c.loop-behind.like) (let same : length calls - behind ≡ length calls - 1 - behind + 1 = omega arith in same) i.all in
    let all : AreAll calls (length calls - 1 - behind) now = c.like_before-like.ensures before in
    record {
      long = ap length pushed ∙ length-append old (now ∷ []) ∙ ap (λ n. n + 1) i.long;
      all = subst (λ k. AreAll calls k now) (let same : length calls - 1 - behind ≡ length calls - (behind + 1) = omega arith in same) all;
      likes = λ k like here.
          ⊎_elim
          (λ h. i.likes k like h)
          (λ q. subst (λ p. AreAll calls (length calls - 1 - k) p) q.1 (subst (λ p. AreAll calls (length calls - 1 - p) now) (sym (q.0 ∙ i.long)) all))
          (get_push old now k like (subst (λ l. slice_get l k ≡ Some like) pushed here));
      known = i.known;
      targets = i.targets;
    }
