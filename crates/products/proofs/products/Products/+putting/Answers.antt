use Rattle.std.proofs.Common.{◌≡◌, ◌<◌, ◌+◌, ◌-◌, ◌*◌, inl, inr, [], ℕ, List, length, get_or, take, drop, refl, ap, sym, ◌∙◌, subst, arith}
use Rattle.std.proofs.lemmas.List.{length-drop, length-take, take_rest}
use Rattle.std.proofs.lemmas.Bool.{cases_lt}
use Rattle.std.proofs.lemmas.Option.{slice_get-get_or}
use Rattle.products.specs.Products.{Family, IsIn}
use Rattle.products.proofs.Families.{view_long, view_sets}
use Rattle.products.proofs.Putting.{Brings, IsAlike, IsLeftFrom, left_nothing, left_says, piece_alike_after, piece_apart, piece_is, piece_put, pieces_put, product_at, sets_at}
use Rattle.products.proofs.products.Products.+putting.Goals as goal
use Rattle.products.proofs.products.Products.+putting.Goals.{put_pieces-then-left-ne0+in_ok-push_piece+in_ok-put_rest, put_pieces-else-left-ne0}

rest_is : (start : ℕ) (now stack old : List ℕ) → now ≡ stack → stack ≡ old → take (length now - start) (drop start now) ≡ drop start old
rest_is start now stack old one two = take_rest now start ∙ ap (drop start) (one ∙ two)

pub put_pieces-put_rest-requires : goal.put_pieces-put_rest-requires
put_pieces-put_rest-requires t c =
    let old = c.args.self.now.1 in
    let middle = c.loop-behind.self.1 in
    let many = c.args.self.now.0 in
    let at = c.args.at in
    let place = c.self-in-loop-behind.inside.places - 1 - c.loop-behind.behind in
    let sets = drop c.args.start c.args.stack.now.items in
    let was = ap (λ (f : Family). f.0) c.self.view_is in
    let is = ap (λ (f : Family). f.0) c.self-in-loop-behind.view_is in
    let kept = c.loop-behind.invariant.places in
    let within = c.requires.within in
    let top = c.requires.top in
    let longer = c.loop-behind.invariant.brings.long in
    let next : many - c.loop-behind.behind ≡ place + 1 = omega (arith, was, is, kept) in
    let long_sets : length sets ≡ many = omega (arith, length-drop c.args.start c.args.stack.now.items, top) in
    let inner : place < length sets = omega (arith, long_sets, next, was) in
    let outer : at < length old = omega (arith, within) in
    let there = product_at old at c.args.first outer c.requires.same in
    let there_now = slice_get-get_or middle at (0, []) (omega (arith, outer, longer)) in
    let brings = subst (λ n. Brings (IsLeftFrom n c.args.first sets (sets_at old at)) sets c.args.growable_from old middle) next c.loop-behind.invariant.brings in
    let alike = subst (λ n. IsAlike n at (sets_at old at) middle) next c.loop-behind.invariant.alike in
    let height : c.len-top.result ≡ length c.loop-behind.stack.items = c.len-top.ensures ∙ c.loop-behind.stack.ok.0 in
    let piece = piece_is c.args.start place at c.len-top.result c.loop-behind.stack.items c.args.stack.now.items c.sets-then-left-ne0.result.now c.push_piece.new.stack.items middle
    c.loop-behind.invariant.stack (c.sets-then-left-ne0.ensures.sets (get_or middle at (0, [])) there_now) height c.in_ok-push_piece.ensures.piece in
    let i = c.self.inside in
    let firsts = view_long i.places i.firsts.items i.words.items c.args.self.now c.self.view_is in
    let long_others = view_sets i.places i.firsts.items i.words.items c.args.self.now c.self.view_is c.self.invariant.0 at (omega (arith, firsts, outer)) (c.args.first, sets_at old at) there in
    let fall : 2 * at + 1 < t = (let before = c.decreases in omega (arith, before)) in
    let below = ap length c.in_ok-push_piece.ensures.below in
    let one = length-take (length c.loop-behind.stack.items) c.push_piece.new.stack.items in
    let pushed = piece.long in
    let rest = length-drop c.len-top.result c.push_piece.new.stack.items in (
      fall,
      (
        omega (arith, within, longer),
        (
          omega (arith, height, below, one, pushed, rest, long_sets, kept),
          piece_apart place c.args.first c.args.growable_from at sets (drop c.len-top.result c.push_piece.new.stack.items) old middle brings alike piece inner
              (omega (arith, long_others, long_sets, was)) there c.requires.apart,
        ),
      ),
    )

pub put_pieces-loop-behind-preserved : goal.put_pieces-loop-behind-preserved
put_pieces-loop-behind-preserved t c =
    let old = c.args.self.now.1 in
    let middle = c.loop-behind.self.1 in
    let many = c.args.self.now.0 in
    let at = c.args.at in
    let place = c.self-in-loop-behind.inside.places - 1 - c.loop-behind.behind in
    let sets = drop c.args.start c.args.stack.now.items in
    let was = ap (λ (f : Family). f.0) c.self.view_is in
    let is = ap (λ (f : Family). f.0) c.self-in-loop-behind.view_is in
    let kept = c.loop-behind.invariant.places in
    let within = c.requires.within in
    let top = c.requires.top in
    let longer = c.loop-behind.invariant.brings.long in
    let next : many - c.loop-behind.behind ≡ place + 1 = omega (arith, was, is, kept) in
    let long_sets : length sets ≡ many = omega (arith, length-drop c.args.start c.args.stack.now.items, top) in
    let inner : place < length sets = omega (arith, long_sets, next, was) in
    let outer : at < length old = omega (arith, within) in
    let there = product_at old at c.args.first outer c.requires.same in
    let there_now = slice_get-get_or middle at (0, []) (omega (arith, outer, longer)) in
    let brings = subst (λ n. Brings (IsLeftFrom n c.args.first sets (sets_at old at)) sets c.args.growable_from old middle) next c.loop-behind.invariant.brings in
    let alike = subst (λ n. IsAlike n at (sets_at old at) middle) next c.loop-behind.invariant.alike in
    let says = left_says c.args.start place at c.difference-left.result c.index.result.now c.loop-behind.stack.items c.args.stack.now.items c.sets.result.now middle
    c.loop-behind.invariant.stack c.index.ensures (omega (arith, ap length c.loop-behind.invariant.stack, top, next)) (c.sets.ensures.sets (get_or middle at (0, [])) there_now) c.difference-left.ensures in
    let after : many - (c.loop-behind.behind + 1) ≡ place = omega (arith, next) in
    elim c.if-left-ne0.branch [
      | put_pieces-then-left-ne0+in_ok-push_piece+in_ok-put_rest w ↦
          let height : w.len-top.result ≡ length c.loop-behind.stack.items = w.len-top.ensures ∙ c.loop-behind.stack.ok.0 in
          let piece = piece_is c.args.start place at w.len-top.result c.loop-behind.stack.items c.args.stack.now.items w.sets-then-left-ne0.result.now w.push_piece.new.stack.items middle
          c.loop-behind.invariant.stack (w.sets-then-left-ne0.ensures.sets (get_or middle at (0, [])) there_now) height w.in_ok-push_piece.ensures.piece in
          let puts = w.in_ok-put_rest.ensures.puts in
          record {
            places = ap (λ (f : Family). f.0) w.self-is ∙ w.put_rest.ensures.places ∙ kept;
            stack = ap (λ v. v.items) w.stack-is ∙ w.truncate.ensures.items ∙ ap (take w.len-top.result) w.in_ok-put_rest.ensures.stack
                ∙ ap (λ n. take n w.push_piece.new.stack.items) height ∙ w.in_ok-push_piece.ensures.below ∙ c.loop-behind.invariant.stack;
            brings =
                subst (λ n. Brings (IsLeftFrom n c.args.first sets (sets_at old at)) sets c.args.growable_from old c.if-left-ne0.self.1) (sym after)
                (subst (λ (f : Family). Brings (IsLeftFrom place c.args.first sets (sets_at old at)) sets c.args.growable_from old f.1) (sym w.self-is)
                (piece_put place c.args.first c.args.growable_from at sets (sets_at old at) (drop w.len-top.result w.push_piece.new.stack.items) old middle w.put_rest.new.self.1 brings alike piece inner puts));
            alike =
                subst (λ n. IsAlike n at (sets_at old at) c.if-left-ne0.self.1) (sym after)
                (subst (λ (f : Family). IsAlike place at (sets_at old at) f.1) (sym w.self-is)
                (piece_alike_after place c.args.first c.args.growable_from at sets (sets_at old at) (drop w.len-top.result w.push_piece.new.stack.items) middle w.put_rest.new.self.1 alike piece (omega (arith, outer, longer)) puts));
          }
      | put_pieces-else-left-ne0 w ↦ record {
        places = ap (λ (f : Family). f.0) w.self-is ∙ kept;
        stack = ap (λ v. v.items) w.stack-is ∙ c.loop-behind.invariant.stack;
        brings =
            subst (λ n. Brings (IsLeftFrom n c.args.first sets (sets_at old at)) sets c.args.growable_from old c.if-left-ne0.self.1) (sym after)
            (subst (λ (f : Family). Brings (IsLeftFrom place c.args.first sets (sets_at old at)) sets c.args.growable_from old f.1) (sym w.self-is)
            (left_nothing place c.args.first c.args.growable_from at c.difference-left.result sets (sets_at old at) old middle brings alike says w.if-left-ne0.false));
        alike =
            subst (λ n. IsAlike n at (sets_at old at) c.if-left-ne0.self.1) (sym after)
            (subst (λ (f : Family). IsAlike place at (sets_at old at) f.1) (sym w.self-is) (λ k number lower. alike k number (omega (arith, lower))));
      }
    ]

pub put_pieces-returns-clause-puts : goal.put_pieces-returns-clause-puts
put_pieces-returns-clause-puts t c =
    let i = c.self.inside in
    let old = c.args.self.now.1 in
    let at = c.args.at in
    let sets = drop c.args.start c.args.stack.now.items in
    let was = ap (λ (f : Family). f.0) c.self.view_is in
    let within = c.requires.within in
    let top = c.requires.top in
    let outer : at < length old = omega (arith, within) in
    let there = product_at old at c.args.first outer c.requires.same in
    let firsts = view_long i.places i.firsts.items i.words.items c.args.self.now c.self.view_is in
    let long_others = view_sets i.places i.firsts.items i.words.items c.args.self.now c.self.view_is c.self.invariant.0 at (omega (arith, firsts, outer)) (c.args.first, sets_at old at) there in
    let none : c.args.self.now.0 - c.loop-behind.behind ≡ 0 = omega (arith, was) in
    pieces_put c.args.first c.args.growable_from at sets (sets_at old at) old c.loop-behind.self.1 there
    (omega (arith, length-drop c.args.start c.args.stack.now.items, top, long_others, was))
    (subst (λ n. Brings (IsLeftFrom n c.args.first sets (sets_at old at)) sets c.args.growable_from old c.loop-behind.self.1) none c.loop-behind.invariant.brings)

pub put_rest-join_from-requires-clause-apart : goal.put_rest-join_from-requires-clause-apart
put_rest-join_from-requires-clause-apart t c row h o =
    let stack = c.args.stack.now.items in
    let here = rest_is c.args.start c.deref-in-None.result.now stack stack c.deref-in-None.ensures.value refl in
    let there = rest_is c.args.start c.deref.result.now stack stack c.deref.ensures.value refl in
    let is = subst (λ s. IsIn (c.args.first, s) row) here h in
    c.in-None.ensures.none refl o.0 row (c.requires.apart o.0 row is o.1) (subst (λ s. IsIn (c.args.first, s) row) (sym there) is) o.1

pub put_rest-put_pieces-requires : goal.put_rest-put_pieces-requires
put_rest-put_pieces-requires t c =
    let stack = c.args.stack.now.items in
    let there = rest_is c.args.start c.deref.result.now stack stack c.deref.ensures.value refl in
    let e = c.in-Some-default-false.ensures in
    let at = c.in-Some-default-false.at in
    let lower = e.before in
    let within = c.requires.within in
    let top = c.requires.top in
    let fall : 2 * at + 2 < t = (let before = c.decreases in omega (arith, before, lower)) in (
      fall,
      (
        omega (arith, within, lower),
        (
          top,
          (
            e.same,
            (λ i row h stands.
                elim (cases_lt at i) [
                  | inl beyond ↦ absurd (e.apart i row beyond (c.requires.apart i row h stands) (subst (λ s. IsIn (c.args.first, s) row) (sym there) h) stands)
                  | inr upto ↦ upto
                ]),
          ),
        ),
      ),
    )
