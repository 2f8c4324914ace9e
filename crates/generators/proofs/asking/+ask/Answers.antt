use Rattle.std.proofs.Common.{◌≡◌, ℕ, ◌+◌, ◌<◌, ◌%◌, Bool, List, ◌∷◌, true, false, ltb, length, get_or, ◌||◌, ap, sym, subst, ◌∙◌, arith}
use Rattle.std.specs.Prelude.{not}
use Rattle.std.proofs.lemmas.Result.{IfOk-weaker, on_err_weaker}
use Rattle.generators.specs.Draws.{ask_of, Draws, DrawsInTurn, gives, declines, next_place, is_thread, clients_not, nemesis_not}
use Rattle.generators.specs.SearchResults.{under, IsBelow}
use Rattle.generators.specs.declared.search_result.SearchResult.TheVariants.{Gives}
use Rattle.generators.specs.Moves.{moved, moved_at, outcome, outcome_at, outcome_first, DrawsFirst, FindsItem, FindsInTurn, FindsFirst}
use Rattle.generators.specs.Words.{word}
use Rattle.generators.specs.Generators.{generator_of, generators_of, ops, limit, clients, nemesis, mix, seq, phases, each_thread, is_over, all_over}
use Rattle.generators.proofs.Children.{follows_is, not_nil, is_zero}
use Rattle.generators.proofs.Views.{view-Ops, view-Limit, view-Clients, view-Nemesis, view-Seq, view-Phases}
use Rattle.generators.proofs.Asked.{seen_as, asks_limit, asks_reached, asks_clients, asks_nemesis, asks_copy, asks_no_copy, asks_no_thread}
use Rattle.generators.proofs.First.{seq_first, phases_first, asks_seq, asks_phases, waits_here, asks_here}
use Rattle.generators.proofs.InTurn.{VainTo, vain_more, vain_then_gives, vain_all, mix_none, mix_back, mix_then}
use Rattle.generators.proofs.Items.{on_err, item_under, finds_by, finds_as, finds_limit, finds_clients, finds_nemesis, finds_seq, finds_phases, finds_copy, finds_here, finds_in_turn, finds_behind, finds_before}
use Rattle.generators.proofs.asking.+ask.Goals as goal
use Rattle.generators.proofs.asking.+ask.Goals.{ask_in_turn-then-later, ask_in_turn-else-later}

pub ask-returns-then-left-eq0-clause-answer : goal.ask-returns-then-left-eq0-clause-answer
ask-returns-then-left-eq0-clause-answer t c =
    let words = word c.args.words.now.seed in
    let a = ask_of c.args.asker c.args.idle.now in
    let p = c.args.words.now.place in
    let e = ap generator_of c.in-Limit.is ∙ view-Limit c.in-Limit.left c.in-Limit.child in
    rw e (asks_reached words a c.in-Limit.left (generator_of c.in-Limit.child.value) p c.if-left-eq0.true)

pub ask-returns-else-left-eq0-clause-answer : goal.ask-returns-else-left-eq0-clause-answer
ask-returns-else-left-eq0-clause-answer t c =
    let words = word c.args.words.now.seed in
    let a = ask_of c.args.asker c.args.idle.now in
    let p = c.args.words.now.place in
    let q = c.ask.new.words.place in
    let g = generator_of c.deref.result.now in
    let e = ap generator_of c.in-Limit.is ∙ view-Limit c.in-Limit.left c.in-Limit.child ∙ ap (λ x. limit c.in-Limit.left (generator_of x)) (sym c.deref.ensures) in
    IfOk-weaker c.ask.result _ _ (λ answer k. seen_as words a (generator_of c.args.generator.now) (limit c.in-Limit.left g) p q answer e
    (asks_limit words a c.in-Limit.left g p q answer (omega arith) k)) c.ask.ensures.answer

pub ask-returns-in-Thread-clause-answer : goal.ask-returns-in-Thread-clause-answer
ask-returns-in-Thread-clause-answer t c =
    let words = word c.args.words.now.seed in
    let a = ask_of c.args.asker c.args.idle.now in
    let p = c.args.words.now.place in
    let q = c.ask-in-Thread.new.words.place in
    let g = generator_of c.deref-in-Thread.result.now in
    let e = ap generator_of c.in-Clients.is ∙ view-Clients c.in-Clients.child ∙ ap (λ x. clients (generator_of x)) (sym c.deref-in-Thread.ensures) in
    let asked : is_thread c.args.asker ≡ true = ap is_thread c.in-Thread.is in
    IfOk-weaker c.ask-in-Thread.result _ _ (λ answer k. seen_as words a (generator_of c.args.generator.now) (clients g) p q answer e
    (asks_clients words a g p q answer asked k)) c.ask-in-Thread.ensures.answer

pub ask-returns-in-Nemesis-asker-clause-answer : goal.ask-returns-in-Nemesis-asker-clause-answer
ask-returns-in-Nemesis-asker-clause-answer t c =
    let e = ap generator_of c.in-Clients.is ∙ view-Clients c.in-Clients.child in
    let asked : is_thread c.args.asker ≡ false = ap is_thread c.in-Nemesis-asker.is in
    rw e (clients_not asked)

pub ask-returns-in-Thread-asker-clause-answer : goal.ask-returns-in-Thread-asker-clause-answer
ask-returns-in-Thread-asker-clause-answer t c =
    let e = ap generator_of c.in-Nemesis.is ∙ view-Nemesis c.in-Nemesis.child in
    let asked : is_thread c.args.asker ≡ true = ap is_thread c.in-Thread-asker.is in
    rw e (nemesis_not asked)

pub ask-returns-in-Nemesis-asker-2-clause-answer : goal.ask-returns-in-Nemesis-asker-2-clause-answer
ask-returns-in-Nemesis-asker-2-clause-answer t c =
    let words = word c.args.words.now.seed in
    let a = ask_of c.args.asker c.args.idle.now in
    let p = c.args.words.now.place in
    let q = c.ask-in-Nemesis-asker-2.new.words.place in
    let g = generator_of c.deref-in-Nemesis-asker-2.result.now in
    let e = ap generator_of c.in-Nemesis.is ∙ view-Nemesis c.in-Nemesis.child ∙ ap (λ x. nemesis (generator_of x)) (sym c.deref-in-Nemesis-asker-2.ensures) in
    let asked : is_thread c.args.asker ≡ false = ap is_thread c.in-Nemesis-asker-2.is in
    IfOk-weaker c.ask-in-Nemesis-asker-2.result _ _ (λ answer k. seen_as words a (generator_of c.args.generator.now) (nemesis g) p q answer e
    (asks_nemesis words a g p q answer asked k)) c.ask-in-Nemesis-asker-2.ensures.answer

pub ask-returns-in-Seq-clause-answer : goal.ask-returns-in-Seq-clause-answer
ask-returns-in-Seq-clause-answer t c =
    let words = word c.args.words.now.seed in
    let a = ask_of c.args.asker c.args.idle.now in
    let p = c.args.words.now.place in
    let q = c.ask_first.new.words.place in
    let gs = generators_of c.deref-in-Seq.result.now in
    let e = ap generator_of c.in-Seq.is ∙ view-Seq c.in-Seq.children ∙ ap (λ xs. seq (generators_of xs)) (sym c.deref-in-Seq.ensures.value) in
    IfOk-weaker c.ask_first.result _ _ (λ answer k. seen_as words a (generator_of c.args.generator.now) (seq gs) p q answer e
    (asks_seq words a gs p q answer (k seq (seq_first words a)))) c.ask_first.ensures.answer

pub ask-returns-in-Phases-clause-answer : goal.ask-returns-in-Phases-clause-answer
ask-returns-in-Phases-clause-answer t c =
    let words = word c.args.words.now.seed in
    let a = ask_of c.args.asker c.args.idle.now in
    let p = c.args.words.now.place in
    let q = c.ask_first-in-Phases.new.words.place in
    let gs = generators_of c.deref-in-Phases.result.now in
    let e = ap generator_of c.in-Phases.is ∙ view-Phases c.in-Phases.children ∙ ap (λ xs. phases (generators_of xs)) (sym c.deref-in-Phases.ensures.value) in
    let rules = subst (λ b. DrawsFirst words a phases b) (sym c.all_idle.ensures) (phases_first words a) in
    IfOk-weaker c.ask_first-in-Phases.result _ _ (λ answer k. seen_as words a (generator_of c.args.generator.now) (phases gs) p q answer e
    (asks_phases words a gs p q answer (k phases rules))) c.ask_first-in-Phases.ensures.answer

pub ask_copy-returns-in_default-clause-answer : goal.ask_copy-returns-in_default-clause-answer
ask_copy-returns-in_default-clause-answer t c =
    asks_no_thread (word c.args.words.now.seed) (ask_of c.args.asker c.args.idle.now) c.args.copies.now c.args.words.now.place c.in_default.is

pub ask_copy-returns-then-place-copies-clause-answer : goal.ask_copy-returns-then-place-copies-clause-answer
ask_copy-returns-then-place-copies-clause-answer t c =
    asks_no_copy (word c.args.words.now.seed) (ask_of c.args.asker c.args.idle.now) c.args.copies.now c.in-Thread.thread c.args.words.now.place c.in-Thread.is c.if-place-copies.true

pub ask_copy-returns-clause-answer : goal.ask_copy-returns-clause-answer
ask_copy-returns-clause-answer t c =
    let words = word c.args.words.now.seed in
    let a = ask_of c.args.asker c.args.idle.now in
    let p = c.args.words.now.place in
    let q = c.ask.new.words.place in
    let xs = c.args.copies.now in
    let i = c.in-Thread.thread in
    let d = c.index-copies-place.result in
    let found = c.in_ok-answer.answer in
    let told = subst (λ k. Draws words (ask_of k c.args.idle.now) (generator_of d) p (outcome (generator_of d) found q)) (sym c.in-Thread.is) c.in_ok-answer.ensures.answer in
    let asked = subst (λ y. Draws words a (generator_of y) p (outcome (generator_of y) found q)) c.index-copies-place.is told in
    let step = asks_copy words a xs i d p q found c.in-Thread.is c.if-place-copies.false asked in
    IfOk-weaker c.under.result _ _ (λ answer e.
    let same : answer ≡ under i (not (all_over (generators_of xs))) found = e ∙ ap (λ b. under i (not b) found) c.are_over.ensures in
    subst (λ x. Draws words a (each_thread (generators_of xs)) p (outcome (each_thread (generators_of xs)) x q)) (sym same) step) c.under.ensures.answer

pub ask_first-returns-then-not-is_over-clause-answer : goal.ask_first-returns-then-not-is_over-clause-answer
ask_first-returns-then-not-is_over-clause-answer t c =
    let words = word c.args.words.now.seed in
    let a = ask_of c.args.asker c.args.idle.now in
    let p = c.args.words.now.place in
    let q = c.ask.new.words.place in
    let xs = c.args.children.now in
    let i = c.loop-i.i in
    let d = c.index-children-i.result in
    let found = c.in_ok-answer.answer in
    let follows = ltb (i + 1) (length xs) in
    let told = subst (λ s. Draws (word s.seed) a (generator_of d) s.place (outcome (generator_of d) found q)) c.loop-i.invariant.words c.in_ok-answer.ensures.answer in
    let asked = subst (λ y. Draws words a (generator_of y) p (outcome (generator_of y) found q)) c.index-children-i.is told in
    let left : is_over (generator_of (get_or xs i d)) ≡ false = sym (ap (λ y. is_over (generator_of y)) c.index-children-i.is) ∙ sym c.is_over.ensures ∙ c.if-not-is_over.true in
    IfOk-weaker c.under.result _ _ (λ answer e form f.
    subst (λ x. Draws words a (form (generators_of xs)) p (outcome_first form (generators_of xs) x q)) (sym e)
    (asks_here words a c.args.passes p q xs i d follows found c.loop-i-test.true left (follows_is xs (i + 1)) c.loop-i.invariant.passed asked form f)) c.under.ensures.answer

pub ask_first-returns-then-not-passes-clause-answer : goal.ask_first-returns-then-not-passes-clause-answer
ask_first-returns-then-not-passes-clause-answer t c =
    let words = word c.args.words.now.seed in
    let a = ask_of c.args.asker c.args.idle.now in
    let xs = c.args.children.now in
    let i = c.loop-i.i in
    let d = c.index-children-i.result in
    let over : is_over (generator_of (get_or xs i d)) ≡ true = sym (ap (λ y. is_over (generator_of y)) c.index-children-i.is) ∙ sym c.is_over.ensures ∙ c.if-not-is_over.false in
    λ form f. subst (λ s. Draws words a (form (generators_of xs)) c.args.words.now.place (declines true s.place)) (sym c.loop-i.invariant.words)
    (waits_here words a c.args.passes c.args.words.now.place xs i d c.if-follows.true over c.if-not-passes.true c.loop-i.invariant.passed form f)

pub ask_in_turn-returns-in-Gives-clause-answer : goal.ask_in_turn-returns-in-Gives-clause-answer
ask_in_turn-returns-in-Gives-clause-answer t c =
    let a = ask_of c.args.asker c.args.idle.now in
    let xs = c.args.children.now in
    let d = c.index-children-i.result in
    let p = c.loop-i.words.place in
    let q = c.ask.new.words.place in
    let found = c.in_ok-item.field-0 in
    let seeded = subst (λ s. Draws (word s) a (generator_of d) p (outcome (generator_of d) found q)) c.loop-i.invariant.seed c.in_ok-item.ensures.answer in
    let told = subst (λ f. Draws (word c.args.words.now.seed) a (generator_of d) p (outcome (generator_of d) f q)) c.in-Gives.is seeded in
    let asked = subst (λ y. Draws (word c.args.words.now.seed) a (generator_of y) p (gives c.in-Gives.item (moved (generator_of y) c.in-Gives.path) q)) c.index-children-i.is told in
    vain_then_gives (word c.args.words.now.seed) a c.args.words.now.place p q xs c.loop-i.i d c.loop-i.later c.in-Gives.item c.in-Gives.path c.loop-i-test.true asked c.loop-i.invariant.vain

pub ask_in_turn-loop-i-preserved : goal.ask_in_turn-loop-i-preserved
ask_in_turn-loop-i-preserved t c =
    let a = ask_of c.args.asker c.args.idle.now in
    let words = word c.args.words.now.seed in
    let xs = c.args.children.now in
    let d = c.index-children-i.result in
    let p = c.loop-i.words.place in
    let q = c.ask.new.words.place in
    let found = c.in_ok-item.field-0 in
    let pending = c.in-Declines.pending in
    let seeded = subst (λ s. Draws (word s) a (generator_of d) p (outcome (generator_of d) found q)) c.loop-i.invariant.seed c.in_ok-item.ensures.answer in
    let told = subst (λ f. Draws words a (generator_of d) p (outcome (generator_of d) f q)) c.in-Declines.is seeded in
    let asked = subst (λ y. Draws words a (generator_of y) p (declines pending q)) c.index-children-i.is told in
    let step = vain_more words a c.args.words.now.place p q xs c.loop-i.i d c.loop-i.later pending c.loop-i-test.true asked c.loop-i.invariant.vain in
    let later : c.if-later.later ≡ c.loop-i.later || pending =
    elim c.if-later.branch [
      | ask_in_turn-then-later w ↦ w.later-is ∙ w.if-later.true ∙ sym (ap (λ b. b || pending) w.if-later.true)
      | ask_in_turn-else-later w ↦ w.later-is ∙ sym (ap (λ b. b || pending) w.if-later.false)
    ] in
    record {
      seed = c.ask.ensures.seed ∙ c.loop-i.invariant.seed;
      vain = subst (λ b. VainTo words a c.args.words.now.place q xs (c.loop-i.i + 1) b) (sym later) step;
    }

pub ask_in_turn-returns-clause-answer : goal.ask_in_turn-returns-clause-answer
ask_in_turn-returns-clause-answer t c =
    vain_all (word c.args.words.now.seed) (ask_of c.args.asker c.args.idle.now) c.args.words.now.place c.loop-i.words.place c.args.children.now c.loop-i.i c.loop-i.later c.loop-i-test.false c.loop-i.invariant.vain

pub ask_mix-returns-then-is_empty-clause-answer : goal.ask_mix-returns-then-is_empty-clause-answer
ask_mix-returns-then-is_empty-clause-answer t c =
    mix_none (word c.args.words.now.seed) (ask_of c.args.asker c.args.idle.now) c.args.children.now c.args.words.now.place
    (is_zero (length c.args.children.now) (sym c.is_empty.ensures ∙ c.if-is_empty.true))

pub ask_mix-returns-in-Gives-clause-answer : goal.ask_mix-returns-in-Gives-clause-answer
ask_mix-returns-in-Gives-clause-answer t c =
    let words = word c.args.words.now.seed in
    let a = ask_of c.args.asker c.args.idle.now in
    let p = c.args.words.now.place in
    let q = c.ask_in_turn.new.words.place in
    let xs = c.args.children.now in
    let n = c.next.result % length xs in
    let some = not_nil (length xs) (sym c.is_empty.ensures ∙ c.if-is_empty.false) in
    let below : n < length xs = omega (arith, some) in
    let j = c.in_ok-behind.behind in
    let seeded = subst (λ s. DrawsInTurn (word s.seed) a (generators_of c.split_at.result.1.now) s.place (outcome_at (generators_of c.split_at.result.1.now) j c.in_ok-behind.answer q)) c.next.ensures.place c.in_ok-behind.ensures.answer in
    let told = subst (λ f. DrawsInTurn words a (generators_of c.split_at.result.1.now) (next_place p) (outcome_at (generators_of c.split_at.result.1.now) j f q)) c.in-Gives.is seeded in
    let asked = subst (λ ys. DrawsInTurn words a (generators_of ys) (next_place p) (gives c.in-Gives.item (moved_at (generators_of ys) j c.in-Gives.path) q)) c.split_at.ensures.back told in
    let step = mix_back words a xs n p q c.in-Gives.item j c.in-Gives.path below (ap (λ w. w % length xs) c.next.ensures.word) asked in
    IfOk-weaker c.under.result _ _ (λ answer e.
    subst (λ x. Draws words a (mix (generators_of xs)) p (outcome (mix (generators_of xs)) x q)) (sym e) step) c.under.ensures.answer

pub ask_mix-returns-in_ok-place-in-Declines-clause-answer : goal.ask_mix-returns-in_ok-place-in-Declines-clause-answer
ask_mix-returns-in_ok-place-in-Declines-clause-answer t c =
    let words = word c.args.words.now.seed in
    let a = ask_of c.args.asker c.args.idle.now in
    let p = c.args.words.now.place in
    let q = c.ask_in_turn.new.words.place in
    let r = c.ask_in_turn-in-Declines.new.words.place in
    let xs = c.args.children.now in
    let n = c.next.result % length xs in
    let some = not_nil (length xs) (sym c.is_empty.ensures ∙ c.if-is_empty.false) in
    let below : n < length xs = omega (arith, some) in
    let j = c.in_ok-behind.behind in
    let later = c.in-Declines.later in
    let seeded = subst (λ s. DrawsInTurn (word s.seed) a (generators_of c.split_at.result.1.now) s.place (outcome_at (generators_of c.split_at.result.1.now) j c.in_ok-behind.answer q)) c.next.ensures.place c.in_ok-behind.ensures.answer in
    let told = subst (λ f. DrawsInTurn words a (generators_of c.split_at.result.1.now) (next_place p) (outcome_at (generators_of c.split_at.result.1.now) j f q)) c.in-Declines.is seeded in
    let vain = subst (λ ys. DrawsInTurn words a (generators_of ys) (next_place p) (declines later q)) c.split_at.ensures.back told in
    let i = c.in_ok-place-in-Declines.place in
    let found = c.in_ok-place-in-Declines.answer in
    let same : c.ask_in_turn.new.words.seed ≡ c.args.words.now.seed = c.ask_in_turn.ensures.seed ∙ ap (λ s. s.seed) c.next.ensures.place in
    let seeded-2 = subst (λ s. DrawsInTurn (word s) a (generators_of c.split_at.result.0.now) q (outcome_at (generators_of c.split_at.result.0.now) i found r)) same c.in_ok-place-in-Declines.ensures.answer in
    let asked = subst (λ ys. DrawsInTurn words a (generators_of ys) q (outcome_at (generators_of ys) i found r)) c.split_at.ensures.front seeded-2 in
    let within = subst (λ ys. IsBelow (length ys) i found) c.split_at.ensures.front c.in_ok-place-in-Declines.ensures.below in
    let step = mix_then words a xs n p q r i later found below (ap (λ w. w % length xs) c.next.ensures.word) vain asked within in
    IfOk-weaker c.under-in-Declines.result _ _ (λ answer e.
    subst (λ x. Draws words a (mix (generators_of xs)) p (outcome (mix (generators_of xs)) x r)) (sym e) step) c.under-in-Declines.ensures.answer

-- where there is no memory, there is an item

pub ask-returns-in-Ops-clause-item : goal.ask-returns-in-Ops-clause-item
ask-returns-in-Ops-clause-item t c =
    let words = word c.args.words.now.seed in
    let p = c.args.words.now.place in
    let items = c.in-Ops.items in
    let e = ap generator_of c.in-Ops.is ∙ view-Ops items in
    on_err_weaker c.ask_ops.result (λ (f : (w : ℕ → ℕ) (idle : List Bool) (q : ℕ) → FindsItem w (ask_of c.args.asker idle) (ops items) q).
    finds_as words (ask_of c.args.asker c.args.idle.now) (generator_of c.args.generator.now) (ops items) p e (f words c.args.idle.now p)) c.ask_ops.ensures.item

pub ask-returns-else-left-eq0-clause-item : goal.ask-returns-else-left-eq0-clause-item
ask-returns-else-left-eq0-clause-item t c =
    let words = word c.args.words.now.seed in
    let a = ask_of c.args.asker c.args.idle.now in
    let p = c.args.words.now.place in
    let g = generator_of c.deref.result.now in
    let e = ap generator_of c.in-Limit.is ∙ view-Limit c.in-Limit.left c.in-Limit.child ∙ ap (λ x. limit c.in-Limit.left (generator_of x)) (sym c.deref.ensures) in
    on_err_weaker c.ask.result (λ f. finds_as words a (generator_of c.args.generator.now) (limit c.in-Limit.left g) p e
    (finds_limit words a c.in-Limit.left g p (omega arith) f)) c.ask.ensures.item

pub ask-returns-in-Thread-clause-item : goal.ask-returns-in-Thread-clause-item
ask-returns-in-Thread-clause-item t c =
    let words = word c.args.words.now.seed in
    let a = ask_of c.args.asker c.args.idle.now in
    let p = c.args.words.now.place in
    let g = generator_of c.deref-in-Thread.result.now in
    let e = ap generator_of c.in-Clients.is ∙ view-Clients c.in-Clients.child ∙ ap (λ x. clients (generator_of x)) (sym c.deref-in-Thread.ensures) in
    let asked : is_thread c.args.asker ≡ true = ap is_thread c.in-Thread.is in
    on_err_weaker c.ask-in-Thread.result (λ f. finds_as words a (generator_of c.args.generator.now) (clients g) p e
    (finds_clients words a g p asked f)) c.ask-in-Thread.ensures.item

pub ask-returns-in-Nemesis-asker-2-clause-item : goal.ask-returns-in-Nemesis-asker-2-clause-item
ask-returns-in-Nemesis-asker-2-clause-item t c =
    let words = word c.args.words.now.seed in
    let a = ask_of c.args.asker c.args.idle.now in
    let p = c.args.words.now.place in
    let g = generator_of c.deref-in-Nemesis-asker-2.result.now in
    let e = ap generator_of c.in-Nemesis.is ∙ view-Nemesis c.in-Nemesis.child ∙ ap (λ x. nemesis (generator_of x)) (sym c.deref-in-Nemesis-asker-2.ensures) in
    let asked : is_thread c.args.asker ≡ false = ap is_thread c.in-Nemesis-asker-2.is in
    on_err_weaker c.ask-in-Nemesis-asker-2.result (λ f. finds_as words a (generator_of c.args.generator.now) (nemesis g) p e
    (finds_nemesis words a g p asked f)) c.ask-in-Nemesis-asker-2.ensures.item

pub ask-returns-in-Seq-clause-item : goal.ask-returns-in-Seq-clause-item
ask-returns-in-Seq-clause-item t c =
    let words = word c.args.words.now.seed in
    let a = ask_of c.args.asker c.args.idle.now in
    let p = c.args.words.now.place in
    let gs = generators_of c.deref-in-Seq.result.now in
    let e = ap generator_of c.in-Seq.is ∙ view-Seq c.in-Seq.children ∙ ap (λ xs. seq (generators_of xs)) (sym c.deref-in-Seq.ensures.value) in
    on_err_weaker c.ask_first.result (λ f. finds_as words a (generator_of c.args.generator.now) (seq gs) p e (finds_seq words a gs p f)) c.ask_first.ensures.item

pub ask-returns-in-Phases-clause-item : goal.ask-returns-in-Phases-clause-item
ask-returns-in-Phases-clause-item t c =
    let words = word c.args.words.now.seed in
    let a = ask_of c.args.asker c.args.idle.now in
    let p = c.args.words.now.place in
    let gs = generators_of c.deref-in-Phases.result.now in
    let e = ap generator_of c.in-Phases.is ∙ view-Phases c.in-Phases.children ∙ ap (λ xs. phases (generators_of xs)) (sym c.deref-in-Phases.ensures.value) in
    on_err_weaker c.ask_first-in-Phases.result (λ f. finds_as words a (generator_of c.args.generator.now) (phases gs) p e
    (finds_phases words a gs p (subst (λ b. FindsFirst words a b gs p) c.all_idle.ensures f))) c.ask_first-in-Phases.ensures.item

pub ask_copy-returns-in_err-answer-clause-item : goal.ask_copy-returns-in_err-answer-clause-item
ask_copy-returns-in_err-answer-clause-item t c =
    let words = word c.args.words.now.seed in
    let a = ask_of c.args.asker c.args.idle.now in
    let p = c.args.words.now.place in
    let xs = c.args.copies.now in
    let i = c.in-Thread.thread in
    let d = c.index-copies-place.result in
    let told = subst (λ k. FindsItem words (ask_of k c.args.idle.now) (generator_of d) p) (sym c.in-Thread.is) c.in_err-answer.ensures.item in
    on_err c.from_residual.result (finds_copy words a xs i d p c.in-Thread.is c.if-place-copies.false
    (subst (λ y. FindsItem words a (generator_of y) p) c.index-copies-place.is told))

pub ask_copy-returns-clause-item : goal.ask_copy-returns-clause-item
ask_copy-returns-clause-item t c =
    let words = word c.args.words.now.seed in
    let a = ask_of c.args.asker c.args.idle.now in
    let p = c.args.words.now.place in
    let xs = c.args.copies.now in
    let i = c.in-Thread.thread in
    let d = c.index-copies-place.result in
    let q = c.ask.new.words.place in
    let found = c.in_ok-answer.answer in
    let told = subst (λ k. Draws words (ask_of k c.args.idle.now) (generator_of d) p (outcome (generator_of d) found q)) (sym c.in-Thread.is) c.in_ok-answer.ensures.answer in
    let asked = subst (λ y. Draws words a (generator_of y) p (outcome (generator_of y) found q)) c.index-copies-place.is told in
    on_err_weaker c.under.result (λ is. finds_copy words a xs i d p c.in-Thread.is c.if-place-copies.false
    (finds_by words a (generator_of (get_or xs i d)) p q found is asked)) c.under.ensures.item

pub ask_first-returns-in_err-answer-clause-item : goal.ask_first-returns-in_err-answer-clause-item
ask_first-returns-in_err-answer-clause-item t c =
    let words = word c.args.words.now.seed in
    let a = ask_of c.args.asker c.args.idle.now in
    let p = c.args.words.now.place in
    let xs = c.args.children.now in
    let i = c.loop-i.i in
    let d = c.index-children-i.result in
    let follows = ltb (i + 1) (length xs) in
    let left : is_over (generator_of (get_or xs i d)) ≡ false = sym (ap (λ y. is_over (generator_of y)) c.index-children-i.is) ∙ sym c.is_over.ensures ∙ c.if-not-is_over.true in
    let told = subst (λ s. FindsItem (word s.seed) a (generator_of d) s.place) c.loop-i.invariant.words c.in_err-answer.ensures.item in
    on_err c.from_residual.result (finds_here words a c.args.passes p xs i d follows c.loop-i-test.true left (follows_is xs (i + 1)) c.loop-i.invariant.passed
    (subst (λ y. FindsItem words a (generator_of y) p) c.index-children-i.is told))

pub ask_first-returns-then-not-is_over-clause-item : goal.ask_first-returns-then-not-is_over-clause-item
ask_first-returns-then-not-is_over-clause-item t c =
    let words = word c.args.words.now.seed in
    let a = ask_of c.args.asker c.args.idle.now in
    let p = c.args.words.now.place in
    let xs = c.args.children.now in
    let i = c.loop-i.i in
    let d = c.index-children-i.result in
    let follows = ltb (i + 1) (length xs) in
    let left : is_over (generator_of (get_or xs i d)) ≡ false = sym (ap (λ y. is_over (generator_of y)) c.index-children-i.is) ∙ sym c.is_over.ensures ∙ c.if-not-is_over.true in
    let q = c.ask.new.words.place in
    let found = c.in_ok-answer.answer in
    let told = subst (λ s. Draws (word s.seed) a (generator_of d) s.place (outcome (generator_of d) found q)) c.loop-i.invariant.words c.in_ok-answer.ensures.answer in
    let asked = subst (λ y. Draws words a (generator_of y) p (outcome (generator_of y) found q)) c.index-children-i.is told in
    on_err_weaker c.under.result (λ is. finds_here words a c.args.passes p xs i d follows c.loop-i-test.true left (follows_is xs (i + 1)) c.loop-i.invariant.passed
    (finds_by words a (generator_of (get_or xs i d)) p q found is asked)) c.under.ensures.item

pub ask_in_turn-returns-in_err-item-clause-item : goal.ask_in_turn-returns-in_err-item-clause-item
ask_in_turn-returns-in_err-item-clause-item t c =
    let words = word c.args.words.now.seed in
    let a = ask_of c.args.asker c.args.idle.now in
    let xs = c.args.children.now in
    let d = c.index-children-i.result in
    let p = c.loop-i.words.place in
    let told = subst (λ s. FindsItem (word s) a (generator_of d) p) c.loop-i.invariant.seed c.in_err-item.ensures.item in
    on_err c.from_residual.result (finds_in_turn words a c.args.words.now.place p xs c.loop-i.i d c.loop-i.later c.loop-i-test.true c.loop-i.invariant.vain
    (subst (λ y. FindsItem words a (generator_of y) p) c.index-children-i.is told))

pub ask_mix-returns-in_err-behind-clause-item : goal.ask_mix-returns-in_err-behind-clause-item
ask_mix-returns-in_err-behind-clause-item t c =
    let words = word c.args.words.now.seed in
    let a = ask_of c.args.asker c.args.idle.now in
    let p = c.args.words.now.place in
    let xs = c.args.children.now in
    let n = c.next.result % length xs in
    let some = not_nil (length xs) (sym c.is_empty.ensures ∙ c.if-is_empty.false) in
    let below : n < length xs = omega (arith, some) in
    let seeded = subst (λ s. FindsInTurn (word s.seed) a (generators_of c.split_at.result.1.now) s.place) c.next.ensures.place c.in_err-behind.ensures.item in
    on_err c.from_residual.result (finds_behind words a xs n p below (ap (λ w. w % length xs) c.next.ensures.word)
    (subst (λ ys. FindsInTurn words a (generators_of ys) (next_place p)) c.split_at.ensures.back seeded))

pub ask_mix-returns-in-Gives-clause-item : goal.ask_mix-returns-in-Gives-clause-item
ask_mix-returns-in-Gives-clause-item t c =
    let words = word c.args.words.now.seed in
    let a = ask_of c.args.asker c.args.idle.now in
    let p = c.args.words.now.place in
    let xs = c.args.children.now in
    let n = c.next.result % length xs in
    let some = not_nil (length xs) (sym c.is_empty.ensures ∙ c.if-is_empty.false) in
    let below : n < length xs = omega (arith, some) in
    let q = c.ask_in_turn.new.words.place in
    let j = c.in_ok-behind.behind in
    let seeded = subst (λ s. DrawsInTurn (word s.seed) a (generators_of c.split_at.result.1.now) s.place (outcome_at (generators_of c.split_at.result.1.now) j c.in_ok-behind.answer q)) c.next.ensures.place c.in_ok-behind.ensures.answer in
    let told = subst (λ f. DrawsInTurn words a (generators_of c.split_at.result.1.now) (next_place p) (outcome_at (generators_of c.split_at.result.1.now) j f q)) c.in-Gives.is seeded in
    let asked = subst (λ ys. DrawsInTurn words a (generators_of ys) (next_place p) (gives c.in-Gives.item (moved_at (generators_of ys) j c.in-Gives.path) q)) c.split_at.ensures.back told in
    let step = mix_back words a xs n p q c.in-Gives.item j c.in-Gives.path below (ap (λ w. w % length xs) c.next.ensures.word) asked in
    on_err_weaker c.under.result (λ is. finds_by words a (mix (generators_of xs)) p q (Gives c.in-Gives.item ((n + j) ∷ c.in-Gives.path)) is step) c.under.ensures.item

pub ask_mix-returns-in_err-place-in-Declines-clause-item : goal.ask_mix-returns-in_err-place-in-Declines-clause-item
ask_mix-returns-in_err-place-in-Declines-clause-item t c =
    let words = word c.args.words.now.seed in
    let a = ask_of c.args.asker c.args.idle.now in
    let p = c.args.words.now.place in
    let xs = c.args.children.now in
    let n = c.next.result % length xs in
    let some = not_nil (length xs) (sym c.is_empty.ensures ∙ c.if-is_empty.false) in
    let below : n < length xs = omega (arith, some) in
    let q = c.ask_in_turn.new.words.place in
    let j = c.in_ok-behind.behind in
    let later = c.in-Declines.later in
    let seeded = subst (λ s. DrawsInTurn (word s.seed) a (generators_of c.split_at.result.1.now) s.place (outcome_at (generators_of c.split_at.result.1.now) j c.in_ok-behind.answer q)) c.next.ensures.place c.in_ok-behind.ensures.answer in
    let told = subst (λ f. DrawsInTurn words a (generators_of c.split_at.result.1.now) (next_place p) (outcome_at (generators_of c.split_at.result.1.now) j f q)) c.in-Declines.is seeded in
    let vain = subst (λ ys. DrawsInTurn words a (generators_of ys) (next_place p) (declines later q)) c.split_at.ensures.back told in
    let same : c.ask_in_turn.new.words.seed ≡ c.args.words.now.seed = c.ask_in_turn.ensures.seed ∙ ap (λ s. s.seed) c.next.ensures.place in
    let seeded-2 = subst (λ s. FindsInTurn (word s) a (generators_of c.split_at.result.0.now) q) same c.in_err-place-in-Declines.ensures.item in
    on_err c.from_residual-in_err-place-in-Declines.result (finds_before words a xs n p q later below (ap (λ w. w % length xs) c.next.ensures.word) vain
    (subst (λ ys. FindsInTurn words a (generators_of ys) q) c.split_at.ensures.front seeded-2))

pub ask_mix-returns-in_ok-place-in-Declines-clause-item : goal.ask_mix-returns-in_ok-place-in-Declines-clause-item
ask_mix-returns-in_ok-place-in-Declines-clause-item t c =
    let words = word c.args.words.now.seed in
    let a = ask_of c.args.asker c.args.idle.now in
    let p = c.args.words.now.place in
    let xs = c.args.children.now in
    let n = c.next.result % length xs in
    let some = not_nil (length xs) (sym c.is_empty.ensures ∙ c.if-is_empty.false) in
    let below : n < length xs = omega (arith, some) in
    let q = c.ask_in_turn.new.words.place in
    let j = c.in_ok-behind.behind in
    let later = c.in-Declines.later in
    let seeded = subst (λ s. DrawsInTurn (word s.seed) a (generators_of c.split_at.result.1.now) s.place (outcome_at (generators_of c.split_at.result.1.now) j c.in_ok-behind.answer q)) c.next.ensures.place c.in_ok-behind.ensures.answer in
    let told = subst (λ f. DrawsInTurn words a (generators_of c.split_at.result.1.now) (next_place p) (outcome_at (generators_of c.split_at.result.1.now) j f q)) c.in-Declines.is seeded in
    let vain = subst (λ ys. DrawsInTurn words a (generators_of ys) (next_place p) (declines later q)) c.split_at.ensures.back told in
    let same : c.ask_in_turn.new.words.seed ≡ c.args.words.now.seed = c.ask_in_turn.ensures.seed ∙ ap (λ s. s.seed) c.next.ensures.place in
    let r = c.ask_in_turn-in-Declines.new.words.place in
    let i = c.in_ok-place-in-Declines.place in
    let found = c.in_ok-place-in-Declines.answer in
    let seeded-2 = subst (λ s. DrawsInTurn (word s) a (generators_of c.split_at.result.0.now) q (outcome_at (generators_of c.split_at.result.0.now) i found r)) same c.in_ok-place-in-Declines.ensures.answer in
    let asked = subst (λ ys. DrawsInTurn words a (generators_of ys) q (outcome_at (generators_of ys) i found r)) c.split_at.ensures.front seeded-2 in
    let within = subst (λ ys. IsBelow (length ys) i found) c.split_at.ensures.front c.in_ok-place-in-Declines.ensures.below in
    let step = mix_then words a xs n p q r i later found below (ap (λ w. w % length xs) c.next.ensures.word) vain asked within in
    on_err_weaker c.under-in-Declines.result (λ is. finds_by words a (mix (generators_of xs)) p r (under i later found) (item_under i later found is) step) c.under-in-Declines.ensures.item
