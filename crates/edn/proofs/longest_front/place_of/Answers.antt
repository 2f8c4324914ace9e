use Rattle.std.proofs.Common.{◌≡◌, ℕ, ◌+◌, ◌-◌, ◌<◌, ◌≤◌, ◌⊎◌, inl, inr, List, [], ◌∷◌, length, refl, sym, ap, subst, arith, add-one, Err, length-append, ◌∙◌, ◌+◌}
use Rattle.edn.specs.Text.{IsLongestTextPrefix}
use Rattle.edn.proofs.Beginnings.{no_piece, line_shorter, reads_shorter}
use Rattle.edn.proofs.Prefixes.{AtHead, head_start, set_best, head_white, head_comment, head_discard, head_read, head_end, head_atom, atom_on, only_atoms, two_owed, nothing_left}
use Rattle.edn.proofs.longest_front.place_of.Goals as goal
use Rattle.edn.proofs.longest_front.place_of.Goals.{then-owed-eq0, else-owed-eq0}

pub elements-init : goal.elements-init
elements-init c = record { head = head_start c.args.bytes.now; fewer = omega arith }

pub elements-preserved-in-Some : goal.elements-preserved-in-Some
elements-preserved-in-Some c =
    let how : ((c.elements.owed ≡ 0) × (c.if-owed-eq0.best ≡ length c.args.bytes.now - length c.elements.rest.now)) ⊎ ((0 < c.elements.owed) × (c.if-owed-eq0.best ≡ c.elements.best)) =
    elim c.if-owed-eq0.branch [ then-owed-eq0 w ↦ inl (omega arith, omega arith) | else-owed-eq0 w ↦ inr (omega arith, omega arith) ] in
    let now = set_best _ _ _ _ _ how c.elements.invariant.head in
    let found = c.in-Some.ensures.found in
    let n = ap length found.1 in
    let s = subst (λ r. AtHead c.args.bytes.now c.elements.owed r c.if-owed-eq0.best) found.1 now.0 in
    let here = subst (λ r. (c.elements.owed ≡ 0) → length c.args.bytes.now ≤ c.if-owed-eq0.best + length r) found.1 now.1 in
    record { head = head_white _ _ _ _ _ found.2 here s; fewer = omega arith }

pub elements-smaller-in-Some-after : goal.elements-smaller-in-Some-after
elements-smaller-in-Some-after c =
    let n = ap length c.in-Some-after.ensures.found in
    let m = line_shorter c.line_end-rest.ensures in
    omega arith

pub elements-preserved-in-Some-after : goal.elements-preserved-in-Some-after
elements-preserved-in-Some-after c =
    let how : ((c.elements.owed ≡ 0) × (c.if-owed-eq0.best ≡ length c.args.bytes.now - length c.elements.rest.now)) ⊎ ((0 < c.elements.owed) × (c.if-owed-eq0.best ≡ c.elements.best)) =
    elim c.if-owed-eq0.branch [ then-owed-eq0 w ↦ inl (omega arith, omega arith) | else-owed-eq0 w ↦ inr (omega arith, omega arith) ] in
    let now = set_best _ _ _ _ _ how c.elements.invariant.head in
    let found = c.in-Some-after.ensures.found in
    let n = ap length found in
    let m = line_shorter c.line_end-rest.ensures in
    let s = subst (λ r. AtHead c.args.bytes.now c.elements.owed r c.if-owed-eq0.best) found now.0 in
    let here = subst (λ r. (c.elements.owed ≡ 0) → length c.args.bytes.now ≤ c.if-owed-eq0.best + length r) found now.1 in
    record { head = head_comment _ _ _ _ _ c.line_end-rest.ensures here s; fewer = omega arith }

pub elements-preserved-in-Some-after_discard : goal.elements-preserved-in-Some-after_discard
elements-preserved-in-Some-after_discard c =
    let how : ((c.elements.owed ≡ 0) × (c.if-owed-eq0.best ≡ length c.args.bytes.now - length c.elements.rest.now)) ⊎ ((0 < c.elements.owed) × (c.if-owed-eq0.best ≡ c.elements.best)) =
    elim c.if-owed-eq0.branch [ then-owed-eq0 w ↦ inl (omega arith, omega arith) | else-owed-eq0 w ↦ inr (omega arith, omega arith) ] in
    let now = set_best _ _ _ _ _ how c.elements.invariant.head in
    let found = c.in-Some-after_discard.ensures.found in
    let n = ap length found in
    let s = subst (λ r. AtHead c.args.bytes.now c.elements.owed r c.if-owed-eq0.best) found now.0 in
    let here = subst (λ r. (c.elements.owed ≡ 0) → length c.args.bytes.now ≤ c.if-owed-eq0.best + length r) found now.1 in
    record { head = rw add-one (head_discard _ _ _ _ here s); fewer = omega arith }

pub returns-then-owed-gt1-clause-ok : goal.returns-then-owed-gt1-clause-ok
returns-then-owed-gt1-clause-ok c =
    let how : ((c.elements.owed ≡ 0) × (c.if-owed-eq0.best ≡ length c.args.bytes.now - length c.elements.rest.now)) ⊎ ((0 < c.elements.owed) × (c.if-owed-eq0.best ≡ c.elements.best)) =
    elim c.if-owed-eq0.branch [ then-owed-eq0 w ↦ inl (omega arith, omega arith) | else-owed-eq0 w ↦ inr (omega arith, omega arith) ] in
    let now = set_best _ _ _ _ _ how c.elements.invariant.head in
    let why = c.in-Err-Unreadable.ensures.unreadable (ap (λ x. Err x) c.in-Err-Unreadable.field-0-is) in
    let no_gap = no_piece c.elements.rest.now c.in_default.ensures.none c.in_default-after.ensures.none c.in_default-after_discard.ensures.none in
    head_end _ _ _ _ now.1 (two_owed _ _ c.if-owed-gt1.true no_gap why) now.0

pub returns-in_default-longest_atom-clause-ok : goal.returns-in_default-longest_atom-clause-ok
returns-in_default-longest_atom-clause-ok c =
    let how : ((c.elements.owed ≡ 0) × (c.if-owed-eq0.best ≡ length c.args.bytes.now - length c.elements.rest.now)) ⊎ ((0 < c.elements.owed) × (c.if-owed-eq0.best ≡ c.elements.best)) =
    elim c.if-owed-eq0.branch [ then-owed-eq0 w ↦ inl (omega arith, omega arith) | else-owed-eq0 w ↦ inr (omega arith, omega arith) ] in
    let now = set_best _ _ _ _ _ how c.elements.invariant.head in
    let why = c.in-Err-Unreadable.ensures.unreadable (ap (λ x. Err x) c.in-Err-Unreadable.field-0-is) in
    let no_gap = no_piece c.elements.rest.now c.in_default.ensures.none c.in_default-after.ensures.none c.in_default-after_discard.ensures.none in
    let none_longer = only_atoms c.elements.owed c.elements.rest.now 0 no_gap why (λ a z v i e. absurd (c.in_default-longest_atom.ensures.none a z v i e)) in
    head_end _ _ _ _ now.1 (λ j p h. (none_longer j p h).1) now.0

pub returns-in-Err-Unreadable-clause-ok : goal.returns-in-Err-Unreadable-clause-ok
returns-in-Err-Unreadable-clause-ok c =
    let how : ((c.elements.owed ≡ 0) × (c.if-owed-eq0.best ≡ length c.args.bytes.now - length c.elements.rest.now)) ⊎ ((0 < c.elements.owed) × (c.if-owed-eq0.best ≡ c.elements.best)) =
    elim c.if-owed-eq0.branch [ then-owed-eq0 w ↦ inl (omega arith, omega arith) | else-owed-eq0 w ↦ inr (omega arith, omega arith) ] in
    let now = set_best _ _ _ _ _ how c.elements.invariant.head in
    let why = c.in-Err-Unreadable.ensures.unreadable (ap (λ x. Err x) c.in-Err-Unreadable.field-0-is) in
    let no_gap = no_piece c.elements.rest.now c.in_default.ensures.none c.in_default-after.ensures.none c.in_default-after_discard.ensures.none in
    let most = c.in-Some-longest_atom.ensures.found in
    let left = c.in-Some-longest_atom.left.now in
    let none_longer = only_atoms c.elements.owed c.elements.rest.now (length most.front) no_gap why most.longest in
    let here = head_atom _ _ _ _ (length most.front) (atom_on _ _ _ left _ (omega arith) most.cut most.spells) (λ j p h. (none_longer j p h).1) now.0 in
    let n = ap length most.cut ∙ length-append most.front left in
    let place : length c.args.bytes.now - length left ≡ (length c.args.bytes.now - length c.elements.rest.now) + length most.front = omega arith in
    subst (IsLongestTextPrefix c.args.bytes.now) (sym place) here

pub elements-smaller : goal.elements-smaller
elements-smaller c = let m = reads_shorter c.in-Ok.ensures.ok in omega arith

pub elements-preserved : goal.elements-preserved
elements-preserved c =
    let how : ((c.elements.owed ≡ 0) × (c.if-owed-eq0.best ≡ length c.args.bytes.now - length c.elements.rest.now)) ⊎ ((0 < c.elements.owed) × (c.if-owed-eq0.best ≡ c.elements.best)) =
    elim c.if-owed-eq0.branch [ then-owed-eq0 w ↦ inl (omega arith, omega arith) | else-owed-eq0 w ↦ inr (omega arith, omega arith) ] in
    let now = set_best _ _ _ _ _ how c.elements.invariant.head in
    let e = c.in-Ok.ensures.ok in
    let m = reads_shorter e in
    let less : c.saturating_sub-owed.result ≡ c.elements.owed - 1 = grind arith in
    let next = head_read _ _ _ _ _ _ e now.1 now.0 in
    record { head = subst (λ k. AtHead c.args.bytes.now k c.in-Ok.next.now c.if-owed-eq0.best) (sym less) next; fewer = omega arith }

length-zero : (t : List ℕ) → length t ≡ 0 → t ≡ []
length-zero [] e = refl
length-zero (x ∷ t) e = absurd (omega arith)

at_the_end : (bytes rest : List ℕ) (owed best : ℕ) → length rest ≡ 0 → 0 < owed → AtHead bytes owed rest best → IsLongestTextPrefix bytes best
at_the_end bytes rest owed best e p h =
    let done = length-zero rest e in
    head_end bytes owed [] best (λ z. absurd (omega arith)) (λ j q k. nothing_left owed j q k) (subst (λ r. AtHead bytes owed r best) done h)

whole_text : (bytes rest : List ℕ) (owed best : ℕ) → length rest ≡ 0 → owed ≡ 0 → AtHead bytes owed rest best → IsLongestTextPrefix bytes (length bytes)
whole_text bytes rest owed best e p h =
    let done = length-zero rest e in
    let now = set_best bytes owed [] best (length bytes) (inl (p, omega arith)) (subst (λ r. AtHead bytes owed r best) done h) in
    head_end bytes owed [] (length bytes) now.1 (λ j q k. nothing_left owed j q k) now.0

pub returns-clause-ok : goal.returns-clause-ok
returns-clause-ok c = at_the_end _ _ _ _ (grind arith) (omega arith) c.elements.invariant.head

pub returns-then-owed-eq0-2-clause-ok : goal.returns-then-owed-eq0-2-clause-ok
returns-then-owed-eq0-2-clause-ok c = whole_text _ _ _ _ (grind arith) (omega arith) c.elements.invariant.head
