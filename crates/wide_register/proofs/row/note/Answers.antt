use Rattle.std.proofs.Common.{◌≡◌, ◌∙◌, ℤ, List, length, subst, sym, arith, take, drop, ◌++◌, to_z, of_z, w64}
use Rattle.std.proofs.lemmas.Int.{to_z-of_z}
use Rattle.wide_register.specs.declared.row.Passed.{Passed}
use Rattle.wide_register.proofs.Noting.{Noted, noted_there}
use Rattle.wide_register.proofs.Trimming.{settled}
use Rattle.wide_register.proofs.row.note.Goals as goal

pub returns-then-is_raised : goal.returns-then-is_raised
returns-then-is_raised c =
    let old = c.args.passed.now.items in
    let now = c.is_raised.new.passed in
    let same : to_z w64 (of_z w64 c.args.value) ≡ c.args.value = to_z-of_z w64 c.args.value c.ranges.value in
    let back = settled now old c.args.passed.now.len (omega arith) in
    subst (λ l. Noted old l c.args.value c.args.gap) (sym back)
    (subst (λ l. Noted l now c.args.value c.args.gap) c.deref_mut.ensures.value
    (subst (λ v. Noted c.deref_mut.result.now now v c.args.gap) same (c.is_raised.ensures.raised c.if-is_raised.true)))

pub returns : goal.returns
returns c =
    let old = c.args.passed.now.items in
    let now = c.is_raised.new.passed in
    let back = settled now old c.args.passed.now.len (omega arith) in
    let before : List Passed = take c.args.passed.now.len (now ++ drop (length now) old) in
    let kept : before ≡ old = back ∙ c.is_raised.ensures.other c.if-is_raised.false ∙ c.deref_mut.ensures.value in
    let passed : ℤ = to_z w64 (of_z w64 c.args.value) in
    let same : passed ≡ c.args.value = to_z-of_z w64 c.args.value c.ranges.value in
    subst (λ v. Noted old c.insert.new.self.items v c.args.gap) same
    (subst (λ l. Noted l c.insert.new.self.items passed c.args.gap) kept
    (subst (λ l. Noted before l passed c.args.gap) (sym c.in_ok-insert.ensures.items) (noted_there before c.place_of-at.result c.args.gap passed)))
