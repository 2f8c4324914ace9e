use Rattle.std.proofs.Common.{◌≡◌, [], ◌∷◌, ◌++◌, sym, ap, subst, rules}
use Rattle.std.specs.Str.{IsUtf8}
use Rattle.edn.specs.Text.{ReadsString}
use Rattle.edn.proofs.Strings.{string_more, string_closed, string_stuck, string_alone}
use Rattle.edn.proofs.string.string_of.Goals as goal

pub loop-byte-preserved : goal.loop-byte-preserved
loop-byte-preserved c =
    let pushed : c.push.new.self.items ≡ c.loop-byte.bytes.items ++ c.in-Some.byte ∷ [] = search rules in
    rw pushed (string_more _ _ _ _ _ c.in-Some.ensures.found c.loop-byte.invariant)

pub returns-in_default-after-clause-unreadable : goal.returns-in_default-after-clause-unreadable
returns-in_default-after-clause-unreadable c err s r h u =
    string_stuck _ _ _ c.in_default.ensures.none c.in_default-after.ensures.none c.loop-byte.invariant s r h

pub returns-in-Ok-clause-ok : goal.returns-in-Ok-clause-ok
returns-in-Ok-clause-ok c =
    let read = string_closed _ _ _ _ c.in-Some-after.ensures.found c.loop-byte.invariant in
    let same = ap (λ v. v.items) c.in-Ok.ensures.ok in
    subst (λ s. ReadsString c.args.text.now s c.in-Some-after.behind.now) (sym same) read

pub returns-clause-unreadable : goal.returns-clause-unreadable
returns-clause-unreadable c err s r h u =
    let read = string_closed _ _ _ _ c.in-Some-after.ensures.found c.loop-byte.invariant in
    string_alone _ _ _ read (λ (w : IsUtf8 c.loop-byte.bytes.items). cc (c.in-Err.ensures.succeeds w)) s r h u
