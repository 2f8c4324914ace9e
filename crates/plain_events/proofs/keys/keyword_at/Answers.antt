use Rattle.std.proofs.Common.{◌≡◌, ◌∷◌, IsTrue, List, ℕ, sym, subst, arith}
use Rattle.edn.specs.Bytes.{is_letter, IsKeywordText}
use Rattle.plain_events.specs.Keys.{AreNameBytes}
use Rattle.plain_events.specs.Prefixes.{IsWordAt}
use Rattle.plain_events.proofs.Elements.{keyword_at}
use Rattle.plain_events.proofs.keys.keyword_at.Goals as goal

name_from : (name : List ℕ) (letter : ℕ) (more : List ℕ) → name ≡ letter ∷ more → AreNameBytes name → IsTrue (is_letter letter) → IsKeywordText name
name_from name letter more e a i = let b = subst AreNameBytes e a in subst IsKeywordText (sym e) (i, b.1)

pub returns : goal.returns
returns c =
    let first : c.args.text.now ≡ 58 ∷ c.in_ok-first.inner.now = grind arith in
    let name : c.name_bytes.result.0.now ≡ c.in_ok-letter.letter.now ∷ c.in_ok-letter.field-0-1.now = grind arith in
    let on : IsTrue (is_letter c.in_ok-letter.letter.now) = cc in
    let word : IsWordAt c.in_ok-first.inner.now c.name_bytes.result.0.now c.in_ok-rest.rest.now = record {
      behind = c.name_bytes.result.1.now;
      cut = c.name_bytes.ensures.whole;
      ends = c.in_ok-rest.ensures.ends;
      gap = c.in_ok-rest.ensures.gap;
    } in
    keyword_at first (name_from _ _ _ name c.name_bytes.ensures.inside on) word
