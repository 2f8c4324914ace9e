-- An input is cut in one way.
use Rattle.std.proofs.Common.{◌≡◌, ◌≢◌, ℕ, List, [], ◌∷◌, ◌++◌, refl, sym, ◌∙◌, append_assoc, subst}
use Rattle.std.specs.Prelude.{flat_map}
use Rattle.std.specs.List.{AllByRecursion}
use Rattle.std.proofs.lemmas.List.Elements.{recursion_from_All}
use Rattle.line_loop.specs.Lines.{ended, IsLine, Cuts, last_line}
use Rattle.line_loop.specs.ReplyText.{Replies, IsReplyText}

abbrev Plain : List ℕ → Type 0
Plain xs = AllByRecursion (λ b. b ≢ 10) xs

-- one line and what follows
same_line : (l m xs ys : List ℕ) → Plain l → Plain m → l ++ 10 ∷ xs ≡ m ++ 10 ∷ ys → (l ≡ m) × (xs ≡ ys)
same_line [] [] xs ys p q e = (refl, cc)
same_line [] (b ∷ m) xs ys p q e = absurd (q.0 (let first : 10 ≡ b = cc in sym first))
same_line (a ∷ l) [] xs ys p q e = absurd (p.0 (let first : a ≡ 10 = cc in first))
same_line (a ∷ l) (b ∷ m) xs ys p q e =
    let first : a ≡ b = cc in
    let tail : l ++ 10 ∷ xs ≡ m ++ 10 ∷ ys = cc in
    let (here, there) = same_line l m xs ys p.1 q.1 tail in
    (cc, there)

-- a rest has no line feed
no_feed : (rest m ys : List ℕ) → Plain rest → rest ≡ m ++ 10 ∷ ys → ⊥
no_feed [] [] ys p e = cc
no_feed [] (b ∷ m) ys p e = cc
no_feed (a ∷ rest) [] ys p e = p.0 (let first : a ≡ 10 = cc in first)
no_feed (a ∷ rest) (b ∷ m) ys p e = no_feed rest m ys p.1 (let tail : rest ≡ m ++ 10 ∷ ys = cc in tail)

abbrev Plains : List (List ℕ) → Type 0
Plains ls = AllByRecursion IsLine ls

same_cut : (ls ms : List (List ℕ)) (r s : List ℕ) → Plains ls → Plains ms → Plain r → Plain s → flat_map ended ls ++ r ≡ flat_map ended ms ++ s → (ls ≡ ms) × (r ≡ s)
same_cut [] [] r s p q pr ps e = (refl, e)
same_cut [] (m ∷ ms) r s p q pr ps e = absurd (no_feed r m (flat_map ended ms ++ s) pr (e ∙ append_assoc (ended m) (flat_map ended ms) s ∙ append_assoc m (10 ∷ []) (flat_map ended ms ++ s)))
same_cut (l ∷ ls) [] r s p q pr ps e = absurd (no_feed s l (flat_map ended ls ++ r) ps (sym e ∙ append_assoc (ended l) (flat_map ended ls) r ∙ append_assoc l (10 ∷ []) (flat_map ended ls ++ r)))
same_cut (l ∷ ls) (m ∷ ms) r s p q pr ps e =
    let left = append_assoc (ended l) (flat_map ended ls) r ∙ append_assoc l (10 ∷ []) (flat_map ended ls ++ r) in
    let right = append_assoc (ended m) (flat_map ended ms) s ∙ append_assoc m (10 ∷ []) (flat_map ended ms ++ s) in
    let (here, there) = same_line l m _ _ (recursion_from_All (λ b. b ≢ 10) l p.0) (recursion_from_All (λ b. b ≢ 10) m q.0) (sym left ∙ e ∙ right) in
    let (others, rest) = same_cut ls ms r s p.1 q.1 pr ps there in
    (cc, rest)

pub one_cut_law : (input : List ℕ) (lines : List (List ℕ)) (rest : List ℕ) (others : List (List ℕ)) (other : List ℕ) → Cuts input lines rest → Cuts input others other → (lines ≡ others) × (rest ≡ other)
one_cut_law input lines rest others other a b =
    same_cut lines others rest other (recursion_from_All IsLine lines a.each) (recursion_from_All IsLine others b.each) (recursion_from_All (λ x. x ≢ 10) rest a.partial) (recursion_from_All (λ x. x ≢ 10) other b.partial) (sym a.whole ∙ b.whole)

module _ {S : Type 0} (may : S → List ℕ → List ℕ → S → Type 0) (one : (old : S) (line text other : List ℕ) (new next : S) → may old line text new → may old line other next → (text ≡ other) × (new ≡ next)) where
  one_run : (lines : List (List ℕ)) (old : S) (text other : List ℕ) (new next : S) → Replies may old lines text new → Replies may old lines other next → (text ≡ other) × (new ≡ next)
  one_run [] old text other new next a b = (a.0 ∙ sym b.0, a.1 ∙ sym b.1)
  one_run (line ∷ lines) old text other new next a b =
      let (mid, first, others, answered, run, whole) = a in
      let (mid', first', others', answered', run', whole') = b in
      let (same, at) = one old line first first' mid mid' answered answered' in
      let (rest, end) = one_run lines mid' others others' new next (subst (λ s. Replies may s lines others new) at run) run' in
      (cc, end)

  pub one_reply_text_law : (old : S) (input text other : List ℕ) (new next : S) → IsReplyText may old input text new → IsReplyText may old input other next → (text ≡ other) × (new ≡ next)
  one_reply_text_law old input text other new next a b =
      let (lines, rest) = one_cut_law input a.lines a.rest b.lines b.rest a.cut b.cut in
      let same : a.lines ++ last_line a.rest ≡ b.lines ++ last_line b.rest = cc in
      one_run (b.lines ++ last_line b.rest) old text other new next (subst (λ l. Replies may old l text new) same a.run) b.run
