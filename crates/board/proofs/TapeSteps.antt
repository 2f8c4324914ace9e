-- A tape goes on by the cell alone that its last line names. So who holds that cell's pen knows the whole tape.
use Rattle.std.proofs.Common.{◌≡◌, ◌≢◌, ◌⊎◌, ℕ, zero, suc, ◌+◌, ◌<◌, ◌==◌, Bool, true, false, List, [], ◌∷◌, ◌++◌, length, refl, ap, sym, ◌∙◌, subst, inl, inr, arith, Option, Some, None, append_assoc, length-append}
use Rattle.std.specs.Prelude.{slice_set}
use Rattle.std.proofs.lemmas.List.{append-nil, length-set}
use Rattle.std.proofs.lemmas.Bool.Decides.{nat_tests}
use mathlib.Core.List.{IsPrefix}
use Rattle.logbook.specs.Pages.{Cell, cell, keeps, gives, adds, Nib, no_nib, may_write, step, Moves}
use Rattle.board.specs.declared.tape_rule.BookLine.{BookLine}
use Rattle.board.specs.TapeRule.{put_if, tape_of, later, next_of, IsHome, AreHome, IsKept, StaysHome, Makes, Opens, Adds, Confirms}
use Rattle.board.proofs.Prefixes.{prefix_whole}

-- cells

home_set : (cs : List Cell) (i n j : ℕ) → IsHome cs j → IsHome (slice_set cs i (n, true)) j
home_set [] i n j h = h
home_set (c ∷ cs) zero n zero h = refl
home_set (c ∷ cs) zero n (suc j) h = h
home_set (c ∷ cs) (suc i) n zero h = h
home_set (c ∷ cs) (suc i) n (suc j) h = home_set cs i n j h

home_now : (cs : List Cell) (i n : ℕ) → i < length cs → IsHome (slice_set cs i (n, true)) i
home_now [] i n in_it = absurd (omega arith)
home_now (c ∷ cs) zero n in_it = refl
home_now (c ∷ cs) (suc i) n in_it = home_now cs i n (omega arith)

home_more : (cs : List Cell) (x : Cell) (j : ℕ) → IsHome cs j → IsHome (cs ++ x ∷ []) j
home_more [] x j h = absurd (cc h)
home_more (c ∷ cs) x zero h = h
home_more (c ∷ cs) x (suc j) h = home_more cs x j h

home_in : (cs : List Cell) (j : ℕ) → IsHome cs j → j < length cs
home_in [] j h = absurd (cc h)
home_in (c ∷ cs) zero h = omega arith
home_in (c ∷ cs) (suc j) h = let r = home_in cs j h in omega arith

away : {A : Type 0} (cs : List Cell) (j : ℕ) → (cell cs j).1 ≡ false → IsHome cs j → A
away cs j gone here = absurd (cc (gone, here))

-- tapes

named_or : (b : Bool) (key : ℕ) (o : Option ℕ) → later o b key ≡ None → (o ≡ None) × (b ≡ false)
named_or b key (Some n) is = absurd (cc is)
named_or true key None is = absurd (cc is)
named_or false key None is = (refl, refl)

module _ {E : Type 0} where
  put_append : (b : Bool) (e : E) (xs ys : List E) → put_if b e (xs ++ ys) ≡ put_if b e xs ++ ys
  put_append true e xs ys = refl
  put_append false e xs ys = refl

  put_none : (b : Bool) (e : E) (xs : List E) → put_if b e xs ≡ [] → (b ≡ false) × (xs ≡ [])
  put_none true e xs is = absurd (cc is)
  put_none false e xs is = (refl, is)

  same_tape : (l : BookLine E) (tape : ℕ) → l.tape ≡ tape → (l.tape == tape) ≡ true
  same_tape l tape is = grind (arith, nat_tests)

  tape_same : (l : BookLine E) (tape : ℕ) → (l.tape == tape) ≡ true → l.tape ≡ tape
  tape_same l tape is = grind (arith, nat_tests)

  pub tape_append : (tape : ℕ) (xs ys : List (BookLine E)) → tape_of tape (xs ++ ys) ≡ tape_of tape xs ++ tape_of tape ys
  tape_append tape [] ys = refl
  tape_append tape (x ∷ xs) ys = ap (put_if (x.tape == tape) x.entry) (tape_append tape xs ys) ∙ put_append (x.tape == tape) x.entry (tape_of tape xs) (tape_of tape ys)

  pub tape_prefix : (tape : ℕ) (xs ys : List (BookLine E)) → IsPrefix xs ys → IsPrefix (tape_of tape xs) (tape_of tape ys)
  tape_prefix tape xs ys p = (tape_of tape p.0, sym (tape_append tape xs p.0) ∙ ap (tape_of tape) p.1)

  tape_one : (l : BookLine E) → tape_of l.tape (l ∷ []) ≡ l.entry ∷ []
  tape_one l = ap (λ b. put_if b l.entry []) (same_tape l l.tape refl)

  tape_on : (log : List (BookLine E)) (l : BookLine E) → tape_of l.tape (log ++ l ∷ []) ≡ tape_of l.tape log ++ l.entry ∷ []
  tape_on log l = tape_append l.tape log (l ∷ []) ∙ ap (λ w. tape_of l.tape log ++ w) (tape_one l)

  tape_off : (tape : ℕ) (log : List (BookLine E)) (l : BookLine E) → (l.tape == tape) ≡ false → tape_of tape (log ++ l ∷ []) ≡ tape_of tape log
  tape_off tape log l other = tape_append tape log (l ∷ []) ∙ (ap (λ b. tape_of tape log ++ put_if b l.entry []) other ∙ append-nil (tape_of tape log))

  -- the last line of the tape names this cell
  abbrev Last : ℕ → ℕ → List (BookLine E) → Type 0
  Last tape next [] = ⊥
  Last tape next (l ∷ ls) = Last tape next ls ⊎ ((l.tape ≡ tape) × (l.next ≡ next) × (tape_of tape ls ≡ []))

  none_named : (tape : ℕ) (ls : List (BookLine E)) → next_of tape ls ≡ None → tape_of tape ls ≡ []
  none_named tape [] is = refl
  none_named tape (l ∷ ls) is =
      let n = named_or (l.tape == tape) l.next (next_of tape ls) is in
      ap (λ b. put_if b l.entry (tape_of tape ls)) n.1 ∙ none_named tape ls n.0

  no_name : (tape : ℕ) (ls : List (BookLine E)) → tape_of tape ls ≡ [] → next_of tape ls ≡ None
  no_name tape [] is = refl
  no_name tape (l ∷ ls) is =
      let n = put_none (l.tape == tape) l.entry (tape_of tape ls) is in
      ap (λ o. later o (l.tape == tape) l.next) (no_name tape ls n.1) ∙ ap (λ b. later None b l.next) n.0

  to_last : (tape next : ℕ) (ls : List (BookLine E)) → next_of tape ls ≡ Some next → Last tape next ls
  to_last tape next [] is = absurd (cc is)
  to_last tape next (l ∷ ls) is = go (λ e. to_last tape next ls e) (next_of tape ls) refl (l.tape == tape) refl is where
    go : (next_of tape ls ≡ Some next → Last tape next ls) → (o : Option ℕ) → next_of tape ls ≡ o → (b : Bool) → (l.tape == tape) ≡ b → later o b l.next ≡ Some next → Last tape next ls ⊎ ((l.tape ≡ tape) × (l.next ≡ next) × (tape_of tape ls ≡ []))
    go rest (Some n) at b here e = inl (rest (at ∙ e))
    go rest None at true here e = inr (tape_same l tape here, cc e, none_named tape ls at)
    go rest None at false here e = absurd (cc e)

  from_last : (tape next : ℕ) (ls : List (BookLine E)) → Last tape next ls → next_of tape ls ≡ Some next
  from_last tape next [] last = absurd last
  from_last tape next (l ∷ ls) (inl last) = ap (λ o. later o (l.tape == tape) l.next) (from_last tape next ls last)
  from_last tape next (l ∷ ls) (inr last) =
      ap (λ o. later o (l.tape == tape) l.next) (no_name tape ls last.2) ∙ (ap (λ b. later None b l.next) (same_tape l tape last.0) ∙ ap Some last.1)

  ends_on : (log : List (BookLine E)) (l : BookLine E) → Last l.tape l.next (log ++ l ∷ [])
  ends_on [] l = inr (refl, refl, refl)
  ends_on (x ∷ log) l = inl (ends_on log l)

  ends_some : (tape next : ℕ) (log : List (BookLine E)) → Last tape next log → tape_of tape log ≢ []
  ends_some tape next [] ends none = ends
  ends_some tape next (l ∷ ls) (inl ends) none = ends_some tape next ls ends (put_none (l.tape == tape) l.entry (tape_of tape ls) none).1
  ends_some tape next (l ∷ ls) (inr last) none = absurd (cc (same_tape l tape last.0, (put_none (l.tape == tape) l.entry (tape_of tape ls) none).0))

  homes_on : (cs ds : List Cell) (log : List (BookLine E)) → ((j : ℕ) → IsHome cs j → IsHome ds j) → AreHome cs log → AreHome ds log
  homes_on cs ds [] on h = tt
  homes_on cs ds (l ∷ ls) on h = (on l.tape h.0, λ some. on l.next (h.1 some), homes_on cs ds ls on h.2)

  -- a tape whose word is away has no line
  none_yet : (cs : List Cell) (log : List (BookLine E)) (tape : ℕ) → AreHome cs log → (cell cs tape).1 ≡ false → tape_of tape log ≡ []
  none_yet cs [] tape h gone = refl
  none_yet cs (l ∷ ls) tape h gone = none_here (none_yet cs ls tape h.2 gone) (l.tape == tape) refl where
    none_here : tape_of tape ls ≡ [] → (b : Bool) → (l.tape == tape) ≡ b → put_if b l.entry (tape_of tape ls) ≡ []
    none_here rest true is = away cs tape gone (subst (IsHome cs) (tape_same l tape is) h.0)
    none_here rest false is = rest

  word_home : (cs : List Cell) (ts more : List (BookLine E)) (tape next : ℕ) → AreHome cs (ts ++ more) → Last tape next ts → IsHome cs tape
  word_home cs [] more tape next h ends = absurd ends
  word_home cs (l ∷ ls) more tape next h (inl ends) = word_home cs ls more tape next h.2 ends
  word_home cs (l ∷ ls) more tape next h (inr last) = subst (IsHome cs) last.0 h.0

  -- while the cell that the last line names is away, the tape has no further line
  no_more : (cs : List Cell) (ts more : List (BookLine E)) (tape next : ℕ) → AreHome cs (ts ++ more) → Last tape next ts → (cell cs next).1 ≡ false → tape_of tape more ≡ []
  no_more cs [] more tape next h ends gone = absurd ends
  no_more cs (l ∷ ls) more tape next h (inl ends) gone = no_more cs ls more tape next h.2 ends gone
  no_more cs (l ∷ ls) more tape next h (inr last) gone = empty (tape_of tape more) refl where
    empty : (es : List E) → tape_of tape more ≡ es → es ≡ []
    empty [] is = refl
    empty (e ∷ es) is =
        let rest : tape_of l.tape (ls ++ more) ≡ e ∷ es = ap (λ t. tape_of t (ls ++ more)) last.0 ∙ (tape_append tape ls more ∙ (ap (λ w. w ++ tape_of tape more) last.2 ∙ is)) in
        away cs next gone (subst (IsHome cs) last.1 (h.1 (λ none. absurd (cc (rest, none)))))

  -- a line more
  homes_more : (cs : List Cell) (log : List (BookLine E)) (l : BookLine E) (next : ℕ) → AreHome cs log → IsHome cs l.tape → IsHome cs next
      → Last l.tape next log ⊎ (tape_of l.tape log ≡ []) → AreHome cs (log ++ l ∷ [])
  homes_more cs [] l next h word named before = (word, λ some. absurd (some refl), tt)
  homes_more cs (x ∷ log) l next h word named before = (h.0, here before (l.tape == x.tape) refl, homes_more cs log l next h.2 word named (rest before)) where
    rest : Last l.tape next (x ∷ log) ⊎ (tape_of l.tape (x ∷ log) ≡ []) → Last l.tape next log ⊎ (tape_of l.tape log ≡ [])
    rest (inl (inl ends)) = inl ends
    rest (inl (inr last)) = inr last.2
    rest (inr none) = inr (put_none (x.tape == l.tape) x.entry (tape_of l.tape log) none).1

    here : Last l.tape next (x ∷ log) ⊎ (tape_of l.tape (x ∷ log) ≡ []) → (b : Bool) → (l.tape == x.tape) ≡ b → tape_of x.tape (log ++ l ∷ []) ≢ [] → IsHome cs x.next
    here before false other some = h.1 (λ none. some (tape_off x.tape log l other ∙ none))
    here (inl (inl ends)) true is some = h.1 (λ none. ends_some l.tape next log ends (ap (λ t. tape_of t log) (tape_same l x.tape is) ∙ none))
    here (inl (inr last)) true is some = subst (IsHome cs) (sym last.1) named
    here (inr none) true is some = absurd (cc (same_tape x l.tape (sym (tape_same l x.tape is)), (put_none (x.tape == l.tape) x.entry (tape_of l.tape log) none).0))

  -- an entry between two logs with one tape has that tape
  alone : (cs : List Cell) (t v log : List (BookLine E)) (tape next : ℕ) → AreHome cs log → IsPrefix t v → IsPrefix v log → Last tape next t → (cell cs next).1 ≡ false
      → (length (tape_of tape v) ≡ length (tape_of tape t)) × (tape_of tape log ≡ tape_of tape v) × IsHome cs tape
  alone cs t v log tape next h p q ends gone =
      let split : t ++ (p.0 ++ q.0) ≡ log = sym (append_assoc t p.0 q.0) ∙ (ap (λ w. w ++ q.0) p.1 ∙ q.1) in
      let h' : AreHome cs (t ++ (p.0 ++ q.0)) = subst (AreHome cs) (sym split) h in
      let more : tape_of tape (p.0 ++ q.0) ≡ [] = no_more cs t (p.0 ++ q.0) tape next h' ends gone in
      let two : tape_of tape p.0 ++ tape_of tape q.0 ≡ [] = sym (tape_append tape p.0 q.0) ∙ more in
      let size : length (tape_of tape p.0) + length (tape_of tape q.0) ≡ 0 = sym (length-append (tape_of tape p.0) (tape_of tape q.0)) ∙ ap length two in
      let last : tape_of tape q.0 ≡ [] = nothing (tape_of tape q.0) (omega arith) in
      let len : length (tape_of tape v) ≡ length (tape_of tape t) + length (tape_of tape p.0) = sym (ap (λ w. length (tape_of tape w)) p.1) ∙ (ap length (tape_append tape t p.0) ∙ length-append (tape_of tape t) (tape_of tape p.0)) in (
        omega arith,
        sym (ap (tape_of tape) q.1) ∙ (tape_append tape v q.0 ∙ (ap (λ w. tape_of tape v ++ w) last ∙ append-nil (tape_of tape v))),
        word_home cs t (p.0 ++ q.0) tape next h' ends,
      ) where
        nothing : (es : List E) → length es ≡ 0 → es ≡ []
        nothing [] is = refl
        nothing (e ∷ es) is = absurd (omega arith)

-- steps

-- cells once the pen's word was brought home by a step on another word
given : (f : ℕ → ℕ) (cs : List Cell) (key : ℕ) (p : Nib) → p.key < length cs
    → ((j : ℕ) → IsHome cs j → IsHome (slice_set (slice_set cs key (f (cell cs key).0, true)) p.key (p.value, true)) j) × IsHome (slice_set (slice_set cs key (f (cell cs key).0, true)) p.key (p.value, true)) p.key
given f cs key p in_it = (
  λ j is. home_set (slice_set cs key (f (cell cs key).0, true)) p.key p.value j (home_set cs key (f (cell cs key).0) j is),
  home_now (slice_set cs key (f (cell cs key).0, true)) p.key p.value (omega (arith, length-set cs key (f (cell cs key).0, true))),
)

module _ {E : Type 0} (f : ℕ → ℕ) where
  pub makes_moves : (key : ℕ) (v : List (BookLine E)) (e : BookLine E) → StaysHome v key
      → Moves IsKept (λ log. []) (λ before after answer. Unit {0}) key (v, (no_nib, None)) f (Makes (step key 0 0 e) (v, (no_nib, None)))
  makes_moves key v e stays cs log kept pre none =
      let h = stays cs log kept pre in
      let word : Cell = (f (cell cs key).0, true) in
      let on : (j : ℕ) → IsHome cs j → IsHome (slice_set cs key word ++ (0, false) ∷ []) j = λ j is. home_more (slice_set cs key word) (0, false) j (home_set cs key (f (cell cs key).0) j is) in (
        home_in cs key h,
        h,
        (
          adds,
          [],
          None,
          tt,
          record { first = on 0 kept.first; lines = subst (AreHome (slice_set cs key word ++ (0, false) ∷ [])) (sym (append-nil log)) (homes_on cs (slice_set cs key word ++ (0, false) ∷ []) log on kept.lines) },
          inl (refl, refl),
          (length cs, refl),
        ),
      )

  pub opens_moves : (p : Nib) (v : List (BookLine E)) (e : BookLine E) → p.right ≡ may_write → e.tape ≡ p.key
      → Moves IsKept (λ log. []) (λ before after answer. Unit {0}) 0 (v, (p, None)) f (Opens (step 0 0 0 e) (v, (p, None)))
  opens_moves p v e right is cs log kept pre off =
      let out = off right in
      let none : tape_of e.tape log ≡ [] = ap (λ t. tape_of t log) is ∙ none_yet cs log p.key kept.lines out.1 in
      let ds = slice_set (slice_set cs 0 (f (cell cs 0).0, true)) p.key (p.value, true) in
      let on = given f cs 0 p out.0 in
      let word : IsHome ds e.tape = subst (IsHome ds) (sym is) on.1 in (
        home_in cs 0 kept.first,
        kept.first,
        (
          gives,
          e ∷ [],
          None,
          right,
          record { first = on.0 0 kept.first; lines = homes_more ds log e e.tape (homes_on cs ds log on.0 kept.lines) word word (inr none) },
          inl (refl, refl),
          (tape_on log e ∙ ap (λ w. w ++ e.entry ∷ []) none, from_last e.tape e.next (log ++ e ∷ []) (ends_on log e)),
        ),
      )

  ends_still : (tape next : ℕ) (t v : List (BookLine E)) → IsPrefix t v → Last tape next t → length (tape_of tape v) ≡ length (tape_of tape t) → Last tape next v
  ends_still tape next t v p ends len = subst (Last tape next) p.1 (go t p.0 ends (small (tape_of tape p.0) (omega (arith, len, sym (ap (λ w. length (tape_of tape w)) p.1) ∙ (ap length (tape_append tape t p.0) ∙ length-append (tape_of tape t) (tape_of tape p.0)))))) where
    small : (es : List E) → length es ≡ 0 → es ≡ []
    small [] is = refl
    small (e ∷ es) is = absurd (omega arith)

    go : (ls more : List (BookLine E)) → Last tape next ls → tape_of tape more ≡ [] → Last tape next (ls ++ more)
    go [] more e none = absurd e
    go (l ∷ ls) more (inl e) none = inl (go ls more e none)
    go (l ∷ ls) more (inr last) none = inr (last.0, last.1, tape_append tape ls more ∙ (ap (λ w. w ++ tape_of tape more) last.2 ∙ none))

  pub adds_moves : (p : Nib) (t v : List (BookLine E)) (e : BookLine E) (old new : ℕ) → p.right ≡ may_write → IsPrefix t v → next_of e.tape t ≡ Some p.key → length (tape_of e.tape t) ≡ old + 1
      → Moves IsKept (λ log. []) (λ before after answer. Unit {0}) e.tape (v, (p, None)) f (Adds (step e.tape old new e) (v, (p, None)))
  adds_moves p t v e old new right at named len cs log kept pre off =
      let ends = to_last e.tape p.key t named in
      let out = off right in
      let one = alone cs t v log e.tape p.key kept.lines at pre ends out.1 in
      let ds = slice_set (slice_set cs e.tape (f (cell cs e.tape).0, true)) p.key (p.value, true) in
      let on = given f cs e.tape p out.0 in
      let here : Last e.tape p.key v = ends_still e.tape p.key t v at ends one.0 in
      let last : Last e.tape p.key log = ends_still e.tape p.key v log pre here (ap length one.1) in (
        home_in cs e.tape one.2,
        one.2,
        (
          gives,
          e ∷ [],
          None,
          right,
          record { first = on.0 0 kept.first; lines = homes_more ds log e p.key (homes_on cs ds log on.0 kept.lines) (on.0 e.tape one.2) on.1 (inl last) },
          inl (refl, refl),
          (one.0 ∙ len, tape_on log e ∙ ap (λ w. w ++ e.entry ∷ []) one.1, from_last e.tape e.next (log ++ e ∷ []) (ends_on log e)),
        ),
      )

  pub confirms_moves : (p : Nib) (t v : List (BookLine E)) (e : BookLine E) (old new : ℕ) → p.right ≡ may_write → IsPrefix t v → next_of e.tape t ≡ Some p.key → length (tape_of e.tape t) ≡ old + 1
      → Moves IsKept (λ log. []) (λ before after answer. Unit {0}) e.tape (v, (p, None)) f (Confirms (step e.tape old new e) (v, (p, None)))
  confirms_moves p t v e old new right at named len cs log kept pre off =
      let out = off right in
      let one = alone cs t v log e.tape p.key kept.lines at pre (to_last e.tape p.key t named) out.1 in
      let ds = slice_set cs e.tape (f (cell cs e.tape).0, true) in
      let on : (j : ℕ) → IsHome cs j → IsHome ds j = λ j is. home_set cs e.tape (f (cell cs e.tape).0) j is in (
        home_in cs e.tape one.2,
        one.2,
        (
          keeps,
          [],
          None,
          tt,
          record { first = on 0 kept.first; lines = subst (AreHome ds) (sym (append-nil log)) (homes_on cs ds log on kept.lines) },
          inl (refl, refl),
          (one.0 ∙ len, refl),
        ),
      )

-- the effects of the steps of the tape's holder
module _ {E : Type 0} where
  -- the word of a tape that was seen to end somewhere stays at home
  pub stays : (tape next : ℕ) (t : List (BookLine E)) → next_of tape t ≡ Some next → StaysHome t tape
  stays tape next t named cells log kept pre = word_home cells t pre.0 tape next (subst (AreHome cells) (sym pre.1) kept.lines) (to_last tape next t named)

  pub confirmed : (t mine both : List (BookLine E)) (ask e : BookLine E) (old : ℕ) → ask ≡ e → IsPrefix t both → IsPrefix mine both → length (tape_of e.tape t) ≡ old + 1
      → length (tape_of ask.tape both) ≡ old + 1 → (tape_of e.tape t ≡ tape_of e.tape both) × IsPrefix (tape_of e.tape mine) (tape_of e.tape t)
  confirmed t mine both ask e old is p q len found =
      let found' : length (tape_of e.tape both) ≡ old + 1 = subst (λ (a : BookLine E). length (tape_of a.tape both) ≡ old + 1) is found in
      let whole : tape_of e.tape t ≡ tape_of e.tape both = prefix_whole (tape_of e.tape t) (tape_of e.tape both) (tape_prefix e.tape t both p) (omega (arith, found', len)) in
      (whole, subst (λ l. IsPrefix (tape_of e.tape mine) l) (sym whole) (tape_prefix e.tape mine both q))

  pub added : (t mine both new : List (BookLine E)) (ask e : BookLine E) (old : ℕ) → ask ≡ e → IsPrefix t both → IsPrefix mine both → length (tape_of e.tape t) ≡ old + 1
      → (length (tape_of ask.tape both) ≡ old + 1) × (tape_of ask.tape new ≡ tape_of ask.tape both ++ ask.entry ∷ []) × (next_of ask.tape new ≡ Some ask.next)
      → (tape_of e.tape new ≡ tape_of e.tape t ++ e.entry ∷ []) × (next_of e.tape new ≡ Some e.next) × IsPrefix (tape_of e.tape mine) (tape_of e.tape t)
  added t mine both new ask e old is p q len then =
      let done = confirmed t mine both ask e old is p q len then.0 in
      let all : tape_of e.tape new ≡ tape_of e.tape both ++ e.entry ∷ [] = subst (λ (a : BookLine E). tape_of a.tape new ≡ tape_of a.tape both ++ a.entry ∷ []) is then.1 in
      let on : next_of e.tape new ≡ Some e.next = subst (λ (a : BookLine E). next_of a.tape new ≡ Some a.next) is then.2 in
      (all ∙ ap (λ w. w ++ e.entry ∷ []) (sym done.0), on, done.1)
