-- several blocks of a lock's history, left out one after another
use Rattle.std.proofs.Common.{◌≡◌, ◌≢◌, ℕ, ⊎_elim, Bool, false, not, List, [], ◌∷◌, ◌++◌, sym, ap, ◌∙◌, subst, append_assoc}
use Rattle.std.specs.List.{filter, Contains}
use Rattle.std.proofs.lemmas.Bool.{not-true}
use Rattle.std.proofs.lemmas.List.{append-nil}
use Rattle.std.proofs.lemmas.List.Elements.{Contains-append_left, filter-append}
use Rattle.models.specs.Objects.{mutex}
use Rattle.events.specs.Events.{Mark, IsPrefixOf}
use Rattle.linspec.specs.MarkRule.{AreWellFormed}
use Rattle.linspec.specs.Operations.{Precedes}
use Rattle.linspec.specs.Orders.{Taken, Includes, Run, IsLegalOrder, IsLinearizable}
use Rattle.linspec.proofs.Lists.{Pairwise-weaker}
use Rattle.linspec.proofs.Filters.{two_cuts, filter-all, filter-none, from_filter, to_filter, Pairwise-filter}
use Rattle.linspec.proofs.Marks.{Run-append, Run-cut}
use Rattle.shrinking_laws.specs.LeftOut.{without}
use Rattle.shrinking_laws.specs.Locks.{AreBlocks, without_each}
use Rattle.shrinking_laws.proofs.LeftOut.{from_without, to_without, Precedes-from_without}
use Rattle.shrinking_laws.proofs.Blocks.{Piece, one_end, piece_of}

module _ (order : List Taken) (out : ℕ → Bool) (piece : Piece order out) where
  abbrev stays : Taken → Bool
  stays x = not (out x.id)

  abbrev left : List Taken → List Taken
  left xs = filter stays xs

  left_before : left piece.before ≡ piece.before
  left_before = filter-all stays piece.before (λ z h. ap not (piece.others_before z h))

  left_after : left piece.after ≡ piece.after
  left_after = filter-all stays piece.after (λ z h. ap not (piece.others_after z h))

  left_middle : left piece.middle ≡ []
  left_middle = filter-none stays piece.middle (λ z h. ap not (piece.named z h))

  left_front : left (piece.before ++ piece.middle) ≡ piece.before
  left_front = filter-append stays piece.before piece.middle ∙ ap (λ l. left piece.before ++ l) left_middle ∙ append-nil (left piece.before) ∙ left_before

  front_and_after : (piece.before ++ piece.middle) ++ piece.after ≡ order
  front_and_after = append_assoc piece.before piece.middle piece.after ∙ piece.whole

  -- a front that leaves the lock free still does
  free_still : (front rest : List Taken) → front ++ rest ≡ order → Run mutex false front false → Run mutex false (left front) false
  free_still front rest whole free = ⊎_elim within beyond (two_cuts front rest (piece.before ++ piece.middle) piece.after (whole ∙ sym front_and_after))
    where
      -- it ends before the piece, or in it
      within : IsPrefixOf front (piece.before ++ piece.middle) → Run mutex false (left front) false
      within f = ⊎_elim
          (λ (g : IsPrefixOf front piece.before). subst (λ l. Run mutex false l false)
          (sym (filter-all stays front (λ z h. ap not (piece.others_before z (subst (λ l. Contains l z) g.1 (Contains-append_left front g.0 z h)))))) free)
          (λ (g : IsPrefixOf piece.before front).
          let more_in : (z : Taken) → Contains g.0 z → Contains piece.middle z = (λ z h. in_second piece.before (g.0 ++ f.0) piece.middle z (sym (append_assoc piece.before g.0 f.0) ∙ ap (λ l. l ++ f.0) g.1 ∙ f.1) (Contains-append_left g.0 f.0 z h)) in
          subst (λ l. Run mutex false l false)
          (sym (ap left (sym g.1) ∙ filter-append stays piece.before g.0 ∙ ap (λ l. left piece.before ++ l) (filter-none stays g.0 (λ z h. ap not (piece.named z (more_in z h)))) ∙ append-nil (left piece.before) ∙ left_before))
          piece.free_before)
          (two_cuts front rest piece.before (piece.middle ++ piece.after) (whole ∙ sym piece.whole))
        where
          in_second : (xs ys zs : List Taken) (z : Taken) → xs ++ ys ≡ xs ++ zs → Contains ys z → Contains zs z
          in_second [] ys zs z e h = subst (λ l. Contains l z) e h
          in_second (x ∷ xs) ys zs z e h = (let tail : xs ++ ys ≡ xs ++ zs = cc in in_second xs ys zs z tail h)

      -- it ends behind the piece
      beyond : IsPrefixOf (piece.before ++ piece.middle) front → Run mutex false (left front) false
      beyond f =
          let run : (u : Bool) × Run mutex false (piece.before ++ piece.middle) u × Run mutex u f.0 false = Run-cut mutex false false (piece.before ++ piece.middle) f.0 (subst (λ l. Run mutex false l false) (sym f.1) free) in
          let tail : Run mutex false f.0 false = subst (λ u. Run mutex u f.0 false) (one_end (piece.before ++ piece.middle) false run.0 false run.1 piece.free_after) run.2 in
          let after_in : (z : Taken) → Contains f.0 z → Contains piece.after z = (λ z h. in_rest (piece.before ++ piece.middle) (f.0 ++ rest) piece.after z (sym (append_assoc (piece.before ++ piece.middle) f.0 rest) ∙ ap (λ l. l ++ rest) f.1 ∙ whole ∙ sym front_and_after) (Contains-append_left f.0 rest z h)) in
          subst (λ l. Run mutex false l false)
          (sym (ap left (sym f.1) ∙ filter-append stays (piece.before ++ piece.middle) f.0 ∙ ap (λ l. l ++ left f.0) left_front ∙ ap (λ l. piece.before ++ l) (filter-all stays f.0 (λ z h. ap not (piece.others_after z (after_in z h))))))
          (Run-append mutex false false false piece.before f.0 piece.free_before tail)
        where
          in_rest : (xs ys zs : List Taken) (z : Taken) → xs ++ ys ≡ xs ++ zs → Contains ys z → Contains zs z
          in_rest [] ys zs z e h = subst (λ l. Contains l z) e h
          in_rest (x ∷ xs) ys zs z e h = (let tail : xs ++ ys ≡ xs ++ zs = cc in in_rest xs ys zs z tail h)

  -- the rest of another piece
  piece_still : (other : ℕ → Bool) → Piece order other → Piece (left order) other
  piece_still other q = record {
    before = left q.before;
    middle = left q.middle;
    after = left q.after;
    whole = sym (filter-append stays q.before (q.middle ++ q.after) ∙ ap (λ l. left q.before ++ l) (filter-append stays q.middle q.after)) ∙ ap left q.whole;
    free_before = free_still q.before (q.middle ++ q.after) q.whole q.free_before;
    free_after = subst (λ l. Run mutex false l false) (filter-append stays q.before q.middle) (free_still (q.before ++ q.middle) q.after (append_assoc q.before q.middle q.after ∙ q.whole) q.free_after);
    named = λ z h. q.named z (from_filter stays q.middle z h).0;
    others_before = λ z h. q.others_before z (from_filter stays q.before z h).0;
    others_after = λ z h. q.others_after z (from_filter stays q.after z h).0;
  }

  -- and of the order
  order_left : left order ≡ piece.before ++ piece.after
  order_left = ap left (sym front_and_after) ∙ filter-append stays (piece.before ++ piece.middle) piece.after ∙ ap (λ l. l ++ left piece.after) left_front ∙ ap (λ l. piece.before ++ l) left_after

  legal_still : (ms : List Mark) (end : Bool) → IsLegalOrder mutex ms order end → IsLegalOrder mutex (without out ms) (left order) end
  legal_still ms end l =
      let run : (u : Bool) × Run mutex false (piece.before ++ piece.middle) u × Run mutex u piece.after end = Run-cut mutex false end (piece.before ++ piece.middle) piece.after (subst (λ k. Run mutex false k end) (sym front_and_after) l.run) in
      record {
        invoked = λ x h. (let r = from_filter stays order x h in to_without out ms _ (l.invoked x r.0) (not-true (out x.id) r.1));
        once = Pairwise-filter stays (λ x y. x.id ≢ y.id) order l.once;
        none_failed = λ x h f. l.none_failed x (from_filter stays order x h).0 (from_without out ms _ f).0;
        all_done = λ id d. (
            let r = from_without out ms _ d.1 in
            let i : Includes order id = l.all_done id (d.0, r.0) in
            (i.0, to_filter stays order i.0 i.1 (ap not (ap out i.2 ∙ r.1)), i.2));
        in_time = Pairwise-weaker (λ x y. ¬ Precedes ms y.id x.id) (λ x y. ¬ Precedes (without out ms) y.id x.id) (left order) (λ x y i j n h. n (Precedes-from_without out ms y.id x.id h))
            (Pairwise-filter stays (λ x y. ¬ Precedes ms y.id x.id) order l.in_time);
        run = subst (λ k. Run mutex false k end) (sym order_left)
            (Run-append mutex false false end piece.before piece.after piece.free_before (subst (λ u. Run mutex u piece.after end) (one_end (piece.before ++ piece.middle) false run.0 false run.1 piece.free_after) run.2));
        fits = λ x answer h d. l.fits x answer (from_filter stays order x h).0 (from_without out ms _ d).0;
      }

abbrev Pieces : List Taken → List (ℕ → Bool) → Type 0
Pieces order [] = Unit {0}
Pieces order (out ∷ outs) = Piece order out × Pieces order outs

pieces_still : (order : List Taken) (out : ℕ → Bool) (piece : Piece order out) (outs : List (ℕ → Bool)) → Pieces order outs → Pieces (left order out piece order) outs
pieces_still order out piece [] h = tt
pieces_still order out piece (other ∷ outs) h = (piece_still order out piece other h.0, pieces_still order out piece outs h.1)

without_pieces : (outs : List (ℕ → Bool)) (ms : List Mark) (order : List Taken) (end : Bool) → IsLegalOrder mutex ms order end → Pieces order outs → IsLinearizable mutex (without_each outs ms)
without_pieces [] ms order end l h = (order, end, l)
without_pieces (out ∷ outs) ms order end l h =
    without_pieces outs (without out ms) (left order out h.0 order) end (legal_still order out h.0 ms end l) (pieces_still order out h.0 outs h.1)

pieces_of : (ms : List Mark) (well : AreWellFormed ms) (order : List Taken) (end : Bool) (l : IsLegalOrder mutex ms order end) (outs : List (ℕ → Bool)) → AreBlocks ms outs → Pieces order outs
pieces_of ms well order end l [] h = tt
pieces_of ms well order end l (out ∷ outs) h = (piece_of ms well order end l out h.0, pieces_of ms well order end l outs h.1)

pub without_blocks : (ms : List Mark) (outs : List (ℕ → Bool)) → AreWellFormed ms → AreBlocks ms outs → IsLinearizable mutex ms → IsLinearizable mutex (without_each outs ms)
without_blocks ms outs well blocks h = without_pieces outs ms h.0 h.1 h.2 (pieces_of ms well h.0 h.1 h.2 outs blocks)
