-- the lines of pieces, one after the other
use Rattle.std.proofs.Common.{◌≡◌, ◌≢◌, ℕ, zero, suc, ◌+◌, ◌<◌, ◌≤◌, nat_eq, ⊎_elim, None, List, [], ◌∷◌, ◌++◌, length, map, take, position, get_or, refl, sym, ap, ◌∙◌, subst, arith}
use Rattle.std.specs.List.{Contains, filter_map}
use Rattle.std.specs.Map.{keys_of}
use Rattle.std.proofs.lemmas.Grind.{common_steps}
use Rattle.std.proofs.lemmas.List.{take-map, take_more, length-map, length-take-le, get_or-map}
use Rattle.std.proofs.lemmas.Map.Made.{keys_of-map_values}
use Rattle.kinds.specs.declared.model_kind.ModelKind.{ModelKind}
use Rattle.events.specs.declared.event.Event.{Event}
use Rattle.events.specs.Events.{key_of}
use Rattle.history.specs.WellFormed.{IsHistoryOf}
use Rattle.linspec.specs.declared.verdict.Verdict.{Verdict}
use Rattle.linspec.specs.Orders.{Pairwise}
use Rattle.linspec.proofs.Lists.{Contains-nil, Contains-cons_cases}
use Rattle.linspec.specs.KeyHistory.{KeyHistory}
use Rattle.checkpoints.specs.KeyLineView.{KeyLineView}
use Rattle.parallel_recheck.specs.Pieces.{PieceView, piece_of, line_of}
use Rattle.linspec.specs.JudgedHistory.{keys_in_order, history_of_key}
use Rattle.monitor.specs.Rows.{nows, JoinsRows}
use Rattle.monitor.specs.Judged.{IsJudged, rows_of}
use Rattle.monitor.specs.Loading.{with_all, alone, pieces_of, row_of}
use Rattle.monitor.proofs.Changes.{JudgingLaw}
use Rattle.monitor.proofs.EachOnce.{each_once-apart}
use Rattle.monitor.proofs.KeyPlaces.{absent_position, keys_of-rows_by}

-- no element stands before itself
there : (xs : List ℕ) (n x : ℕ) → n < length xs → get_or xs n x ≡ x → Contains xs x
there xs n x lt at = grind (arith, common_steps)

not_before : (ks : List ℕ) (n k : ℕ) → Pairwise (λ i j. i ≢ j) ks → n < length ks → get_or ks n k ≡ k → ¬ Contains (take n ks) k
not_before [] n k apart lt at h = absurd (omega arith)
not_before (x ∷ ks) zero k apart lt at h = absurd (Contains-nil k h)
not_before (x ∷ ks) (suc n) k apart lt at h =
    ⊎_elim
    (λ e. apart.0 k (there ks n k (omega arith) at) e)
    (λ i. not_before ks n k apart.1 (omega arith) at i)
    (Contains-cons_cases x (take n ks) k h)

abbrev pub key_in : PieceView → ℕ
key_in piece = piece.key

keys_of_pieces : (pieces : List PieceView) → keys_of (map row_of pieces) ≡ map key_in pieces
keys_of_pieces [] = refl
keys_of_pieces (piece ∷ pieces) = ap (λ l. piece.key ∷ l) (keys_of_pieces pieces)

module _ (pieces : List PieceView) (n : ℕ) where
  -- the lines so far are as many
  pub lines_so_far : (rows : List (ℕ × KeyLineView)) → nows rows ≡ take n (map row_of pieces) → n ≤ length pieces → length rows ≡ n
  lines_so_far rows are le =
      sym (length-map rows (λ (row : ℕ × KeyLineView). (row.0, row.1.now)))
      ∙ ap length are ∙ length-take-le n (map row_of pieces) (omega (arith, length-map pieces row_of))

  module _ (piece : PieceView) (lt : n < length pieces) (is : piece ≡ get_or pieces n piece) where
    -- the next key has none yet
    pub key_is_new : (rows : List (ℕ × KeyLineView)) → Pairwise (λ i j. i ≢ j) (map key_in pieces) → nows rows ≡ take n (map row_of pieces) → position (nat_eq piece.key) (keys_of rows) ≡ None
    key_is_new rows apart are =
        subst (λ l. position (nat_eq piece.key) l ≡ None) (sym keys)
        (absent_position (take n (map key_in pieces)) piece.key (not_before (map key_in pieces) n piece.key apart (omega (arith, length-map pieces key_in)) at))
      where
        keys : keys_of rows ≡ take n (map key_in pieces)
        keys =
            sym (keys_of-map_values (λ (l : KeyLineView). l.now) rows) ∙ ap keys_of (are ∙ take-map row_of n pieces)
            ∙ keys_of_pieces (take n pieces) ∙ sym (take-map key_in n pieces)

        at : get_or (map key_in pieces) n piece.key ≡ piece.key
        at = get_or-map key_in pieces n piece piece.key lt ∙ ap key_in (sym is)

    -- the next line is that of its piece
    pub row_more : (line : KeyLineView) → line ≡ get_or (map line_of pieces) n line → take (n + 1) (map row_of pieces) ≡ take n (map row_of pieces) ++ (piece.key, line.now) ∷ []
    row_more line line_is =
        take_more (map row_of pieces) n (row_of piece) (omega (arith, length-map pieces row_of))
        ∙ ap (λ (r : ℕ × KeyHistory). take n (map row_of pieces) ++ r ∷ [])
        (get_or-map row_of pieces n piece (row_of piece) lt ∙ ap row_of (sym is) ∙ ap (λ (h : KeyHistory). (piece.key, h)) (sym now))
      where
        now : line.now ≡ piece.judged
        now = ap (λ (l : KeyLineView). l.now) (line_is ∙ get_or-map line_of pieces n piece line lt ∙ ap line_of (sym is))

-- the rows of a history's pieces are its rows
pieces_back : (rows : List (ℕ × KeyHistory)) → map row_of (map (λ (row : ℕ × PieceView). row.1) (map (λ (row : ℕ × KeyHistory). (row.0, piece_of row.0 row.1)) rows)) ≡ rows
pieces_back [] = refl
pieces_back (row ∷ rows) = ap (λ l. row ∷ l) (pieces_back rows)

module _ (kind : ModelKind) (budget : ℕ) (events : List Event) where
  pub pieces_apart : Pairwise (λ i j. i ≢ j) (map key_in (pieces_of kind budget events))
  pieces_apart = subst (Pairwise (λ i j. i ≢ j)) (sym keys) (each_once-apart (filter_map key_of events))
    where
      keys : map key_in (pieces_of kind budget events) ≡ keys_in_order events
      keys =
          sym (keys_of_pieces (pieces_of kind budget events)) ∙ ap keys_of (pieces_back (rows_of (alone kind budget events)))
          ∙ keys_of-rows_by (history_of_key (alone kind budget events)) (keys_in_order events)

  pub loaded_judged : JudgingLaw → (c : ℕ) (rows : List (ℕ × KeyHistory)) (v : Verdict) → IsHistoryOf c events → rows ≡ map row_of (pieces_of kind budget events)
      → JoinsRows (map row_of (pieces_of kind budget events)) v → IsJudged (with_all c kind budget events) rows v
  loaded_judged law c rows v may are joins =
      law (with_all c kind budget events) rows v may
      (are ∙ pieces_back (rows_of (alone kind budget events)))
      (subst (λ l. JoinsRows l v) (sym are) joins)
