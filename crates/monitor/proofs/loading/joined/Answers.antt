use Rattle.std.proofs.Common.{◌≡◌, ℕ, ◌∷◌, ◌++◌, [], ◌<◌, List, length, map, take, position, nat_eq, None, get_or, sym, ap, ◌∙◌, subst, arith, rules, length-append}
use Rattle.std.specs.Map.{keys_of}
use Rattle.std.proofs.lemmas.List.{length-map}
use Rattle.std.proofs.lemmas.Iterator.Adapters.{YieldsList-from_vec}
use Rattle.std.proofs.lemmas.Iterator.Consumers.{YieldsList-turn}
use Rattle.linspec.specs.KeyHistory.{KeyHistory}
use Rattle.checkpoints.specs.KeyLineView.{KeyLineView}
use Rattle.parallel_recheck.specs.Pieces.{line_of}
use Rattle.monitor.specs.Rows.{nows, JoinsRows}
use Rattle.monitor.specs.Loading.{row_of}
use Rattle.monitor.proofs.Carried.{nows_push}
use Rattle.monitor.proofs.LoadedLines.{lines_so_far, key_is_new, row_more}
use Rattle.monitor.proofs.Statuses.{joins_push}
use Rattle.monitor.proofs.loading.joined.Goals as goal
use Rattle.monitor.proofs.loading.joined.Goals.{After-len}

pub loop-line-init : goal.loop-line-init
loop-line-init c = record { rows = ap nows c.new-lines.ensures; joined = ([], tt, c.no_keys_law.ensures) }

-- the next line is that of the next piece
turn : (c : After-len) → (length c.loop-line.yielded < length c.args.pieces.now) × (c.in-Some.line ≡ get_or (map line_of c.args.pieces.now) (length c.loop-line.yielded) c.in-Some.line) × (c.len.result ≡ length c.loop-line.yielded)
turn c =
    let pieces = c.args.pieces.now in
    let n = length c.loop-line.yielded in
    let turn = YieldsList-turn (YieldsList-from_vec {s = c.into_iter-line-iterator.result} c.args.judged.items (search rules) (search rules)) c.loop-line.yielded c.loop-line.line-iterator c.loop-line.yielded_by c.next.result c.next.new.self c.in-Some.line c.in-Some.is c.next.ensures.steps in
    let lt : n < length pieces = omega (arith, turn.0, ap length c.requires.lines, length-map pieces line_of) in
    (lt, turn.1 ∙ ap (λ (l : List KeyLineView). get_or l n c.in-Some.line) c.requires.lines, c.len.ensures ∙ lines_so_far pieces n c.loop-line.lines.rows c.loop-line.invariant.rows (omega arith))

pub bounds-pieces-len : goal.bounds-pieces-len
bounds-pieces-len c = (let t = turn (goal.at.bounds-pieces-len c).After-len in omega (arith, t.0, t.2))

pub offset_bounds-pieces-len : goal.offset_bounds-pieces-len
offset_bounds-pieces-len c =
    let t = turn (goal.at.offset_bounds-pieces-len c).After-len in
    let lt : c.len.result < length c.args.pieces.now = omega (arith, t.0, t.2) in
    omega arith

pub add-requires-clause-new : goal.add-requires-clause-new
add-requires-clause-new c =
    let t = turn (goal.at.add-requires-clause-new c).After-len in
    let pieces = c.args.pieces.now in
    let piece = c.index-pieces-len.result in
    let is : piece ≡ get_or pieces (length c.loop-line.yielded) piece = c.index-pieces-len.is ∙ ap (λ (i : ℕ). get_or pieces i piece) t.2 in
    subst (λ (k : ℕ). position (nat_eq k) (keys_of c.reserve.new.self.rows) ≡ None) (sym c.key-key.ensures)
    (subst (λ (l : List (ℕ × KeyLineView)). position (nat_eq piece.key) (keys_of l) ≡ None) (sym c.in_ok-reserve.ensures.same)
    (key_is_new pieces (length c.loop-line.yielded) piece t.0 is c.loop-line.lines.rows c.requires.apart c.loop-line.invariant.rows))

pub loop-line-preserved : goal.loop-line-preserved
loop-line-preserved c =
    let t = turn (goal.at.loop-line-preserved c).After-len in
    let n = length c.loop-line.yielded in
    let pieces = c.args.pieces.now in
    let piece = c.index-pieces-len.result in
    let is : piece ≡ get_or pieces n piece = c.index-pieces-len.is ∙ ap (λ (i : ℕ). get_or pieces i piece) t.2 in
    let line = c.in-Some.line in
    let key = c.key-key.result in
    let before = c.loop-line.lines.rows in
    let added : nows c.add.new.self.rows ≡ nows before ++ (key, line.now) ∷ [] = ap nows (c.add.ensures ∙ ap (λ (l : List (ℕ × KeyLineView)). l ++ (key, line) ∷ []) c.in_ok-reserve.ensures.same) ∙ nows_push before key line in
    let rows : nows c.add.new.self.rows ≡ take (length (c.loop-line.yielded ++ line ∷ [])) (map row_of pieces) = added
    ∙ (λ i. c.loop-line.invariant.rows i ++ (c.key-key.ensures i, line.now) ∷ [])
    ∙ sym (row_more pieces n piece t.0 is line t.1)
    ∙ ap (λ k. take k (map row_of pieces)) (sym (length-append c.loop-line.yielded (line ∷ []))) in
    record {
      rows = rows;
      joined = subst (λ (l : List (ℕ × KeyHistory)). JoinsRows l c.join_with-verdict.result) (sym added ∙ rows)
          (joins_push (nows before) key line.now c.status.result c.loop-line.verdict c.join_with-verdict.result (subst (λ (l : List (ℕ × KeyHistory)). JoinsRows l c.loop-line.verdict) (sym c.loop-line.invariant.rows) c.loop-line.invariant.joined)
          c.status.ensures c.join_with-verdict.ensures);
    }
