use Rattle.std.proofs.Common.{◌≡◌, ◌<◌, [], Some, option_copied, length, get_or, slice_get, sym, ap, ◌∙◌, subst, arith}
use Rattle.std.proofs.lemmas.Bool.{ltb-true}
use Rattle.std.proofs.lemmas.Option.{get_or_from_slice_get}
use Rattle.moves.specs.Tables.{rows_of}
use Rattle.moves.proofs.copies.put_again.Goals as goal
use Rattle.moves.proofs.Renewing.{say_more}

pub returns : goal.returns
returns g c same more =
    let t = c.args.table.now in
    let row = c.read.new.row.items in
    let there = get_or_from_slice_get (rows_of t) c.args.from row [] c.in_ok-read.ensures in
    let first : c.number.result ≡ get_or row 0 0 = c.number.ensures ∙ ap (λ l. get_or l 0 0) there in
    let state : slice_get t.states (get_or row 0 0) ≡ Some c.in-Some.state.now = ap (slice_get t.states) (sym first) ∙ sym c.get.ensures ∙ ap option_copied c.in-Some.is in
    let known : slice_get c.number_of.new.states c.in_ok-number.number ≡ Some c.in-Some.state.now = c.in_ok-number.ensures.there ∙ ap Some c.in_ok-copy.ensures in
    let some : 0 < length row = grind (arith, c.is_empty.ensures, c.if-is_empty.false, c.if-is_empty.ensures) in
    say_more t c.args.other.now _ c.args.from row c.deref.result.now same c.in_ok-read.ensures (λ i. c.args.other.now.founds) c.number_of.ensures.front c.number_of.ensures.once
    (c.in_ok-number.number, c.in-Some.state.now, state, known, some, c.deref.ensures.value) c.in_ok-put.ensures.put
    (subst (λ n. c.args.from < n) c.len.ensures (ltb-true c.args.from c.len.result more))
