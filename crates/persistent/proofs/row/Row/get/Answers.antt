use Rattle.std.proofs.Common.{◌≡◌, get_or, subst, ap, length, arith}
use Rattle.std.proofs.lemmas.List.{get_or_read}
use Rattle.persistent.proofs.row.Row.get.Goals as goal

pub returns-in-Piece : goal.returns-in-Piece
returns-in-Piece g c =
    let values = c.in-Piece.values.now in
    let same = c.in-Piece.ensures.is.0 in
    let item = c.index-values-at.result in
    let long = ap length same in
    λ d. subst (λ l. item ≡ get_or l c.args.at d) same (get_or_read values c.args.at item (omega (arith, long, c.requires)) c.index-values-at.is d)

pub returns-in-Whole : goal.returns-in-Whole
returns-in-Whole g c = λ d. subst (λ l. c.get.result ≡ get_or l c.args.at d) c.in-Whole.ensures.is.0 (c.get.ensures d)
