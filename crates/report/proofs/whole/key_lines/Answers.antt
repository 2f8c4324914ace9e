use Rattle.std.proofs.Common.{◌≡◌, ◌+◌, ◌++◌, sym, subst, ap, ◌∙◌, take, refl, string_bytes}
use Rattle.linspec.specs.JudgedHistory.{keys_in_order}
use Rattle.report.specs.KeyLine.{key_line}
use Rattle.report.specs.Report.{IsRows, line_in}
use Rattle.report.proofs.Lines.{one_more}
use Rattle.report.proofs.whole.key_lines.Goals as goal

pub loop-place-preserved : goal.loop-place-preserved
loop-place-preserved c =
    let h = c.args.monitor.now.now in
    let keys = keys_in_order h.events in
    let place = c.loop-place.place in
    let text = c.loop-place.text.items in
    let row = c.key_at.result in
    let known = c.key_at.ensures in
    let line = string_bytes c.in_ok-line.line in
    let same : key_line row.key row.kind row.budget row.events row.status ≡ line_in h (row.key, row.status) = rw (known.kind, known.budget, known.events) refl in
    let grown : c.extend_from_slice.new.self.items ≡ text ++ line = c.in_ok-extend_from_slice.ensures.items ∙ ap (λ l. text ++ l) c.as_bytes.ensures.value in
    subst (λ t. IsRows h (take (place + 1) keys) t) (sym grown)
    (one_more h keys text line place row.key row.status c.loop-place.invariant known.key known.status (c.in_ok-line.ensures ∙ same))
