use Rattle.std.proofs.Common.{◌≡◌, ℕ, List, ◌++◌, take, drop, arith, sym, refl, length-take, length-drop, take-append-drop}
use Rattle.std.specs.Io.KnownBytes.{Appends}
use Rattle.line_loop.proofs.Appending.{Appends-take, Appends-then_nil}
use Rattle.line_loop.proofs.Results.{on_err}
use Rattle.line_loop.proofs.writing.write_text.Goals as goal

pub loop-preserved : goal.loop-preserved
loop-preserved g c =
    let (within, grown, _, _) = c.loop.invariant in
    let text = c.args.text.now in
    (omega (arith, length-take {A = ℕ}, length-drop {A = ℕ}, c.in_ok-done.ensures.bound), Appends-take _ _ _ text _ _ _ refl grown c.in_ok-done.ensures.ok, tt, tt)

pub returns-in_err-done-clause-some : goal.returns-in_err-done-clause-some
returns-in_err-done-clause-some g c =
    let (within, grown, _, _) = c.loop.invariant in
    let text = c.args.text.now in
    let written : (part : List ℕ) × (more : List ℕ) × (text ≡ part ++ more) × Appends (g.W.Write.contents c.args.writer.now) (g.W.Write.contents c.write_some.new.writer) part =
    (take c.loop.done text, drop c.loop.done text, sym (take-append-drop c.loop.done text), Appends-then_nil _ _ _ _ grown c.in_err-done.ensures.err) in
    on_err _ written
