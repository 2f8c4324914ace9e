use Rattle.std.proofs.Common.{◌+◌, false, sym, ◌∙◌, arith}
use Rattle.std.proofs.lemmas.List.{get_or-set_other, length-set}
use Rattle.std.proofs.lemmas.Option.{slice_get_within}
use Rattle.ends.proofs.Marking.{marks_more}
use Rattle.ends.proofs.after.mark_fitting.Goals as goal

pub loop-at-preserved : goal.loop-at-preserved
loop-at-preserved c =
    let marks = c.loop-at.marks.items in
    let n = c.loop-at.at in
    let so = c.loop-at.invariant in
    let far = so.long in
    let long = length-set marks (n + 1) c.fits.result in
    record {
      long = omega (arith, long, far);
      none = get_or-set_other marks (n + 1) 0 c.fits.result false (λ q. omega (arith, q)) ∙ so.none;
      each = marks_more c.args.answer.now c.args.founds.now marks n c.fits.result c.in-Some.found.now (sym c.in-Some.ensures) c.fits.ensures so.long so.each;
    }

pub returns : goal.returns
returns c = record {
  none = c.loop-at.invariant.none;
  each = λ at found here. let lt = slice_get_within c.args.founds.now at found here in c.loop-at.invariant.each at found (omega (arith, lt)) here;
}
