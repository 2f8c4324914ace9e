use Rattle.std.proofs.Common.{◌≡◌, ◌+◌, ◌-◌, drop, length, take, sym, ap, ◌∙◌, arith}
use Rattle.std.proofs.lemmas.List.{drop-drop, drop-take, length-take}
use Rattle.persistent.proofs.few.Few.without_first.Goals as goal

pub returns : goal.returns
returns g c =
    let places = c.self.inside.places in
    let from = c.self.inside.from in
    let len = c.self.inside.len in
    let long = length-take len (drop from places) in
    let same = ap length c.self.view_is in
    let some = c.requires in
    let whole : 1 + (len - 1) ≡ len = omega (arith, long, same, some) in
    ap (take (len - 1)) (sym (drop-drop 1 from places)) ∙ sym (drop-take 1 (len - 1) (drop from places))
    ∙ ap (λ n. drop 1 (take n (drop from places))) whole ∙ ap (drop 1) c.self.view_is
