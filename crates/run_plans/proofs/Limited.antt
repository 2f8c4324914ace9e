-- The generator of a run, from its parts
use Rattle.std.proofs.Common.{◌≡◌, ℕ, List, Vec, ap, ◌∙◌}
use Rattle.std.specs.Prelude.{map}
use Rattle.std.specs.declared.alloc.Global.{Global}
use Rattle.std.specs.declared.boxed.Box.{Box}
use Rattle.generators.specs.declared.form.Gen.{Gen, Mix, Limit}
use Rattle.generators.specs.Generators.{Generator, generator_of, mix, limit, these}
use Rattle.generators.proofs.Views.{view-Limit, view-Mix}

-- n items of the mix of these children
pub limited : (n : ℕ) (b : Box Gen Global) (children : Vec Gen Global) (made : List Generator) → b.value ≡ Mix children
    → map generator_of children.items ≡ made → generator_of (Limit n b) ≡ limit n (mix (these made))
limited n b children made is each =
    view-Limit n b ∙ ap (limit n) (ap generator_of is ∙ view-Mix children ∙ ap (λ gs. mix (these gs)) each)
