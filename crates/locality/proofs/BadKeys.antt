-- a verdict depends on the dead and the over keys alone
use Rattle.std.proofs.Common.{ℕ, List, []}
use Rattle.linspec.specs.declared.verdict.KeyStatus.{KeyStatus}
use Rattle.linspec.specs.declared.verdict.KeyStatus.TheVariants.{Dead, Over}
use Rattle.linspec.specs.declared.verdict.Verdict.{Verdict}
use Rattle.linspec.specs.declared.verdict.Verdict.TheVariants.{Legal, Illegal, Unknown}
use Rattle.linspec.specs.Verdicts.{IsJoin}
use Rattle.linspec.proofs.Lists.{Contains-nil}
use Rattle.locality.specs.BadKeys.{HaveSameBadKeys}

pub IsJoin-none : IsJoin [] Legal
IsJoin-none = ((λ k i h. Contains-nil (k, Dead i) h), (λ k i h. Contains-nil (k, Over i) h))

pub IsJoin-same : (xs ys : List (ℕ × KeyStatus)) (v : Verdict) → HaveSameBadKeys xs ys → IsJoin xs v → IsJoin ys v
IsJoin-same xs ys (Illegal key n) same j = ((same.dead key n).0 j.0, λ k i h. j.1 k i ((same.dead k i).1 h))
IsJoin-same xs ys (Unknown key n) same j = ((λ k i h. j.0 k i ((same.dead k i).1 h)), (same.over key n).0 j.1, λ k i h. j.2 k i ((same.over k i).1 h))
IsJoin-same xs ys Legal same j = ((λ k i h. j.0 k i ((same.dead k i).1 h)), (λ k i h. j.1 k i ((same.over k i).1 h)))
