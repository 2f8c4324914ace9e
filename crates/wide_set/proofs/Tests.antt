-- the meaning of tests
use Rattle.std.proofs.Common.{◌≡◌, ◌≢◌, Bool, true, false, not, refl, sym}
use Rattle.std.proofs.lemmas.Bool.{true≢false}

pub not_true : (b : Bool) → not b ≡ true → b ≢ true
not_true true e f = true≢false (sym e)
not_true false e f = true≢false (sym f)

pub is_not : (b : Bool) → b ≢ true → not b ≡ true
is_not true n = absurd (n refl)
is_not false n = refl
