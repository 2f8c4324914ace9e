-- Why a run that is opened so comes to none.
use Rattle.std.proofs.Common.{◌≡◌, ℕ, ◌+◌, ◌<◌, ◌≤◌, refl, inl, inr, ⊎_elim, arith}
use Rattle.std.proofs.lemmas.Bool.{cases_lt}
use Rattle.edn.specs.declared.refusal.Refusal.{Refusal}
use Rattle.edn.specs.declared.refusal.Refusal.TheVariants.{NoSeat}
use Rattle.harness.specs.declared.config.Config.{Config}
use Rattle.harness.specs.Setups.{setup_of}
use Rattle.board.specs.CoreTape.{MayNotBegin}
use Rattle.clients.specs.Runs.{HasNoRun}

-- the object is not opened so, or there are too many clients
pub not_begun : (config : Config) (seats : ℕ) (why : Refusal) → (config.concurrency < 64 → seats ≡ config.concurrency + 1)
    → MayNotBegin config seats why → HasNoRun (setup_of config) why
not_begun config seats NoSeat fits begin = inr (inl (begin.0, many, refl)) where
  many : 64 ≤ config.concurrency
  many = ⊎_elim (λ less. absurd (begin.1 (omega (arith, fits less), omega (arith, fits less)))) (λ enough. enough) (cases_lt config.concurrency 64)
not_begun config seats why fits begin = inl begin
