-- The opening
use Rattle.std.proofs.Common.{◌≡◌, ℕ, None, IfErr, Result, Err, sym, subst}
use Rattle.edn.specs.declared.refusal.Refusal.{Refusal}
use Rattle.edn.specs.declared.refusal.Refusal.TheVariants.{NoSuchReplica}
use Rattle.test_store.specs.Store.{MayNotOpenStore}
use Rattle.machine.specs.Machine.{Machine, Setup, opening}
use Rattle.harness.specs.declared.change.Change.TheVariants.{Nothing}
use Rattle.harness.specs.Setups.{IsSetup, MayNotOpen}
use Rattle.harness.specs.SoundCore.{IsSoundMachine, IsSoundCore}
use Rattle.harness.proofs.Sound.{sound_opening}

pub not_stored : (setup : Setup) (why : Refusal) → IsSetup setup → MayNotOpenStore setup.replicas why → MayNotOpen setup why
not_stored setup NoSuchReplica is h = absurd (h is.2.0)
not_stored setup why is h = absurd h

pub opened : (setup : Setup) (m : Machine) (cap : ℕ) → IsSetup setup → m ≡ opening setup → IsSoundCore m None cap Nothing
opened setup m cap is same = record { now = subst IsSoundMachine (sym same) (sound_opening setup is); then = tt; ready = tt }

-- a refusal that was found of a part is one of the whole
pub declines_to_open : {T : Type 0} (r : Result T Refusal) (e why : Refusal) (setup : Setup) → r ≡ Err e → e ≡ why → MayNotOpen setup why → IfErr r (MayNotOpen setup)
declines_to_open {T} r e why setup is from h = subst (λ (x : Result T Refusal). IfErr x (MayNotOpen setup)) (sym is) (subst (MayNotOpen setup) (sym from) h)
