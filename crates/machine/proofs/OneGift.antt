-- The drawn item, and the next fault, are determined
use Rattle.std.proofs.Common.{◌≡◌, ◌≢◌, ⊎_elim, Option, Some, None, sym, ◌∙◌}
use Rattle.std.proofs.lemmas.Option.{same_Some}
use Rattle.events.specs.declared.event.Fault.{Fault}
use Rattle.generators.specs.declared.item.Item.TheVariants.{Fault as AFault}
use Rattle.generators.specs.declared.item.Asker.{Asker}
use Rattle.generators.specs.declared.item.Asker.TheVariants.{Nemesis as TheNemesis}
use Rattle.generators.specs.declared.item.Drawn.{Drawn}
use Rattle.generators.specs.declared.item.Drawn.TheVariants.{Op as Gets, Pending, Done}
use Rattle.generators.specs.Draws.{ask_of}
use Rattle.generators.specs.Words.{word}
use Rattle.generators.proofs.OneAnswer.{one_draw}
use Rattle.machine.specs.Machine.{Machine, idle_threads, Gives, first_due, NextFault, HasNoFault}

pub one_gift : (m after other : Machine) (asker : Asker) (drawn another : Drawn) → Gives m asker drawn after → Gives m asker another other → (drawn ≡ another) × (after ≡ other)
one_gift m after other asker drawn another a b =
    (let one = one_draw (word m.seed) (ask_of asker (idle_threads m.judged)) m.generator m.place drawn another a.0 b.0 a.1 b.1 a.2 b.2 in
    (one.answer, a.3 ∙ (λ i. record m { generator = one.generator i; place = one.place i }) ∙ sym b.3))

fault_in : (f g : Fault) → ◌≡◌ {A = Drawn} (Gets (AFault f)) (Gets (AFault g)) → f ≡ g
fault_in f g e = cc

not_both : (o : Option Fault) (f : Fault) → o ≡ Some f → o ≡ None → ⊥
not_both o f a b = cc

pub one_fault : (m after other : Machine) (fault another : Fault) → NextFault m fault after → NextFault m another other → (fault ≡ another) × (after ≡ other)
one_fault m after other fault another a b =
    ⊎_elim
    (λ da. ⊎_elim
    (λ db. (same_Some fault another (sym da.0 ∙ db.0), da.1 ∙ sym db.1))
    (λ nb. absurd (not_both (first_due m) fault da.0 nb.0))
    b)
    (λ na. ⊎_elim
    (λ db. absurd (not_both (first_due m) another db.0 na.0))
    (λ nb. (let one = one_gift m after other TheNemesis (Gets (AFault fault)) (Gets (AFault another)) na.1 nb.1 in (fault_in fault another one.0, one.1)))
    b)
    a

no_item : (m : Machine) (drawn : Drawn) (rest : Machine) → ((f : Fault) → Gets (AFault f) ≢ drawn) → first_due m ≡ None → Gives m TheNemesis drawn rest → (fault : Fault) (after : Machine) → NextFault m fault after → ⊥
no_item m drawn rest other none gives fault after next =
    ⊎_elim (λ due. not_both (first_due m) fault due.0 none) (λ n. other fault (one_gift m after rest TheNemesis (Gets (AFault fault)) drawn n.1 gives).0) next

pub no_fault : (m : Machine) → HasNoFault m → (fault : Fault) (after : Machine) → NextFault m fault after → ⊥
no_fault m h fault after next =
    ⊎_elim (λ p. no_item m Pending p.0 (λ f e. cc) h.0 p.1 fault after next) (λ d. no_item m Done d.0 (λ f e. cc) h.0 d.1 fault after next) h.1
