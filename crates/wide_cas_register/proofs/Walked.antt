-- each front is what a walk makes of an end
use Rattle.std.proofs.Common.{ℕ, ⊎_elim, List, [], ◌∷◌, ◌++◌, map, sym, ◌∙◌, subst}
use Rattle.std.specs.List.{Contains}
use Rattle.std.proofs.lemmas.List.Elements.{Contains-append_cases}
use Rattle.events.specs.Events.{Mark}
use Rattle.linspec.specs.Operations.{IsOpen}
use Rattle.linspec.specs.LeanEnds.{LeanEnd, IsWithout, IsAtMost}
use Rattle.linspec.specs.CasEnds.{Walks, Front, IsNext, AreLayers, stays, AreSomeFronts}
use Rattle.cas_ends.proofs.Walking.{stay, then_sets, then_writes}
use Rattle.cas_ends.proofs.Layers.{stays_of}

abbrev pub IsWalked : List Mark → List LeanEnd → Front → Type 0
IsWalked marks ends f = (e : LeanEnd) × Contains ends e × Walks marks e f.end f.writes

module _ (marks : List Mark) (ends : List LeanEnd) where
  next_walked : (e f : Front) → IsWalked marks ends e → IsNext marks e f → IsWalked marks ends f
  next_walked e f w n = (
    w.0,
    w.1,
    ⊎_elim
        (λ k. subst (Walks marks w.0 f.end) (sym k.1) (then_sets marks w.0 e.end f.end n.0 e.writes w.2 k.0))
        (λ k. subst (Walks marks w.0 f.end) (sym k.2) (then_writes marks w.0 e.end f.end n.0 (subst (Walks marks w.0 e.end) k.0 w.2) k.1))
        n.1,
  )

  layers_walked : (there layer : List Front) (layers : List (List Front)) (fronts last : List Front) → ((f : Front) → Contains there f → IsWalked marks ends f) → ((f : Front) → Contains layer f → IsWalked marks ends f)
      → AreLayers marks there layer layers fronts last → (f : Front) → Contains fronts f → IsWalked marks ends f
  layers_walked there layer [] fronts last a b l f h = a f (subst (λ xs. Contains xs f) (sym l.0) h)
  layers_walked there layer (next ∷ more) fronts last a b l f h =
      let new : (g : Front) → Contains next g → IsWalked marks ends g = λ g k. (let r = l.0.each g k in next_walked r.0 g (b r.0 r.1) r.2) in
      layers_walked (there ++ next) next more fronts last (λ g k. ⊎_elim (a g) (new g) (Contains-append_cases there next g k)) new l.1 f h

  pub fronts_walked : (fronts last : List Front) → AreSomeFronts marks ends fronts last → (f : Front) → Contains fronts f → IsWalked marks ends f
  fronts_walked fronts last s =
      let first : (f : Front) → Contains (map stays ends) f → IsWalked marks ends f = λ f h.
      (let r = stays_of ends f h in (r.0, r.1, subst (λ (x : Front). Walks marks r.0 x.end x.writes) r.2 (stay marks r.0))) in
      layers_walked (map stays ends) (map stays ends) s.layers fronts last first first s.are

-- without an operation the greater is the greater
pub without_most : (marks longer : List Mark) → ((i : ℕ) → IsOpen longer i → IsOpen marks i) → (d p g q : LeanEnd) (id : ℕ) → IsAtMost marks d p → IsWithout d id g → IsWithout p id q → IsAtMost longer g q
without_most marks longer was d p g q id a u w = record {
  state = u.state ∙ a.state ∙ sym w.state;
  needed = λ i n. (let k = (w.needed i).0 n in (u.needed i).1 (a.needed i k.0, k.1));
  open_ones = λ i n o. (let k = (u.needed i).0 n in (w.needed i).1 (a.open_ones i k.0 (was i o), k.1));
  door = λ i n. (let k = (u.door i).0 n in (w.door i).1 (a.door i k.0, k.1));
  finds = λ r v n. (let k = (u.finds r v).0 n in (w.finds r v).1 (a.finds r v k.0, k.1));
}
