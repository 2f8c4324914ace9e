-- the fronts that are reached are fronts of the ends
use Rattle.std.proofs.Common.{◌≡◌, ℕ, ◌≤◌, ⊎_elim, List, [], ◌∷◌, ◌++◌, length, map, refl, sym, subst, arith}
use Rattle.std.specs.List.{AllZip, Contains}
use Rattle.std.proofs.lemmas.List.Elements.{Contains-append_cases}
use Rattle.events.specs.Events.{Mark}
use Rattle.linspec.specs.MarkRule.{AreWellFormed}
use Rattle.linspec.specs.LeanEnds.{LeanEnd}
use Rattle.linspec.specs.CasEnds.{AreLayers, AreSomeFronts, AreFronts, stays}
use Rattle.cas_ends.proofs.Stands.{IsLeft}
use Rattle.wide_cas_register.specs.declared.calls.Call.{Call}
use Rattle.wide_cas_register.specs.declared.calls.What.{What}
use Rattle.wide_cas_register.specs.declared.calls.What.TheVariants.{Writes, Sets, Reads}
use Rattle.wide_cas_register.specs.declared.row.Row.{Row}
use Rattle.wide_cas_register.specs.declared.fronts.Front.{Front}
use Rattle.wide_cas_register.specs.Facts.{AreCalls, StepsTo, end_of}
use Rattle.wide_cas_register.specs.Fronts.{AreAllBy, AreLayersBy, AreSomeBy, IsFirstFront}
use Rattle.wide_cas_register.proofs.Copies.{end_same}
use Rattle.wide_cas_register.proofs.Fronting.{front_of, AllLeft, layer_is, layers_are}
use Rattle.wide_cas_register.proofs.Lists.{zip_from}

module _ (marks : List Mark) (well : AreWellFormed marks) (calls : List Call) (are : AreCalls calls marks) where
  abbrev ends_of : List Row → List LeanEnd
  ends_of rows = map (end_of calls) rows

  first_are : (rows : List Row) (first : List Front) → AllZip IsFirstFront rows first → map (front_of calls) first ≡ map stays (ends_of rows)
  first_are [] [] z = refl
  first_are (r ∷ rows) (f ∷ first) z =
      let is : front_of calls f ≡ stays (end_of calls r) = first_is r f z.0 in
      let more = first_are rows first z.1 in
      cc
    where
      first_is : (r : Row) (f : Front) → IsFirstFront r f → front_of calls f ≡ stays (end_of calls r)
      first_is r f i = let a : end_of calls f.row ≡ end_of calls r = end_same calls r f.row i.same in let b = i.writes in λ t. record { end = a t; writes = b t }
  first_are [] (f ∷ first) z = absurd z
  first_are (r ∷ rows) [] z = absurd z

  module _ (rows : List Row) (left : (row : Row) → Contains rows row → IsLeft marks (end_of calls row)) where
    first_left : (first : List Front) → AllZip IsFirstFront rows first → AllLeft marks well calls are first
    first_left first z f h =
        let r = zip_from IsFirstFront rows first z f h in
        subst (IsLeft marks) (sym (end_same calls r.0 f.row r.2.same)) (left r.0 r.1)

    abbrev Some_are : List Front → List Front → Type 0
    Some_are fronts last = AreSomeFronts marks (ends_of rows) (map (front_of calls) fronts) (map (front_of calls) last) × AllLeft marks well calls are fronts × AllLeft marks well calls are last

    pub some_are : (fronts last : List Front) → AreSomeBy calls (length marks) rows fronts last → Some_are fronts last
    some_are fronts last s =
        let l = first_left s.first s.are_first in
        let k = layers_are marks well calls are s.first s.first s.layers fronts last l l s.are in (
          record {
            layers = map (map (front_of calls)) s.layers;
            are = subst (λ x. AreLayers marks x x (map (map (front_of calls)) s.layers) (map (front_of calls) fronts) (map (front_of calls) last)) (first_are rows s.first s.are_first) k.0;
          },
          k.1,
          k.2,
        )

    pub all_are : (fronts : List Front) → AreAllBy calls (length marks) rows fronts → AreFronts marks (ends_of rows) (map (front_of calls) fronts)
    all_are fronts a =
        let s = some_are fronts a.0 a.1 in
        (map (front_of calls) a.0, s.0, layer_is marks well calls are fronts a.0 [] s.1 s.2 a.2)

-- the doors of fronts are not later than now
module _ (calls : List Call) (now : ℕ) where
  abbrev pub AllLow : List Front → Type 0
  AllLow fronts = (f : Front) → Contains fronts f → f.row.door ≤ now

  pub step_low : (c : Call) (what : What) (f next : Front) → f.row.door ≤ now → StepsTo calls now c what f next → next.row.door ≤ now
  step_low c (Writes v) f next low s = let d = s.0.door in omega arith
  step_low c (Sets a b) f next low s = let d = s.0.door in omega arith
  step_low c Reads f next low s = absurd s

  layers_low : (there layer : List Front) (layers : List (List Front)) (fronts last : List Front) → AllLow there → AllLow layer → AreLayersBy calls now there layer layers fronts last → AllLow fronts
  layers_low there layer [] fronts last a b l = subst AllLow l.0 a
  layers_low there layer (next ∷ more) fronts last a b l =
      let new : AllLow next = λ f h. (let k = l.0.each f h in step_low k.2.0 k.2.0.what k.0 f (b k.0 k.1) k.2.2.steps) in
      layers_low (there ++ next) next more fronts last (λ f h. ⊎_elim (a f) (new f) (Contains-append_cases there next f h)) new l.1

  pub some_low : (rows : List Row) → ((row : Row) → Contains rows row → row.door ≤ now) → (fronts last : List Front) → AreSomeBy calls now rows fronts last → AllLow fronts
  some_low rows low fronts last s =
      let first : AllLow s.first = λ f h. (let r = zip_from IsFirstFront rows s.first s.are_first f h in let a = low r.0 r.1 in let d = r.2.same.door in omega arith) in
      layers_low s.first s.first s.layers fronts last first first s.are
