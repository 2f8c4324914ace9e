-- the fronts of rows are those of their ends
use Rattle.std.proofs.Common.{◌≡◌, ℕ, ℤ, inl, inr, ⊎_elim, false, List, [], ◌∷◌, ◌++◌, length, map, refl, sym, ap, ◌∙◌, subst}
use Rattle.std.specs.List.{Contains}
use Rattle.std.proofs.lemmas.Bool.{true≢false}
use Rattle.std.proofs.lemmas.List.{map-append}
use Rattle.std.proofs.lemmas.List.Elements.{Contains-append_cases}
use Rattle.events.specs.Events.{Mark}
use Rattle.linspec.specs.MarkRule.{AreWellFormed}
use Rattle.linspec.proofs.Lists.{Pairwise-weaker}
use Rattle.linspec.specs.LeanEnds.{IsPutBehind}
use Rattle.linspec.specs.CasEnds.{IsSetBehind, Front as EndFront, IsLess, IsNext, IsLayer, AreLayers}
use Rattle.cas_ends.proofs.Stands.{IsLeft, left_set, left_put}
use Rattle.wide_cas_register.specs.declared.calls.Call.{Call}
use Rattle.wide_cas_register.specs.declared.calls.What.{What}
use Rattle.wide_cas_register.specs.declared.calls.What.TheVariants.{Writes, Sets, Reads}
use Rattle.wide_cas_register.specs.declared.fronts.Front.{Front}
use Rattle.wide_cas_register.specs.Facts.{AreCalls, CanStep, IsStepBy, StepsTo, end_of, is_set}
use Rattle.wide_cas_register.specs.Fronts.{AreLayersBy, IsLayerBy, IsLessBy}
use Rattle.wide_cas_register.proofs.AtMost.{end_at_most, row_at_most}
use Rattle.wide_cas_register.proofs.Ends.{needed_from, needed_to, behind_once, set_once}
use Rattle.wide_cas_register.proofs.Moves.{same_call, is_behind, is_set_behind, is_write, is_cas}
use Rattle.wide_cas_register.proofs.Others.{map_from, map_to}
use Rattle.wide_cas_register.proofs.Pending.{Pairwise-map}

abbrev pub front_of : List Call → Front → EndFront
front_of calls f = record { end = end_of calls f.row; writes = f.writes }

module _ (marks : List Mark) (well : AreWellFormed marks) (calls : List Call) (are : AreCalls calls marks) where
  abbrev pub Left : Front → Type 0
  Left f = IsLeft marks (end_of calls f.row)

  -- of two operations with one id, if one sets a value, so does the other
  pub no_door : (c : Call) (a b : ℤ) → Contains calls c → c.what ≡ Sets a b → (d : Call) → Contains calls d → is_set d.what ≡ false → ¬ (d.id ≡ c.id)
  no_door c a b h q d k n e =
      let same : d ≡ c = same_call calls are.once d c k h e in
      true≢false (sym (ap is_set q) ∙ sym (ap (λ (x : Call). is_set x.what) same) ∙ n)

  -- what a step makes of a front it makes of its end
  step_by : (c : Call) → Contains calls c → (what : What) → c.what ≡ what → (f next : Front) → Left f → CanStep f c what → StepsTo calls (length marks) c what f next → IsNext marks (front_of calls f) (front_of calls next)
  step_by c h (Writes v) q f next left can steps = (
    c.id,
    inr (
      can.1,
      ((λ n. can.0 (needed_from calls f.row c.id n)), (v, is_write marks well calls are f.row left c v h q, is_behind marks well calls are f.row left c.id v next.row steps.0)),
      steps.1,
    ),
  )
  step_by c h (Sets a b) q f next left can steps = (
    c.id,
    inl (
      (
        (λ n. can.0 (needed_from calls f.row c.id n)),
        (
          a,
          b,
          is_cas marks well calls are f.row left c a b h q,
          is_set_behind marks well calls are f.row left c.id b next.row a can.1 steps.0 (no_door c a b h q),
        ),
      ),
      steps.1,
    ),
  )
  step_by c h Reads q f next left can steps = absurd can

  pub step_is : (c : Call) (f next : Front) → Contains calls c → Left f → IsStepBy calls (length marks) c f next → IsNext marks (front_of calls f) (front_of calls next)
  step_is c f next h left s = step_by c h c.what refl f next left s.can s.steps

  pub left_next : (f : Front) (g : EndFront) → Left f → IsNext marks (front_of calls f) g → IsLeft marks g.end
  left_next f g left n = ⊎_elim
      (λ k. left_set marks well (end_of calls f.row) g.end n.0 left k.0)
      (λ k. left_put marks (end_of calls f.row) g.end n.0 k.1.1.0 left k.1.1.1 k.1.0 (inl k.1.1.2))
      n.1

  -- and what an operation makes of the end, a step makes of the front
  pub can_of : (f : Front) (g : EndFront) → Left f → IsNext marks (front_of calls f) g → (c : Call) × Contains calls c × CanStep f c c.what
      × ((next : Front) → IsStepBy calls (length marks) c f next → front_of calls next ≡ g)
  can_of f g left n = ⊎_elim
      (λ k.
      let x : ℕ = n.0 in
      let a : ℤ = k.0.1.0 in
      let b : ℤ = k.0.1.1 in
      let c = are.all x (Sets a b) k.0.1.2 in
      let free : ¬ Contains f.row.needed.items c.0.id = λ i. k.0.0 (needed_to calls f.row x (subst (Contains f.row.needed.items) c.2 i)) in (
        c.0,
        c.1,
        subst (CanStep f c.0) (sym c.3) (free, k.0.1.3.takes),
        λ next s.
            let steps : StepsTo calls (length marks) c.0 (Sets a b) f next = subst (λ w. StepsTo calls (length marks) c.0 w f next) c.3 s.steps in
            let put = is_set_behind marks well calls are f.row left c.0.id b next.row a k.0.1.3.takes steps.0 (no_door c.0 a b c.1 c.3) in
            let ends : end_of calls next.row ≡ g.end = set_once marks (end_of calls f.row) (end_of calls next.row) g.end x a b a b refl (subst (λ i. IsSetBehind marks (end_of calls f.row) i a b (end_of calls next.row)) c.2 put) k.0.1.3 in
            let bools : next.writes ≡ g.writes = steps.1 ∙ sym k.1 in
            λ t. record { end = ends t; writes = bools t },
      ))
      (λ k.
      let x : ℕ = n.0 in
      let v : ℤ = k.1.1.0 in
      let c = are.all x (Writes v) k.1.1.1 in
      let free : ¬ Contains f.row.needed.items c.0.id = λ i. k.1.0 (needed_to calls f.row x (subst (Contains f.row.needed.items) c.2 i)) in (
        c.0,
        c.1,
        subst (CanStep f c.0) (sym c.3) (free, k.0),
        λ next s.
            let steps : StepsTo calls (length marks) c.0 (Writes v) f next = subst (λ w. StepsTo calls (length marks) c.0 w f next) c.3 s.steps in
            let put = is_behind marks well calls are f.row left c.0.id v next.row steps.0 in
            let ends : end_of calls next.row ≡ g.end = behind_once marks (end_of calls f.row) (end_of calls next.row) g.end x v (subst (λ i. IsPutBehind marks (end_of calls f.row) i v (end_of calls next.row)) c.2 put) k.1.1.2 in
            let bools : next.writes ≡ g.writes = steps.1 ∙ sym k.2 in
            λ t. record { end = ends t; writes = bools t },
      ))
      n.1

  pub less_is : (f g : Front) → Left f → IsLessBy calls f g → IsLess marks (front_of calls f) (front_of calls g)
  less_is f g left l = (end_at_most marks calls are f.row g.row left l.0, l.1)

  pub less_of : (f g : Front) → IsLess marks (front_of calls f) (front_of calls g) → IsLessBy calls f g
  less_of f g l = (row_at_most marks calls are f.row g.row l.0, l.1)

  abbrev pub AllLeft : List Front → Type 0
  AllLeft fronts = (f : Front) → Contains fronts f → Left f

  abbrev ends : List Front → List EndFront
  ends fronts = map (front_of calls) fronts

  left_layer : (there layer next : List Front) → AllLeft layer → IsLayerBy calls (length marks) there layer next → AllLeft next
  left_layer there layer next left l f h =
      let k = l.each f h in
      left_next k.0 (front_of calls f) (left k.0 k.1) (step_is k.2.0 k.0 f k.2.1 (left k.0 k.1) k.2.2)

  pub layer_is : (there layer next : List Front) → AllLeft there → AllLeft layer → IsLayerBy calls (length marks) there layer next → IsLayer marks (ends there) (ends layer) (ends next)
  layer_is there layer next left_there left l = record {
    each = λ g h. (let f = map_from (front_of calls) next g h in let k = l.each f.0 f.1 in
        (front_of calls k.0, map_to (front_of calls) layer k.0 k.1, subst (IsNext marks (front_of calls k.0)) f.2 (step_is k.2.0 k.0 f.0 k.2.1 (left k.0 k.1) k.2.2)));
    new = λ f g h j less. (let a = map_from (front_of calls) next f h in let b = map_from (front_of calls) there g j in
        l.new a.0 a.1 (b.0, b.1, less_of a.0 b.0 (subst (λ x. IsLess marks x (front_of calls b.0)) (sym a.2) (subst (IsLess marks f) (sym b.2) less))));
    all = λ e g h n. (let d = map_from (front_of calls) layer e h in
        let n' : IsNext marks (front_of calls d.0) g = subst (λ x. IsNext marks x g) (sym d.2) n in
        let c = can_of d.0 g (left d.0 d.1) n' in
        let m = l.all d.0 c.0 (d.1, c.1) c.2 in
        let is : front_of calls m.0 ≡ g = c.3 m.0 m.1 in
        let q = m.2 in
        let left_m : Left m.0 = left_next d.0 (front_of calls m.0) (left d.0 d.1) (step_is c.0 d.0 m.0 c.1 (left d.0 d.1) m.1) in
        let there_is : map (front_of calls) (there ++ next) ≡ ends there ++ ends next = map-append (front_of calls) there next in (
          front_of calls q.0,
          subst (λ xs. Contains xs (front_of calls q.0)) there_is (map_to (front_of calls) (there ++ next) q.0 q.1),
          subst (λ x. IsLess marks x (front_of calls q.0)) is (less_is m.0 q.0 left_m q.2),
        ));
    apart = Pairwise-map (front_of calls) (λ e f. (¬ IsLess marks e f) × (¬ IsLess marks f e)) next
        (Pairwise-weaker (λ x y. (¬ IsLessBy calls x y) × (¬ IsLessBy calls y x)) (λ x y. (¬ IsLess marks (front_of calls x) (front_of calls y)) × (¬ IsLess marks (front_of calls y) (front_of calls x))) next
        (λ x y h j n. ((λ p. n.0 (less_of x y p)), (λ p. n.1 (less_of y x p))))
        l.apart);
  }

  pub layers_are : (there layer : List Front) (layers : List (List Front)) (fronts last : List Front) → AllLeft there → AllLeft layer → AreLayersBy calls (length marks) there layer layers fronts last
      → AreLayers marks (ends there) (ends layer) (map ends layers) (ends fronts) (ends last) × AllLeft fronts × AllLeft last
  layers_are there layer [] fronts last lt ll a = ((ap ends a.0, ap ends a.1), subst AllLeft a.0 lt, subst AllLeft a.1 ll)
  layers_are there layer (next ∷ more) fronts last lt ll a =
      let ln = left_layer there layer next ll a.0 in
      let both : AllLeft (there ++ next) = λ f h. ⊎_elim (lt f) (ln f) (Contains-append_cases there next f h) in
      let r = layers_are (there ++ next) next more fronts last both ln a.1 in
      ((layer_is there layer next lt ll a.0, subst (λ l. AreLayers marks l (ends next) (map ends more) (ends fronts) (ends last)) (map-append (front_of calls) there next) r.0), r.1, r.2)
