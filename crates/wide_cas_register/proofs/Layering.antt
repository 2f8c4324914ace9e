-- fronts are put into a layer, and layers upon another
use Rattle.std.proofs.Common.{◌≡◌, ℕ, ◌+◌, ◌-◌, ◌<◌, ◌≤◌, ◌⊎◌, inl, inr, ⊎_elim, List, [], ◌∷◌, ◌++◌, length, take, drop, get_or, refl, sym, ap, ◌∙◌, subst, arith, length-drop}
use Rattle.std.specs.List.{AllZip, Contains}
use Rattle.std.proofs.lemmas.List.{take_all, take_more}
use Rattle.std.proofs.lemmas.List.Elements.{Contains-append_left, Contains-append_right, Contains-append_cases, Contains-push, Contains-push_cases}
use Rattle.linspec.proofs.Lists.{Contains-nil, Contains-cons_cases, Pairwise-append}
use Rattle.wide_cas_register.specs.declared.calls.Call.{Call}
use Rattle.wide_cas_register.specs.declared.row.Row.{Row}
use Rattle.wide_cas_register.specs.declared.fronts.Front.{Front}
use Rattle.wide_cas_register.specs.Facts.{CanStep, IsStepBy}
use Rattle.wide_cas_register.specs.Fronts.{AreLayersBy, AreLeftOut, AreSomeBy, AreStepped, IsCovered, IsFirstFront, IsLayerBy, IsLessBy, IsPutIn}
use Rattle.wide_cas_register.proofs.AtMost.{at_most_itself, at_most_then}

module _ (calls : List Call) where
  abbrev Apart : Front → Front → Type 0
  Apart f g = (¬ IsLessBy calls f g) × (¬ IsLessBy calls g f)

  less_then : (f g h : Front) → IsLessBy calls f g → IsLessBy calls g h → IsLessBy calls f h
  less_then f g h p q = (at_most_then calls f.row g.row h.row p.0 q.0, λ e. p.1 (q.1 e))

  less_itself : (f : Front) → IsLessBy calls f f
  less_itself f = (at_most_itself calls f.row, λ e. e)

  pub covered_itself : (fronts : List Front) (f : Front) → Contains fronts f → IsCovered calls fronts f
  covered_itself fronts f h = (f, h, less_itself f)

  -- what was covered is so still if each one that was there is
  pub covered_still : (was next : List Front) → ((f : Front) → Contains was f → IsCovered calls next f) → (f : Front) → IsCovered calls was f → IsCovered calls next f
  covered_still was next to f k = let q = to k.0 k.1 in (q.0, q.1, less_then f k.0 q.0 k.2 q.2)

  pub covered_left : (there next : List Front) (f : Front) → IsCovered calls there f → IsCovered calls (there ++ next) f
  covered_left there next f k = (k.0, Contains-append_left there next k.0 k.1, k.2)

  pub covered_right : (there next : List Front) (f : Front) → IsCovered calls next f → IsCovered calls (there ++ next) f
  covered_right there next f k = (k.0, Contains-append_right there next k.0 k.1, k.2)

  pub covered_later : (there was next : List Front) → ((f : Front) → Contains was f → IsCovered calls next f) → (f : Front) → IsCovered calls (there ++ was) f → IsCovered calls (there ++ next) f
  covered_later there was next to = covered_still (there ++ was) (there ++ next)
      (λ g h. ⊎_elim (λ k. covered_left there next g (covered_itself there g k)) (λ k. covered_right there next g (to g k)) (Contains-append_cases there was g h))

  -- a front is put into the layer
  module _ (there : List Front) (f : Front) (layer : List Front) where
    pub put_none : IsCovered calls there f → IsPutIn calls there f layer layer
    put_none k = record {
      each = λ g h. inl h;
      still = λ g h. covered_itself layer g h;
      kept = covered_left there layer f k;
      apart = λ a. a;
    }

    pub put_less : IsCovered calls layer f → IsPutIn calls there f layer layer
    put_less k = record {
      each = λ g h. inl h;
      still = λ g h. covered_itself layer g h;
      kept = covered_right there layer f k;
      apart = λ a. a;
    }

    pub put_new : (left next : List Front) → AreLeftOut calls f layer left → next ≡ left ++ f ∷ [] → ¬ IsCovered calls there f → ¬ IsCovered calls layer f → IsPutIn calls there f layer next
    put_new left next out e none new = subst (IsPutIn calls there f layer) (sym e) (record {
      each = λ g h. ⊎_elim (λ k. inl (out.each g k).0) (λ q. inr (sym q, none)) (Contains-push_cases left f g h);
      still = λ g h. ⊎_elim
          (λ k. covered_itself (left ++ f ∷ []) g (Contains-append_left left (f ∷ []) g k))
          (λ m. (f, Contains-push left f, m))
          (out.others g h);
      kept = covered_right there (left ++ f ∷ []) f (covered_itself (left ++ f ∷ []) f (Contains-push left f));
      apart = λ a. Pairwise-append Apart left (f ∷ []) (out.apart a) ((λ y h. absurd (Contains-nil y h)), tt)
          (λ x y h k. ⊎_elim
          (λ q. subst (Apart x) q ((out.each x h).1, (λ m. new (x, (out.each x h).0, m))))
          (λ j. absurd (Contains-nil y j))
          (Contains-cons_cases f [] y k));
    })

  -- the operations are tried at a front
  module _ (now : ℕ) (there : List Front) (e : Front) (first : List Front) where
    abbrev pub AreSteppedTo : ℕ → List Front → Type 0
    AreSteppedTo i next = AreStepped calls now there e (take i calls) first next

    pub none_stepped : AreSteppedTo 0 first
    none_stepped = record {
      each = λ f h. inl h;
      still = λ f h. covered_itself first f h;
      all = λ c h. absurd (Contains-nil c h);
      apart = λ a. a;
    }

    pub all_stepped : (i : ℕ) → length calls ≤ i → (next : List Front) → AreSteppedTo i next → AreStepped calls now there e calls first next
    all_stepped i h next s = subst (λ l. AreStepped calls now there e l first next) (take_all i calls h) s

    module _ (i : ℕ) (d : Call) (h : i < length calls) (layer : List Front) (s : AreSteppedTo i layer) where
      abbrev c : Call
      c = get_or calls i d

      here : Contains (take (i + 1) calls) c
      here = subst (λ l. Contains l c) (sym (take_more calls i d h)) (Contains-push (take i calls) c)

      before : (x : Call) → Contains (take i calls) x → Contains (take (i + 1) calls) x
      before x k = subst (λ l. Contains l x) (sym (take_more calls i d h)) (Contains-append_left (take i calls) (c ∷ []) x k)

      cases : (x : Call) → Contains (take (i + 1) calls) x → Contains (take i calls) x ⊎ (c ≡ x)
      cases x k = Contains-push_cases (take i calls) c x (subst (λ l. Contains l x) (take_more calls i d h) k)

      pub step_passed : ¬ CanStep e c c.what → AreSteppedTo (i + 1) layer
      step_passed n = record {
        each = λ f k. ⊎_elim inl (λ j. inr (j.0, (j.1.0, before j.1.0 j.1.1, j.1.2))) (s.each f k);
        still = s.still;
        all = λ x k can. ⊎_elim
            (λ j. s.all x j can)
            (λ q. absurd (n (subst (λ (y : Call). CanStep e y y.what) (sym q) can)))
            (cases x k);
        apart = s.apart;
      }

      pub step_put : (g : Front) (next : List Front) → IsStepBy calls now c e g → IsPutIn calls there g layer next → AreSteppedTo (i + 1) next
      step_put g next step put = record {
        each = λ f k. ⊎_elim
            (λ o. ⊎_elim inl (λ j. inr (j.0, (j.1.0, before j.1.0 j.1.1, j.1.2))) (s.each f o))
            (λ q. inr (
              (λ m. q.1 (subst (IsCovered calls there) q.0 m)),
              (c, here, subst (IsStepBy calls now c e) (sym q.0) step),
            ))
            (put.each f k);
        still = λ f k. covered_still layer next put.still f (s.still f k);
        all = λ x k can. ⊎_elim
            (λ j. (let a = s.all x j can in (a.0, a.1, covered_later there layer next put.still a.0 a.2)))
            (λ q. (g, subst (λ (y : Call). IsStepBy calls now y e g) q step, put.kept))
            (cases x k);
        apart = λ a. put.apart (s.apart a);
      }

  -- a layer of fronts is tried
  module _ (now : ℕ) (there : List Front) where
    pub more_layered : (xs : List Front) (i : ℕ) (x : Front) → i < length xs → x ≡ get_or xs i x → (layer next : List Front) → IsLayerBy calls now there (take i xs) layer
        → AreStepped calls now there x calls layer next → IsLayerBy calls now there (take (i + 1) xs) next
    more_layered xs i x h is layer next l s =
        let more : take (i + 1) xs ≡ take i xs ++ x ∷ [] = take_more xs i x h ∙ ap (λ z. take i xs ++ z ∷ []) (sym is) in
        subst (λ t. IsLayerBy calls now there t next) (sym more) (record {
          each = λ f k. ⊎_elim
              (λ o. (let a = l.each f o in (a.0, Contains-append_left (take i xs) (x ∷ []) a.0 a.1, a.2)))
              (λ n. (x, Contains-push (take i xs) x, n.1))
              (s.each f k);
          new = λ f k. ⊎_elim (l.new f) (λ n. n.0) (s.each f k);
          all = λ e c k can. ⊎_elim
              (λ j. (let a = l.all e c (j, k.1) can in (a.0, a.1, covered_later there layer next s.still a.0 a.2)))
              (λ (q : x ≡ e). (let a = s.all c k.1 (subst (λ (y : Front). CanStep y c c.what) (sym q) can) in (a.0, subst (λ (y : Front). IsStepBy calls now c y a.0) q a.1, a.2)))
              (Contains-push_cases (take i xs) x e k.0);
          apart = s.apart l.apart;
        })

    pub all_layered : (xs : List Front) (i : ℕ) → length xs ≤ i → (layer : List Front) → IsLayerBy calls now there (take i xs) layer → IsLayerBy calls now there xs layer
    all_layered xs i h layer l = subst (λ t. IsLayerBy calls now there t layer) (take_all i xs h) l

  -- layers upon another
  layers_more : (now : ℕ) (there layer : List Front) (layers : List (List Front)) (fronts last next : List Front) → AreLayersBy calls now there layer layers fronts last
      → IsLayerBy calls now fronts last next → AreLayersBy calls now there layer (layers ++ next ∷ []) (fronts ++ next) next
  layers_more now there layer [] fronts last next a l =
      (subst (λ t. IsLayerBy calls now t layer next) (sym a.0) (subst (λ t. IsLayerBy calls now fronts t next) (sym a.1) l), (ap (λ t. t ++ next) a.0, refl))
  layers_more now there layer (x ∷ more) fronts last next a l = (a.0, layers_more now (there ++ x) x more fronts last next a.1 l)

  pub some_first : (now : ℕ) (rows : List Row) (first : List Front) → AllZip IsFirstFront rows first → AreSomeBy calls now rows first first
  some_first now rows first z = record { first = first; are_first = z; layers = []; are = (refl, refl) }

  pub some_more : (now : ℕ) (rows : List Row) (fronts last next : List Front) → AreSomeBy calls now rows fronts last → IsLayerBy calls now fronts last next
      → AreSomeBy calls now rows (fronts ++ next) next
  some_more now rows fronts last next s l = record {
    first = s.first;
    are_first = s.are_first;
    layers = s.layers ++ next ∷ [];
    are = layers_more now s.first s.first s.layers fronts last next s.are l;
  }

-- the first fronts
zip_push : {A B : Type 0} (R : A → B → Type 0) (xs : List A) (ys : List B) (x : A) (y : B) → AllZip R xs ys → R x y → AllZip R (xs ++ x ∷ []) (ys ++ y ∷ [])
zip_push R [] [] x y z r = (r, tt)
zip_push R [] (b ∷ ys) x y z r = absurd z
zip_push R (a ∷ xs) [] x y z r = absurd z
zip_push R (a ∷ xs) (b ∷ ys) x y z r = (z.0, zip_push R xs ys x y z.1 r)

pub first_more : (rows : List Row) (i : ℕ) (row : Row) → i < length rows → row ≡ get_or rows i row → (fronts next : List Front) (f : Front) → next ≡ fronts ++ f ∷ [] → AllZip IsFirstFront (take i rows) fronts
    → IsFirstFront row f → AllZip IsFirstFront (take (i + 1) rows) next
first_more rows i row h is fronts next f e z first =
    let more : take (i + 1) rows ≡ take i rows ++ row ∷ [] = take_more rows i row h ∙ ap (λ x. take i rows ++ x ∷ []) (sym is) in
    subst (λ l. AllZip IsFirstFront l next) (sym more) (subst (AllZip IsFirstFront (take i rows ++ row ∷ [])) (sym e) (zip_push IsFirstFront (take i rows) fronts row f z first))

pub first_all : (rows : List Row) (i : ℕ) → length rows ≤ i → (fronts : List Front) → AllZip IsFirstFront (take i rows) fronts → AllZip IsFirstFront rows fronts
first_all rows i h fronts z = subst (λ l. AllZip IsFirstFront l fronts) (take_all i rows h) z

-- what is left of a list from a place on
pub rest_whole : {X : Type 0} (xs : List X) (n : ℕ) → take (length xs - n) (drop n xs) ≡ drop n xs
rest_whole xs n = take_all (length xs - n) (drop n xs) (omega (arith, length-drop n xs))

pub rest_pushed : {X : Type 0} (xs ys : List X) (n : ℕ) → n ≡ length xs → drop n (xs ++ ys) ≡ ys
rest_pushed xs ys n e = subst (λ m. drop m (xs ++ ys) ≡ ys) (sym e) (drop_front xs ys)
  where
    drop_front : {X : Type 0} (xs ys : List X) → drop (length xs) (xs ++ ys) ≡ ys
    drop_front [] ys = refl
    drop_front (x ∷ xs) ys = drop_front xs ys
