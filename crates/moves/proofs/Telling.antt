-- an end that is made again from the records of its calls
use Rattle.std.proofs.Common.{◌≡◌, ℕ, ◌+◌, ◌≤◌, ⊎_elim, Bool, true, false, Some, None, List, length, slice_get, refl, sym, ap, ◌∙◌, subst, arith}
use Rattle.std.specs.Ordering.{nat_cmp}
use Rattle.std.specs.FinMap as finmap
use Rattle.std.specs.FinSet as finset
use Rattle.std.proofs.lemmas.Bool.{cases_eq, true≢false}
use Rattle.std.proofs.lemmas.Option.{slice_get_within}
use Rattle.models.specs.declared.finding.Found.{Found}
use Rattle.models.specs.declared.finding.Found.TheVariants.{Unit as Nothing}
use Rattle.linspec.specs.Ends.{End}
use Rattle.moves.specs.declared.pending_op.PendingOp.{PendingOp}
use Rattle.moves.specs.EndSteps.{with_call, is_in}
use Rattle.moves.specs.KeptEnds.{IsIncluded}
use Rattle.moves.specs.Tables.{HasEachOnce, IsToldBefore, found_by, found_in_end, nothing_if, told_by}
use Rattle.moves.proofs.Rows.{other_ids, included_with, not_in_by, same_told, told_with, told_without, with_state}
use Rattle.interner.proofs.Lists.{clash, one_of, place_of, has_place}

told_crash : (b : Bool) (x : Found) → nothing_if b ≡ Some x → Nothing ≡ x
told_crash true x e = one_of Nothing x e
told_crash false x e = absurd (clash x _ refl e)

module _ {S : Type 0} where
  told_found : (e : End S) (id : ℕ) (b : Bool) (x : Found) → found_in_end e id b ≡ Some x → told_by b x ≡ x
  told_found e id true x h = told_crash (finset.contains e.crashed id) x h
  told_found e id false x h = refl

  nothing_told : (s : S) (id : ℕ) (b : Bool) → found_in_end (record { state = s; pending = finmap.empty; crashed = finset.empty }) id b ≡ None
  nothing_told s id true = ap nothing_if (finset.contains-empty nat_cmp id)
  nothing_told s id false = finmap.get-empty {X = Found} nat_cmp id

  pub told_first : (calls : List PendingOp) (e k : End S) → k ≡ record { state = e.state; pending = finmap.empty; crashed = finset.empty } → IsToldBefore calls e k 0
  told_first calls e k is = subst (λ x. IsToldBefore calls e x 0) (sym is) (record {
    state = refl;
    included = record {
      pending = λ id x h. absurd (clash x _ (finmap.get-empty {X = Found} nat_cmp id) h);
      crashed = λ id h. absurd (true≢false (sym h ∙ finset.contains-empty nat_cmp id));
    };
    before = λ i c h lt. absurd (omega (arith, lt));
    after = λ i c h le. nothing_told e.state c.id c.crashed;
  })

  module _ (calls : List PendingOp) (e k : End S) (n : ℕ) (a : IsToldBefore calls e k n) where
    pub told_all : length calls ≤ n → IsIncluded calls e → k ≡ e
    told_all le included = same_told calls k e a.included included a.state
        (λ c h. let p = place_of calls c h in a.before p.0 c p.1 (let lt = slice_get_within calls p.0 c p.1 in omega (arith, lt, le)))

    module _ (c : PendingOp) (here : slice_get calls n ≡ Some c) where
      pub not_yet : is_in k c.id c.crashed ≡ false
      not_yet = not_in_by k c.id c.crashed (a.after n c here (omega arith))

      pub told_more : HasEachOnce calls → (x : Found) (now : End S) → found_by e c ≡ Some x → now ≡ with_call k c.id c.crashed x k.state → IsToldBefore calls e now (n + 1)
      told_more once x now some is = subst (λ y. IsToldBefore calls e y (n + 1)) (sym is) (record {
        state = with_state k c.id c.crashed x k.state ∙ a.state;
        included = included_with calls k c c.crashed x k.state refl (has_place calls n c here) a.included;
        before = λ i d h lt.
            ⊎_elim
            (λ q.
            let same : c ≡ d = one_of c d (sym here ∙ ap (slice_get calls) (sym q) ∙ h) in
            subst (λ y. found_by (with_call k c.id c.crashed x k.state) y ≡ found_by e y) same (told_with k c.id c.crashed x k.state ∙ ap Some (told_found e c.id c.crashed x some) ∙ sym some))
            (λ ne. told_without k c.id d.id c.crashed d.crashed x k.state (other_ids calls once i n d c h here ne) ∙ a.before i d h (omega (arith, lt, ne)))
            (cases_eq i n);
        after = λ i d h le. told_without k c.id d.id c.crashed d.crashed x k.state (other_ids calls once i n d c h here (λ q. omega (arith, le, q))) ∙ a.after i d h (omega (arith, le));
      })
