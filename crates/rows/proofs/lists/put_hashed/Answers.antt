use Rattle.std.proofs.Common.{◌≡◌, ℕ, List, [], ◌∷◌, ◌++◌, Vec, Global, inr, map, refl, sym, ap, ◌∙◌, subst}
use Rattle.std.specs.List.{Contains}
use Rattle.std.proofs.lemmas.List.{map-append}
use Rattle.rows.specs.Lists.{AreLists, items_of, list_hash}
use Rattle.rows.proofs.lists.put_hashed.Goals as goal

-- the lists in vectors that got room and no more
kept : (items roomy : List (Vec ℕ Global)) (hashes others last before places : List ℕ) → roomy ≡ items → others ≡ hashes → places ≡ before → AreLists (map items_of items) hashes last before
    → AreLists (map items_of roomy) others last places
kept items roomy hashes others last before places same hashed indexed are =
    subst (λ l. AreLists (map items_of l) others last places) (sym same)
    (subst (λ l. AreLists (map items_of items) l last places) (sym hashed)
    (subst (AreLists (map items_of items) hashes last) (sym indexed) are))

-- the hashes of one list more
one_more : (items more : List (Vec ℕ Global)) (list : Vec ℕ Global) (hashes others : List ℕ) (hash : ℕ) → more ≡ items ++ list ∷ [] → others ≡ hashes ++ hash ∷ [] → hash ≡ list_hash list.items → hashes ≡ map list_hash (map items_of items)
    → others ≡ map list_hash (map items_of more)
one_more items more list hashes others hash put put_hash its hashed =
    put_hash ∙ ap (λ l. l ++ hash ∷ []) hashed ∙ ap (λ n. map list_hash (map items_of items) ++ n ∷ []) its
    ∙ sym (ap (λ l. map list_hash (map items_of l)) put ∙ ap (map list_hash) (map-append items_of items (list ∷ [])) ∙ map-append list_hash (map items_of items) (list.items ∷ []))

pub returns-in_err-reserve-clause-lists : goal.returns-in_err-reserve-clause-lists
returns-in_err-reserve-clause-lists c =
    kept c.args.items.now.items _ c.args.hashes.now.items _ c.args.index.now.last.items c.args.index.now.before.items _ c.in_err-reserve.ensures.items refl refl c.requires.lists

pub returns-in_err-reserve-2-clause-lists : goal.returns-in_err-reserve-2-clause-lists
returns-in_err-reserve-2-clause-lists c =
    kept c.args.items.now.items _ c.args.hashes.now.items _ c.args.index.now.last.items c.args.index.now.before.items _ c.in_ok-reserve.ensures.items c.in_err-reserve-2.ensures.items refl c.requires.lists

pub returns-in_err-reserve-3-clause-lists : goal.returns-in_err-reserve-3-clause-lists
returns-in_err-reserve-3-clause-lists c =
    kept c.args.items.now.items _ c.args.hashes.now.items _ c.args.index.now.last.items c.args.index.now.before.items _ c.in_ok-reserve.ensures.items c.in_ok-reserve-2.ensures.items c.in_err-reserve-3.ensures.items c.requires.lists

pub returns-clause-lists : goal.returns-clause-lists
returns-clause-lists c = record {
  hashed = one_more c.args.items.now.items _ c.args.list c.args.hashes.now.items _ c.args.hash
      (c.push_reserved.ensures.items ∙ ap (λ l. l ++ c.args.list ∷ []) c.in_ok-reserve.ensures.items) (c.put_behind.ensures.put ∙ ap (λ l. l ++ c.args.hash ∷ []) c.in_ok-reserve-2.ensures.items) c.requires.hash c.requires.lists.hashed;
  index = c.put_behind.ensures.index;
}

pub returns-clause-put : goal.returns-clause-put
returns-clause-put c =
    let items = c.args.items.now.items in
    let list = c.args.list in
    let none : ¬ Contains (map items_of items) list.items =
    subst (λ l. ¬ Contains (map items_of l) list.items) c.deref.ensures.value
    (subst (λ l. ¬ Contains (map items_of c.deref.result.now) l) c.deref-3.ensures.value (c.has_list.ensures.not_there c.if-has_list.false)) in
    inr ((none, ap (map items_of) (c.push_reserved.ensures.items ∙ ap (λ l. l ++ list ∷ []) c.in_ok-reserve.ensures.items) ∙ map-append items_of items (list ∷ [])))
