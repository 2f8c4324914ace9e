-- what a parse finds of a flag: `true`, `false` or nothing, whatever the words are
use Rattle.std.proofs.Common.{◌≡◌, ◌∙◌, ℕ, ◌+◌, ◌==◌, ◌&&◌, Bool, cond, true, false, zero, suc, min, length, drop, List, [], ◌∷◌, ◌++◌, Option, Some, None, IfSome, nat_lt, find, fold, option_map, option_and_then, slice_get, encode_utf8, chars, refl, sym, ap, subst, inl, inr, ◌⊎◌}
use Rattle.std.specs.Option.{option_map_or}
use Rattle.std.specs.Str.{bytes_eq}
use Rattle.std.proofs.lemmas.Bool.{false≢true}
use Rattle.std.proofs.lemmas.Slice.Eq.{bytes_eq-Decides}
use Rattle.clap.specs.Lexer.{short_of, long_of}
use Rattle.clap.specs.Matches.{count_text}
use Rattle.clap.specs.Values.{read_as}
use Rattle.clap.specs.Walk.{Text, Rule, Row, Held, Names, Outcome, done, waits, plain, refused, Waiting, idle, option, positional, Step, next, trailing, subcommand, value, Walk, action_of, reading_by, takes_values, takes_several, is_multiple, is_pending, most_values, pending_count, arg_by_id, arg_by_long, arg_by_short, arg_by_index, at_row, without, more_values, with_values, new_count, with_count, count_of, row_text, one_of, values_or_missing, used_as, used, used_by_id, settled_rows, settled, reacted, option_met, flag_met, long_met, attached_value, short_met, bundle_step, bundle_met, bundle, pushed, started, option_word, plain_word, after_flag, long_word, short_or_plain, long_or_other, subcommand_met, subcommand_or_other, word_met, to_positional, after_step, walked_from, walked, walk, walk_from, nothing_held, has_row, default_rows, with_default, rows_after}
use Rattle.clap.specs.declared.builder.action.ArgAction.{ArgAction}
use Rattle.clap.specs.declared.builder.action.ArgAction.TheVariants.{Set, Append, SetTrue, SetFalse, Count}
use Rattle.clap.specs.declared.builder.value_parser.Reading.{Reading}
use Rattle.clap.specs.declared.parser.matches.ValueSource.{ValueSource}
use Rattle.clap.specs.declared.parser.matches.ValueSource.TheVariants.{DefaultValue, CommandLine}

-- the flag with this name; only such texts may be found for it
module _ (flag : Text) (IsTold : Text → Type 0) where
  abbrev IsOther : Text → Type 0
  IsOther id = bytes_eq id flag ≡ false

  other_of : (x y : Text) → bytes_eq x y ≡ true → IsOther y → IsOther x
  other_of x y same other = subst IsOther (sym ((bytes_eq-Decides x y).0 same)) other

  -- rows

  abbrev Tells : Option Text → Type 0
  Tells None = ⊥
  Tells (Some text) = IsTold text

  abbrev IsRight : Row → Type 0
  IsRight r = bytes_eq r.id flag ≡ true → Tells (row_text r)

  abbrev pub AreRight : List Row → Type 0
  AreRight [] = Unit {0}
  AreRight (r ∷ rows) = IsRight r × AreRight rows

  more : (how : Reading) (old new : List Text) → Tells (option_map (read_as how) (slice_get old 0)) → Tells (option_map (read_as how) (slice_get (old ++ new) 0))
  more how [] new tells = absurd tells
  more how (x ∷ old) new tells = tells

  joined : (rows others : List Row) → AreRight rows → AreRight others → AreRight (rows ++ others)
  joined [] others p q = q
  joined (r ∷ rows) others p q = (p.0, joined rows others p.1 q)

  at_row_right : (id : Text) (change : Row → List Row) (missing rows : List Row) → ((r : Row) → IsRight r → AreRight (change r)) → AreRight missing → AreRight rows → AreRight (at_row id change missing rows)
  at_row_right id change missing [] keeps new old = new
  at_row_right id change missing (r ∷ rows) keeps new old = go (bytes_eq r.id id) (at_row_right id change missing rows keeps new old.1)
    where
      go : (b : Bool) → AreRight (at_row id change missing rows) → AreRight (cond b (change r ++ rows) (r ∷ at_row id change missing rows))
      go true later = joined (change r) rows (keeps r old.0) old.1
      go false later = (old.0, later)

  pub without_right : (id : Text) (rows : List Row) → AreRight rows → AreRight (without id rows)
  without_right id rows old = at_row_right id (λ r. []) [] rows (λ r is. tt) tt old

  pub values_right : (id : Text) (how : Reading) (source : ValueSource) (values : List Text) (rows : List Row) → (bytes_eq id flag ≡ true → Tells (option_map (read_as how) (slice_get values 0))) → AreRight rows → AreRight (with_values id how source values rows)
  values_right id how source values rows new old =
      at_row_right id (more_values source values) (record { id = id; values = values; count = None; source = Some source; reading = how } ∷ []) rows
      (λ r is. ((λ same. more r.reading r.values values (is same)), tt)) (new, tt) old

  other_values : (id : Text) (how : Reading) (source : ValueSource) (values : List Text) (rows : List Row) → IsOther id → AreRight rows → AreRight (with_values id how source values rows)
  other_values id how source values rows other old = values_right id how source values rows (λ same. absurd (false≢true (sym other ∙ same))) old

  other_count : (id : Text) (how : Reading) (source : ValueSource) (n : ℕ) (rows : List Row) → IsOther id → AreRight rows → AreRight (with_count id how source n rows)
  other_count id how source n rows other old =
      at_row_right id (new_count source n) (record { id = id; values = count_text n ∷ []; count = Some n; source = Some source; reading = how } ∷ []) rows
      (λ r is. ((λ same. more r.reading r.values (count_text n ∷ []) (is same)), tt)) ((λ same. absurd (false≢true (sym other ∙ same))), tt) old

  other_used_as : (action : ArgAction) (id : Text) (how : Reading) (values : List Text) (rows : List Row) → IsOther id → AreRight rows → AreRight (used_as action id how values rows)
  other_used_as Set id how values rows other old = other_values id how CommandLine values (without id rows) other (without_right id rows old)
  other_used_as SetTrue id how values rows other old = other_values id how CommandLine values (without id rows) other (without_right id rows old)
  other_used_as SetFalse id how values rows other old = other_values id how CommandLine values (without id rows) other (without_right id rows old)
  other_used_as Append id how values rows other old = other_values id how CommandLine values rows other old
  other_used_as Count id how [] rows other old = other_count id how CommandLine (min (count_of id rows + 1) 255) (without id rows) other (without_right id rows old)
  other_used_as Count id how (v ∷ values) rows other old = other_values id how CommandLine (v ∷ values) (without id rows) other (without_right id rows old)
  other_used_as _ id how values rows other old = old

  other_used : (a : Rule) (values : List Text) (rows : List Row) → IsOther a.id → AreRight rows → AreRight (used a values rows)
  other_used a values rows other old = other_used_as (action_of a) a.id (reading_by a) (values_or_missing a values) rows other old

  -- rules: of another name, or the flag's own

  abbrev pub IsFlag : Rule → Type 0
  IsFlag a =
      (takes_values a ≡ false) × (a.index ≡ None)
      × ((rows : List Row) → AreRight rows → AreRight (used a [] rows))
      × ((rows : List Row) → AreRight rows → AreRight (default_rows a.id (reading_by a) a.defaults rows))

  abbrev pub IsKnown : Rule → Type 0
  IsKnown a = IsOther a.id ⊎ IsFlag a

  abbrev pub AreKnown : List Rule → Type 0
  AreKnown [] = Unit {0}
  AreKnown (a ∷ rules) = IsKnown a × AreKnown rules

  found : (p : Rule → Bool) (rules : List Rule) → AreKnown rules → IfSome (find p rules) (λ a. IsKnown a × (p a ≡ true))
  found p [] known = tt
  found p (a ∷ rules) known = go (p a) refl (found p rules known.1)
    where
      go : (b : Bool) → p a ≡ b → IfSome (find p rules) (λ x. IsKnown x × (p x ≡ true)) → IfSome (cond b (Some a) (find p rules)) (λ x. IsKnown x × (p x ≡ true))
      go true passes later = (known.0, passes)
      go false fails later = later

  known_of : (o : Option Rule) (P : Rule → Type 0) → IfSome o (λ a. IsKnown a × P a) → IfSome o IsKnown
  known_of None P is = tt
  known_of (Some a) P is = is.0

  takes_other : (a : Rule) → takes_values a ≡ true → IsKnown a → IsOther a.id
  takes_other a takes (inl other) = other
  takes_other a takes (inr is) = absurd (false≢true (sym is.0 ∙ takes))

  index_other : (a : Rule) (i : ℕ) → IsKnown a → option_map_or (λ k. k == i) a.index false ≡ true → IsOther a.id
  index_other a i (inl other) at = other
  index_other a i (inr is) at = absurd (false≢true (sym (ap (λ o. option_map_or (λ k. k == i) o false) is.1) ∙ at))

  -- the walk over the words

  abbrev IsHeld : Held → Type 0
  IsHeld h = AreRight h.rows × IfSome h.pending (λ p. IsOther p.0)

  abbrev IsOutcome : Outcome → Type 0
  IsOutcome (waits id) = IsOther id
  IsOutcome outcome = Unit {0}

  abbrev IsMet : Held × Outcome → Type 0
  IsMet met = IsHeld met.0 × IsOutcome met.1

  abbrev IsWaiting : Waiting → Type 0
  IsWaiting (option id) = IsOther id
  IsWaiting waiting = Unit {0}

  abbrev IsStep : Step → Type 0
  IsStep (next waiting) = IsWaiting waiting
  IsStep step = Unit {0}

  abbrev IsWord : Held × Step → Type 0
  IsWord met = IsHeld met.0 × IsStep met.1

  abbrev IsWalk : Walk → Type 0
  IsWalk w = IsHeld w.held × IsWaiting w.waiting

  by_id : (o : Option Rule) (id : Text) (values : List Text) (rows : List Row) → IfSome o (λ a. IsKnown a × (bytes_eq a.id id ≡ true)) → IsOther id → AreRight rows → AreRight (used_by_id o values rows)
  by_id None id values rows is other old = old
  by_id (Some a) id values rows is other old = other_used a values rows (other_of a.id id is.1 other) old

  started_other : (id : Text) (p : Option (Text × List Text)) → IsOther id → IfSome p (λ q. IsOther q.0) → IsOther (started id p).0
  started_other id None other is = other
  started_other id (Some q) other is = is

  pushed_is : (id word : Text) (h : Held) → IsOther id → IsHeld h → IsHeld (pushed id word h)
  pushed_is id word h other is = (is.0, started_other id h.pending other is.1)

  module _ (c : List Rule) (known : AreKnown c) where
    settled_right : (pending : Option (Text × List Text)) (rows : List Row) → IfSome pending (λ p. IsOther p.0) → AreRight rows → AreRight (settled_rows c pending rows)
    settled_right None rows other old = old
    settled_right (Some p) rows other old = by_id (arg_by_id c p.0) p.0 p.1 rows (found (λ a. bytes_eq a.id p.0) c known) other old

    settled_is : (h : Held) → IsHeld h → AreRight (settled c h).rows
    settled_is h is = settled_right h.pending h.rows is.1 is.0

    reacted_other : (a : Rule) (values : List Text) (h : Held) → IsOther a.id → IsHeld h → IsHeld (reacted c a values h)
    reacted_other a values h other is = (other_used a values (settled c h).rows other (settled_is h is), tt)

    reacted_none : (a : Rule) (h : Held) → IsKnown a → IsHeld h → IsHeld (reacted c a [] h)
    reacted_none a h (inl other) is = reacted_other a [] h other is
    reacted_none a h (inr flag_is) is = (flag_is.2 (settled c h).rows (settled_is h is), tt)

    option_is : (a : Rule) (v : Option Text) (h : Held) → IsOther a.id → IsHeld h → IsMet (option_met c a v h)
    option_is a (Some v) h other is = (reacted_other a (v ∷ []) h other is, tt)
    option_is a None h other is = ((settled_is h is, other), other)

    flag_is : (a : Rule) (v : Option Text) (h : Held) → IsKnown a → IsHeld h → IsMet (flag_met c a v h)
    flag_is a (Some v) h one is = (is, tt)
    flag_is a None h one is = (reacted_none a h one is, tt)

    long_is : (o : Option Rule) (v : Option Text) (h : Held) → IfSome o IsKnown → IsHeld h → IsMet (long_met c o v h)
    long_is None v h one is = (is, tt)
    long_is (Some a) v h one is = go (takes_values a) refl
      where
        go : (b : Bool) → takes_values a ≡ b → IsMet (cond b (option_met c a v h) (flag_met c a v h))
        go true takes = option_is a v h (takes_other a takes one) is
        go false none = flag_is a v h one is

    short_is : (o : Option Rule) (rest : Text) (h : Held) (more : Held → Held × Outcome) → IfSome o IsKnown → ((k : Held) → IsHeld k → IsMet (more k)) → IsHeld h → IsMet (short_met c o rest h more)
    short_is None rest h more one later is = (is, tt)
    short_is (Some a) rest h more one later is = go (takes_values a) refl
      where
        go : (b : Bool) → takes_values a ≡ b → IsMet (cond b (option_met c a (attached_value rest) h) (more (reacted c a [] h)))
        go true takes = option_is a (attached_value rest) h (takes_other a takes one) is
        go false none = later (reacted c a [] h) (reacted_none a h one is)

    any_short : (x : ℕ) → IfSome (arg_by_short c x) IsKnown
    any_short x = known_of (arg_by_short c x) _ (found _ c known)

    any_long : (name : Text) → IfSome (arg_by_long c name) IsKnown
    any_long name = known_of (arg_by_long c name) _ (found _ c known)

    bundle_step_is : (o : Option ℕ) (flags : Text) (skip : ℕ) (so_far : Outcome) (h : Held) (more : Text → ℕ → Outcome → Held → Held × Outcome)
        → ((t : Text) (n : ℕ) (s : Outcome) (k : Held) → IsOutcome s → IsHeld k → IsMet (more t n s k)) → IsOutcome so_far → IsHeld h → IsMet (bundle_step c o flags skip so_far h more)
    bundle_step_is None flags skip so_far h more later s is = (is, s)
    bundle_step_is (Some x) flags zero so_far h more later s is =
        short_is (arg_by_short c x) (drop (length (encode_utf8 x)) flags) h (more (drop (length (encode_utf8 x)) flags) 0 done) (any_short x)
        (λ k held. later (drop (length (encode_utf8 x)) flags) 0 done k tt held) is
    bundle_step_is (Some x) flags (suc skip) so_far h more later s is = later (drop (length (encode_utf8 x)) flags) skip so_far h s is

    bundle_is : (k : ℕ) (flags : Text) (skip : ℕ) (so_far : Outcome) (h : Held) → IsOutcome so_far → IsHeld h → IsMet (bundle_met c k flags skip so_far h)
    unfolding bundle_met
    bundle_is zero flags skip so_far h s is = (is, s)
    bundle_is (suc k) flags skip so_far h s is =
        bundle_step_is (slice_get (chars flags) 0) flags skip so_far h (bundle_met c k) (λ t n o m p q. bundle_is k t n o m p q) s is

    option_word_is : (o : Option Rule) (id word : Text) (h : Held) → IsOther id → IsHeld h → IsHeld (option_word o id word h).0 × IsWaiting (option_word o id word h).1
    option_word_is None id word h other is = (is, other)
    option_word_is (Some a) id word h other is = (pushed_is id word h other is, go (nat_lt (pending_count a (pushed id word h).pending) (most_values a)))
      where
        go : (b : Bool) → IsWaiting (cond b (option id) idle)
        go true = other
        go false = tt

    plain_is : (waiting : Waiting) (word : Text) (h : Held) → IsWaiting waiting → IsHeld h → IsWord (plain_word c waiting word h)
    plain_is (option id) word h w is = option_word_is (arg_by_id c id) id word h w is
    plain_is idle word h w is = (is, tt)
    plain_is positional word h w is = (is, tt)

    after_flag_is : (waiting : Waiting) (word : Text) (h : Held) (outcome : Outcome) → IsWaiting waiting → IsOutcome outcome → IsHeld h → IsWord (after_flag c waiting word h outcome)
    after_flag_is waiting word h done w o is = (is, tt)
    after_flag_is waiting word h (waits id) w o is = (is, o)
    after_flag_is waiting word h plain w o is = plain_is waiting word h w is
    after_flag_is waiting word h refused w o is = plain_is waiting word h w is

    long_word_is : (waiting : Waiting) (word name : Text) (v : Option Text) (h : Held) → IsWaiting waiting → IsHeld h → IsWord (long_word c waiting word name v h)
    long_word_is waiting word name v h w is =
        let met = long_is (arg_by_long c name) v h (any_long name) is in
        after_flag_is waiting word (long_met c (arg_by_long c name) v h).0 (long_met c (arg_by_long c name) v h).1 w met.1 met.0

    short_word_is : (waiting : Waiting) (word : Text) (flags : Option Text) (h : Held) → IsWaiting waiting → IsHeld h → IsWord (short_or_plain c waiting word flags h)
    short_word_is waiting word (Some flags) h w is =
        let met = bundle_is (length flags) flags h.skip plain (record h { skip = 0 }) tt is in
        after_flag_is waiting word (bundle c flags h).0 (bundle c flags h).1 w met.1 met.0
    short_word_is waiting word None h w is = plain_is waiting word h w is

    long_or_other_is : (waiting : Waiting) (word : Text) (o : Option (Text × Option Text)) (h : Held) → IsWaiting waiting → IsHeld h → IsWord (long_or_other c waiting word o h)
    long_or_other_is waiting word (Some p) h w is = long_word_is waiting word p.0 p.1 h w is
    long_or_other_is waiting word None h w is = short_word_is waiting word (short_of word) h w is

    subcommand_is : (named : Option Text) (waiting : Waiting) (position : ℕ) (word : Text) (h : Held) → IsWaiting waiting → IsHeld h → IsWord (subcommand_or_other c named waiting position word h)
    subcommand_is (Some name) waiting position word h w is = (is, tt)
    subcommand_is None waiting position word h w is = go (bytes_eq word (45 ∷ 45 ∷ []))
      where
        go : (b : Bool) → IsWord (cond b (h, trailing position) (long_or_other c waiting word (long_of word) h))
        go true = (is, tt)
        go false = long_or_other_is waiting word (long_of word) h w is

    word_is : (names : Names) (is_trailing : Bool) (waiting : Waiting) (position : ℕ) (word : Text) (h : Held) → IsWaiting waiting → IsHeld h → IsWord (word_met c names is_trailing waiting position word h)
    word_is names true waiting position word h w is = (is, tt)
    word_is names false waiting position word h w is = subcommand_is (subcommand_met names waiting word) waiting position word h w is

    to_positional_is : (o : Option Rule) (i : ℕ) (word : Text) (w : Walk) (h : Held) → IfSome o (λ a. IsKnown a × (option_map_or (λ k. k == i) a.index false ≡ true)) → IsWaiting w.waiting → IsHeld h → IsWalk (to_positional c o word w h)
    to_positional_is None i word w h one waiting is = (is, waiting)
    to_positional_is (Some a) i word w h one waiting is =
        (pushed_is a.id word (cond (is_pending a h.pending && takes_several a) h (settled c h)) (index_other a i one.0 one.1) (held (is_pending a h.pending && takes_several a)), after (is_multiple a))
      where
        held : (b : Bool) → IsHeld (cond b h (settled c h))
        held true = is
        held false = (settled_is h is, tt)

        after : (b : Bool) → IsWaiting (cond b positional idle)
        after true = tt
        after false = tt

    after_step_is : (word : Text) (w : Walk) (h : Held) (step : Step) → IsWaiting w.waiting → IsStep step → IsHeld h → IsWalk (after_step c word w h step)
    after_step_is word w h (next waiting) old s is = (is, s)
    after_step_is word w h (trailing position) old s is = (is, old)
    after_step_is word w h (subcommand name) old s is = (is, old)
    after_step_is word w h value old s is = to_positional_is (arg_by_index c w.position) w.position word w h (found _ c known) old is

    walked_is : (names : Names) (w : Walk) (word : Text) → IsWalk w → IsWalk (walked c names w word)
    unfolding walked
    walked_is names w word is = go w.stopped
      where
        go : (stopped : Option (Text × List Text)) → IsWalk (walked_from c names stopped w word)
        go (Some p) = is
        go None =
            let met = word_is names w.is_trailing w.waiting w.position word w.held is.1 is.0 in
            after_step_is word w (word_met c names w.is_trailing w.waiting w.position word w.held).0 (word_met c names w.is_trailing w.waiting w.position word w.held).1 is.1 met.1 met.0

    walk_is : (names : Names) (w : Walk) (words : List Text) → IsWalk w → IsWalk (fold (walked c names) w words)
    walk_is names w [] is = is
    walk_is names w (word ∷ words) is = walk_is names (walked c names w word) words (walked_is names w word is)

  -- defaults

  default_other : (id : Text) (how : Reading) (values : List Text) (rows : List Row) → IsOther id → AreRight rows → AreRight (default_rows id how values rows)
  default_other id how [] rows other old = old
  default_other id how (v ∷ values) rows other old = other_values id how DefaultValue (v ∷ values) rows other old

  default_right : (a : Rule) (rows : List Row) → IsKnown a → AreRight rows → AreRight (with_default rows a)
  default_right a rows known old = go (has_row a.id rows)
    where
      new : IsKnown a → AreRight (default_rows a.id (reading_by a) a.defaults rows)
      new (inl other) = default_other a.id (reading_by a) a.defaults rows other old
      new (inr is) = is.3 rows old

      go : (b : Bool) → AreRight (cond b rows (default_rows a.id (reading_by a) a.defaults rows))
      go true = old
      go false = new known

  defaults_right : (rules : List Rule) (rows : List Row) → AreKnown rules → AreRight rows → AreRight (fold with_default rows rules)
  defaults_right [] rows known old = old
  defaults_right (a ∷ rules) rows known old = defaults_right rules (with_default rows a) known.1 (default_right a rows known.0 old)

  -- the matches of a command on these words, and the text of the flag in them

  rows_right : (c : List Rule) → AreKnown c → (names : Names) (words : List Text) → AreRight (rows_after c names words)
  rows_right c known names words =
      defaults_right c (settled c (walk c names nothing_held words).held).rows known
      (settled_is c known (walk c names nothing_held words).held (walk_is c known names (walk_from nothing_held) words ((tt, tt), tt)).0)

  told : (rows : List Row) → AreRight rows → IfSome (one_of flag rows) IsTold
  told [] right = tt
  told (r ∷ rows) right = go (bytes_eq r.id flag) refl (told rows right.1)
    where
      text : (o : Option Text) → Tells o → IfSome o IsTold
      text None tells = absurd tells
      text (Some t) tells = tells

      go : (b : Bool) → bytes_eq r.id flag ≡ b → IfSome (one_of flag rows) IsTold → IfSome (option_and_then row_text (cond b (Some r) (find (λ x. bytes_eq x.id flag) rows))) IsTold
      go true same later = text (row_text r) (right.0 same)
      go false other later = later

  pub text_after : (c : List Rule) → AreKnown c → (names : Names) (words : List Text) → IfSome (one_of flag (rows_after c names words)) IsTold
  text_after c known names words = told (rows_after c names words) (rows_right c known names words)
