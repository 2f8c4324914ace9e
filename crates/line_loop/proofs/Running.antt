-- How the replies continue, from the state between two reads.
use Rattle.std.proofs.Common.{◌≡◌, ◌≢◌, ℕ, ◌+◌, ◌-◌, ◌<◌, Bool, true, false, List, [], ◌∷◌, ◌++◌, length, take, refl, ap, sym, ◌∙◌, subst, arith, append-nil, append_assoc, inl, inr}
use Rattle.std.specs.Prelude.{Option, None, Some, Result, Ok, Err, OnOk, OnErr, ⊤}
use Rattle.std.proofs.lemmas.List.{take_all, append_cancel_left}
use Rattle.std.proofs.lemmas.Bool.Decides.{leb_tells}
use Rattle.std.specs.Io.KnownBytes.{Appends, append_known, Consumes, IsAtEnd}
use Rattle.std.proofs.KnownBytes.{Appends-trans, Appends-nil, Consumes-trans}
use Rattle.edn.specs.declared.refusal.Refusal.{Refusal}
use Rattle.edn.specs.declared.refusal.Refusal.TheVariants.{ReadFailed}
use Rattle.line_loop.specs.Lines.{ended, IsLine, last_line}
use Rattle.line_loop.specs.ReplyText.{line_limit, Replies}
use Rattle.line_loop.specs.Stopping.{read_lines, IsPartlyAnswered, IsUpToDate, Stops, KeepsUp}
use Rattle.line_loop.specs.BetweenReads.{Reading, Between, between, Stands, GoesOn, StopsIn, Ends, StopsAtEnd, IsAnsweredFor, LineIsAnswered}
use Rattle.line_loop.proofs.Appending.{Appends-then_nil, Appends-more, Appends-to_none, Appends-of_none, Appends-under, Appends-written}
use Rattle.line_loop.proofs.Cutting.{cuts_nothing, cuts_along, cuts_bytes, cuts_feed, cuts_more, clip_over, clip_more, rest_none, last_none, last_some}

pub consumed_nothing : (a b c : Option (List ℕ)) (bs : List ℕ) → Consumes a b bs → Consumes b c [] → Consumes a c bs
consumed_nothing a b c bs p q = subst (Consumes a c) (append-nil bs) (Consumes-trans a b c bs [] p q)

module _ {S : Type 0} (may : S → List ℕ → List ℕ → S → Type 0) where
  -- runs go on
  replies_more : (old : S) (lines others : List (List ℕ)) (first second : List ℕ) (mid new : S) → Replies may old lines first mid → Replies may mid others second new → Replies may old (lines ++ others) (first ++ second) new
  replies_more old [] others first second mid new p q =
      let at : Replies may old others second new = subst (λ s. Replies may s others second new) p.1 q in
      subst (λ l. Replies may old others (l ++ second) new) (sym p.0) at
  replies_more old (line ∷ lines) others first second mid new p q =
      let (next, one, more, answered, run, whole) = p in
      (next, one, more ++ second, answered, replies_more next lines others more second mid new run q, ap (λ l. l ++ second) whole ∙ append_assoc one more second)

  -- the held bytes are answered as the line is
  answers_whole : (held rest text : List ℕ) (old new : S) → held ≡ take (line_limit + 1) rest → IsAnsweredFor may old held text new → may old rest text new
  answers_whole held rest text old new e h = elim (leb_tells (length rest) line_limit) as (λ _. may old rest text new) [
    | inl p ↦ let same : held ≡ rest = e ∙ take_all (line_limit + 1) rest (let short = p.1 in omega arith) in subst (λ l. may old l text new) same (h.within (let short = p.1 in let long : length held ≡ length rest = ap length same in omega arith))
    | inr p ↦ h.over (clip_over line_limit held rest e p.1) rest p.1
  ]

  -- and a line of which all is there
  answers_itself : (line text : List ℕ) (old new : S) → IsAnsweredFor may old line text new → may old line text new
  answers_itself line text old new h = elim (leb_tells (length line) line_limit) as (λ _. may old line text new) [
    | inl p ↦ h.within p.1
    | inr p ↦ h.over p.1 line p.1
  ]

  -- one line more
  line_more : (old : S) (before : Option (List ℕ)) (seen : List ℕ) (here : Between S) (h : Stands may old before seen here) (text : List ℕ) (new : S)
      → IsAnsweredFor may here.state here.held text new → Replies may old (h.lines ++ h.rest ∷ []) (h.text ++ text) new
  line_more old before seen here h text new p =
      let one : Replies may here.state (h.rest ∷ []) text new = (new, text, [], answers_whole here.held h.rest text here.state new h.held_is p, (refl, refl), sym (append-nil text)) in
      replies_more old h.lines (h.rest ∷ []) h.text text here.state new h.run one

  -- a line feed
  goes_feed : (here there : Between S) → LineIsAnswered may here there → GoesOn may (10 ∷ []) here there
  goes_feed here there p old before seen h = record {
    lines = h.lines ++ h.rest ∷ [];
    rest = [];
    text = h.text ++ p.text;
    cut = cuts_feed h.cut;
    run = line_more old before seen here h p.text there.state p.answered;
    held_is = p.empty;
    grown = Appends-trans before here.written there.written h.text p.text h.grown p.grown;
  }

  -- a whole line and its line feed, where nothing is held
  pub goes_whole : (line : List ℕ) → IsLine line → (here there : Between S) → here.held ≡ [] → there.held ≡ [] → (text : List ℕ) → IsAnsweredFor may here.state line text there.state → Appends here.written there.written text
      → GoesOn may (ended line) here there
  goes_whole line plain here there none empty text answered grown old before seen h =
      let same : h.rest ++ line ≡ line = ap (λ l. l ++ line) (rest_none line_limit here.held h.rest h.held_is none) in
      let of_all : may here.state (h.rest ++ line) text there.state = subst (λ l. may here.state l text there.state) (sym same) (answers_itself line text here.state there.state answered) in
      let one : Replies may here.state ((h.rest ++ line) ∷ []) text there.state = (there.state, text, [], of_all, (refl, refl), sym (append-nil text)) in
      record {
        lines = h.lines ++ (h.rest ++ line) ∷ [];
        rest = [];
        text = h.text ++ text;
        cut = cuts_along (append_assoc seen line (10 ∷ [])) refl (cuts_feed (cuts_bytes line plain h.cut));
        run = replies_more old h.lines ((h.rest ++ line) ∷ []) h.text text here.state there.state h.run one;
        held_is = empty;
        grown = Appends-trans before here.written there.written h.text text h.grown grown;
      }

  -- the same, of a session
  pub answers_whole_line : {M : Type 0} (state : M → S) (line : List ℕ) → IsLine line → (inner old : Reading M) → inner ≡ old → old.held ≡ [] → (machine : M) (text replies : List ℕ)
      → IsAnsweredFor may (state inner.machine) line text (state machine) → replies ≡ inner.replies ++ text
      → (written : Option (List ℕ)) → GoesOn may (ended line) (between state old written) (between state (record { machine = machine; held = inner.held; replies = replies }) written)
  answers_whole_line state line plain inner old same none machine text replies answered grown written =
      let there = between state (record { machine = machine; held = inner.held; replies = replies }) written in
      let empty : inner.held ≡ [] = ap (λ r. r.held) same ∙ none in
      subst (λ r. GoesOn may (ended line) (between state r written) there) same
      (goes_whole line plain (between state inner written) there empty empty text answered (Appends-more written inner.replies replies text grown))

  -- the held bytes of a session are answered, and then none is held
  pub answers_held_line : {M : Type 0} (state : M → S) (inner old : Reading M) → inner ≡ old → (line : List ℕ) → line ≡ inner.held → (machine : M) (text replies held : List ℕ)
      → IsAnsweredFor may (state inner.machine) line text (state machine) → replies ≡ inner.replies ++ text → held ≡ []
      → (written : Option (List ℕ)) → LineIsAnswered may (between state old written) (between state (record { machine = machine; held = held; replies = replies }) written)
  answers_held_line {M} state inner old same line is machine text replies held answered grown none written =
      subst (λ (r : Reading M). LineIsAnswered may (between state r written) (between state (record { machine = machine; held = held; replies = replies }) written)) same
      (record {
        text = text;
        answered = subst (λ l. IsAnsweredFor may (state inner.machine) l text (state machine)) is answered;
        grown = Appends-more written inner.replies replies text grown;
        empty = none;
      })

  -- bytes of a line
  pub goes_bytes : (bytes : List ℕ) → IsLine bytes → (here : Between S) → GoesOn may bytes here (record here { held = here.held ++ take (line_limit + 1 - length here.held) bytes })
  goes_bytes bytes plain here old before seen h = record {
    lines = h.lines;
    rest = h.rest ++ bytes;
    text = h.text;
    cut = cuts_bytes bytes plain h.cut;
    run = h.run;
    held_is = clip_more (line_limit + 1) here.held h.rest bytes h.held_is;
    grown = h.grown;
  }

  -- the same, of a session that holds them
  pub goes_held : {M : Type 0} (state : M → S) (bytes : List ℕ) → IsLine bytes → (inner old : Reading M) → inner ≡ old → (held : List ℕ) → held ≡ inner.held ++ take (line_limit + 1 - length inner.held) bytes
      → (written : Option (List ℕ)) → GoesOn may bytes (between state old written) (between state (record inner { held = held }) written)
  goes_held state bytes plain inner old same held more written =
      let here : GoesOn may bytes (between state inner written) (between state (record inner { held = held }) written) =
      subst (λ l. GoesOn may bytes (between state inner written) (between state (record inner { held = l }) written)) (sym more) (goes_bytes bytes plain (between state inner written)) in
      subst (λ r. GoesOn may bytes (between state r written) (between state (record inner { held = held }) written)) same here

  -- one piece after another
  pub goes_then : (one two : List ℕ) (here mid there : Between S) → GoesOn may one here mid → GoesOn may two mid there → GoesOn may (one ++ two) here there
  goes_then one two here mid there p q old before seen h =
      subst (λ l. Stands may old before l there) (append_assoc seen one two) (q old before (seen ++ one) (p old before seen h))

  -- bytes of a line, and its line feed
  pub goes_line : (bytes : List ℕ) (here mid there : Between S) → GoesOn may bytes here mid → LineIsAnswered may mid there → GoesOn may (ended bytes) here there
  goes_line bytes here mid there p q = goes_then bytes (10 ∷ []) here mid there p (goes_feed mid there q)

  -- nothing
  pub goes_nowhere : (here : Between S) → GoesOn may [] here here
  goes_nowhere here old before seen h = subst (λ l. Stands may old before l here) (sym (append-nil seen)) h

  -- the replies are written
  pub goes_written : {M : Type 0} (state : M → S) (piece : List ℕ) (here : Between S) (mid there : Reading M) (a b : Option (List ℕ)) → there ≡ record mid { replies = [] } → Appends a b mid.replies
      → GoesOn may piece here (between state mid a) → GoesOn may piece here (between state there b)
  goes_written state piece here mid there a b same wrote p old before seen h =
      let g = p old before seen h in
      let all : Appends before b g.text = Appends-written before a b mid.replies g.text g.grown wrote in
      let at : Stands may old before (seen ++ piece) (between state (record mid { replies = [] }) b) = record {
        lines = g.lines;
        rest = g.rest;
        text = g.text;
        cut = g.cut;
        run = g.run;
        held_is = g.held_is;
        grown = Appends-then_nil before b (append_known b []) g.text all (Appends-to_none b);
      } in
      subst (λ r. Stands may old before (seen ++ piece) (between state r b)) (sym same) at

  -- a loop that has stopped has stopped too if more was read
  stopped_more : (old : S) (before : Option (List ℕ)) (seen more : List ℕ) (after : Option (List ℕ)) → IsPartlyAnswered may old before seen false after → IsPartlyAnswered may old before (seen ++ more) false after
  stopped_more old before seen more after h =
      let b = h.beginning in
      let further = cuts_more more seen b.lines b.rest b.cut in
      record {
        written = h.written;
        grown = h.grown;
        beginning = record {
          lines = b.lines ++ further.extra;
          rest = further.rest;
          cut = further.cut;
          done = b.done;
          later = b.later ++ further.extra;
          front = ap (λ l. l ++ further.extra) b.front ∙ append_assoc b.done b.later further.extra;
          more = b.more;
          new = b.new;
          run = b.run;
        };
      }

  pub stops_then : (one two : List ℕ) (here mid : Between S) (after : Option (List ℕ)) → GoesOn may one here mid → StopsIn may two mid after → StopsIn may (one ++ two) here after
  stops_then one two here mid after p q old before seen h =
      subst (λ l. IsPartlyAnswered may old before l false after) (append_assoc seen one two) (q old before (seen ++ one) (p old before seen h))

  pub stops_before : (one more : List ℕ) (here : Between S) (after : Option (List ℕ)) → StopsIn may one here after → StopsIn may (one ++ more) here after
  stops_before one more here after p old before seen h =
      subst (λ l. IsPartlyAnswered may old before l false after) (append_assoc seen one more) (stopped_more old before (seen ++ one) more after (p old before seen h))

  -- lines that were read: none of the held one was written
  stopped_here : (old : S) (before : Option (List ℕ)) (seen : List ℕ) (here : Between S) (after : Option (List ℕ)) (has_ended : Bool) (later : List (List ℕ)) → (h : Stands may old before seen here)
      → read_lines has_ended h.lines h.rest ≡ h.lines ++ later → Appends here.written after [] → IsPartlyAnswered may old before seen has_ended after
  stopped_here old before seen here after has_ended later h front grown = record {
    written = h.text;
    grown = Appends-then_nil before here.written after h.text h.grown grown;
    beginning = record {
      lines = h.lines;
      rest = h.rest;
      cut = h.cut;
      done = h.lines;
      later = later;
      front = front;
      more = [];
      new = here.state;
      run = subst (λ l. Replies may old h.lines l here.state) (sym (append-nil h.text)) h.run;
    };
  }

  pub stopped_standing : (old : S) (before : Option (List ℕ)) (seen : List ℕ) (here : Between S) → Stands may old before seen here → IsPartlyAnswered may old before seen false here.written
  stopped_standing old before seen here h = stopped_here old before seen here here.written false [] h (sym (append-nil h.lines)) (Appends-nil here.written)

  -- there was no memory to hold more
  pub stops_at_once : (bytes : List ℕ) (here : Between S) → StopsIn may bytes here here.written
  stops_at_once bytes here old before seen h = stopped_more old before seen bytes here.written (stopped_standing old before seen here h)

  -- at the end there was no memory for the reply to a last line
  pub stops_last : (here : Between S) → StopsAtEnd may here here.written
  stops_last here old before seen h = stopped_here old before seen here here.written true (last_line h.rest) h refl (Appends-nil here.written)

  -- the answers are written
  stopped_written : (old : S) (before : Option (List ℕ)) (input : List ℕ) (has_ended : Bool) (a b : Option (List ℕ)) (replies : List ℕ) → Appends a b replies
      → IsPartlyAnswered may old before input has_ended (append_known a replies) → IsPartlyAnswered may old before input has_ended b
  stopped_written old before input has_ended a b replies wrote h = record { written = h.written; grown = Appends-written before a b replies h.written h.grown wrote; beginning = h.beginning }

  pub stops_written : (piece : List ℕ) (here : Between S) (a b : Option (List ℕ)) (replies : List ℕ) → Appends a b replies → StopsIn may piece here (append_known a replies) → StopsIn may piece here b
  stops_written piece here a b replies wrote p old before seen h = stopped_written old before (seen ++ piece) false a b replies wrote (p old before seen h)

  pub ends_short : (here : Between S) (a b : Option (List ℕ)) (replies : List ℕ) → Appends a b replies → StopsAtEnd may here (append_known a replies) → StopsAtEnd may here b
  ends_short here a b replies wrote p old before seen h = stopped_written old before seen true a b replies wrote (p old before seen h)

  -- or a part of it
  stopped_short : (old : S) (before : Option (List ℕ)) (input : List ℕ) (has_ended : Bool) (a b : Option (List ℕ)) (start replies part more : List ℕ) → Appends before a start → replies ≡ part ++ more → Appends a b part
      → IsPartlyAnswered may old before input has_ended (append_known a replies) → IsPartlyAnswered may old before input has_ended b
  stopped_short old None input has_ended a b start replies part more began cut wrote h = record { written = h.written; grown = tt; beginning = h.beginning }
  stopped_short old (Some x) input has_ended None b start replies part more began cut wrote h = absurd began
  stopped_short old (Some x) input has_ended (Some y) None start replies part more began cut wrote h = absurd wrote
  stopped_short old (Some x) input has_ended (Some y) (Some z) start replies part more began cut wrote h =
      let r = h.beginning in
      let far : x ++ (start ++ replies) ≡ x ++ h.written = sym (append_assoc x start replies) ∙ ap (λ l. l ++ replies) (sym began) ∙ h.grown in
      let whole : start ++ replies ≡ h.written = append_cancel_left x (start ++ replies) h.written far in
      let parts : h.written ≡ (start ++ part) ++ more = sym whole ∙ ap (λ l. start ++ l) cut ∙ sym (append_assoc start part more) in
      let text : h.written ++ r.more ≡ (start ++ part) ++ (more ++ r.more) = ap (λ l. l ++ r.more) parts ∙ append_assoc (start ++ part) more r.more in
      record {
        written = start ++ part;
        grown = wrote ∙ ap (λ l. l ++ part) began ∙ append_assoc x start part;
        beginning = record {
          lines = r.lines;
          rest = r.rest;
          cut = r.cut;
          done = r.done;
          later = r.later;
          front = r.front;
          more = more ++ r.more;
          new = r.new;
          run = subst (λ l. Replies may old r.done l r.new) text r.run;
        };
      }

  -- where nothing was to be written at first
  began : (old : S) (before a : Option (List ℕ)) (seen : List ℕ) (here : Between S) (h : Stands may old before seen here) → here.written ≡ append_known a [] → Appends before a h.text
  began old before a seen here h none = Appends-then_nil before (append_known a []) a h.text (subst (λ w. Appends before w h.text) none h.grown) (Appends-of_none a)

  pub stops_short : (piece : List ℕ) (here : Between S) (a b : Option (List ℕ)) (replies : List ℕ) → here.written ≡ append_known a []
      → ((part : List ℕ) × (more : List ℕ) × (replies ≡ part ++ more) × Appends a b part) → StopsIn may piece here (append_known a replies) → StopsIn may piece here b
  stops_short piece here a b replies none some p old before seen h =
      let (part, more, cut, wrote) = some in
      stopped_short old before (seen ++ piece) false a b h.text replies part more (began old before a seen here h none) cut wrote (p old before seen h)

  pub ends_cut_short : (here : Between S) (a b : Option (List ℕ)) (replies : List ℕ) → here.written ≡ append_known a []
      → ((part : List ℕ) × (more : List ℕ) × (replies ≡ part ++ more) × Appends a b part) → StopsAtEnd may here (append_known a replies) → StopsAtEnd may here b
  ends_cut_short here a b replies none some p old before seen h =
      let (part, more, cut, wrote) = some in
      stopped_short old before seen true a b h.text replies part more (began old before a seen here h none) cut wrote (p old before seen h)

  -- there was no memory to go on, and the replies stayed
  pub stops_kept : {M : Type 0} (state : M → S) (bytes : List ℕ) (reading : Reading M) (replies : List ℕ) (written : Option (List ℕ)) → replies ≡ reading.replies → StopsIn may bytes (between state reading written) (append_known written replies)
  stops_kept state bytes reading replies written kept =
      subst (λ l. StopsIn may bytes (between state reading written) (append_known written l)) (sym kept) (stops_at_once bytes (between state reading written))

  pub ends_kept : {M : Type 0} (state : M → S) (reading : Reading M) (replies : List ℕ) (written : Option (List ℕ)) → replies ≡ reading.replies → StopsAtEnd may (between state reading written) (append_known written replies)
  ends_kept state reading replies written kept =
      subst (λ l. StopsAtEnd may (between state reading written) (append_known written l)) (sym kept) (stops_last (between state reading written))

  -- a piece that was taken is one in which it may stop
  pub stops_after : (piece : List ℕ) (here there : Between S) → GoesOn may piece here there → StopsIn may piece here there.written
  stops_after piece here there p old before seen h = stopped_standing old before (seen ++ piece) there (p old before seen h)

  -- however the piece was taken
  pub stops_either : {E : Type 0} (r : Result ⊤ E) (piece : List ℕ) (here there : Between S) → OnOk r (GoesOn may piece here there) → OnErr r (StopsIn may piece here there.written) → StopsIn may piece here there.written
  stops_either (Ok x) piece here there p q = stops_after piece here there p
  stops_either (Err e) piece here there p q = q

  -- the end, with no last line
  pub ends_none : (here : Between S) → here.held ≡ [] → Ends may here here.state here.written
  ends_none here none old before seen h = record {
    text = h.text;
    grown = h.grown;
    replies = record { lines = h.lines; rest = h.rest; cut = h.cut; run = subst (λ l. Replies may old l h.text here.state) (sym (ap (λ l. h.lines ++ l) (last_none line_limit here.held h.rest h.held_is none) ∙ append-nil h.lines)) h.run };
  }

  -- the end, with one
  pub ends_some : (here there : Between S) → 0 < length here.held → LineIsAnswered may here there → Ends may here there.state there.written
  ends_some here there some p old before seen h = record {
    text = h.text ++ p.text;
    grown = Appends-trans before here.written there.written h.text p.text h.grown p.grown;
    replies = record { lines = h.lines; rest = h.rest; cut = h.cut; run = subst (λ l. Replies may old (h.lines ++ l) (h.text ++ p.text) there.state) (sym (last_some line_limit here.held h.rest h.held_is some)) (line_more old before seen here h p.text there.state p.answered) };
  }

  -- the end was answered, and no more was written
  pub stops_ended : (here : Between S) (new : S) (after : Option (List ℕ)) → Ends may here new after → StopsAtEnd may here after
  stops_ended here new after p old before seen h =
      let f = p old before seen h in
      let r = f.replies in
      record {
        written = f.text;
        grown = f.grown;
        beginning = record {
          lines = r.lines;
          rest = r.rest;
          cut = r.cut;
          done = r.lines ++ last_line r.rest;
          later = [];
          front = sym (append-nil _);
          more = [];
          new = new;
          run = subst (λ l. Replies may old (r.lines ++ last_line r.rest) l new) (sym (append-nil f.text)) r.run;
        };
      }

  pub ends_either : {E : Type 0} (r : Result ⊤ E) (here : Between S) (new : S) (after : Option (List ℕ)) → OnOk r (Ends may here new after) → OnErr r (StopsAtEnd may here after) → StopsAtEnd may here after
  ends_either (Ok x) here new after p q = stops_ended here new after p
  ends_either (Err e) here new after p q = q

  -- the replies are written
  pub ends_written : (here : Between S) (new : S) (a b : Option (List ℕ)) (replies : List ℕ) → Appends a b replies → Ends may here new (append_known a replies) → Ends may here new b
  ends_written here new a b replies wrote p old before seen h =
      let f = p old before seen h in
      record { text = f.text; grown = Appends-written before a b replies f.text f.grown wrote; replies = f.replies }

  -- the start of all
  pub stands_first : {M : Type 0} (state : M → S) (first : Reading M) (written : Option (List ℕ)) → first.held ≡ [] → first.replies ≡ [] → Stands may (state first.machine) written [] (between state first written)
  stands_first state first written none no_replies = record {
    lines = [];
    rest = [];
    text = [];
    cut = cuts_nothing;
    run = (refl, refl);
    held_is = none;
    grown = subst (λ l. Appends written (append_known written l) []) (sym no_replies) (Appends-to_none written);
  }

  -- the flush, before anything was written
  pub stands_flushed : {M : Type 0} (state : M → S) (old : S) (before : Option (List ℕ)) (seen : List ℕ) (reading : Reading M) (a b : Option (List ℕ)) → Appends a b []
      → Stands may old before seen (between state reading a) → Stands may old before seen (between state reading b)
  stands_flushed state old before seen reading a b q h = record {
    lines = h.lines;
    rest = h.rest;
    text = h.text;
    cut = h.cut;
    run = h.run;
    held_is = h.held_is;
    grown = Appends-then_nil before (append_known a reading.replies) (append_known b reading.replies) h.text h.grown (Appends-under a b reading.replies q);
  }

  -- where nothing is to be written
  pub stopped_reading : {M : Type 0} (state : M → S) (old : S) (before : Option (List ℕ)) (seen : List ℕ) (reading : Reading M) (written : Option (List ℕ)) → reading.replies ≡ []
      → Stands may old before seen (between state reading written) → IsPartlyAnswered may old before seen false written
  stopped_reading state old before seen reading written none h =
      stopped_here old before seen (between state reading written) written false [] h (sym (append-nil h.lines)) (subst (λ l. Appends (append_known written l) written []) (sym none) (Appends-of_none written))

  -- in mid-stream
  pub halts_within : (old : S) (left left' : Option (List ℕ)) (before after : Option (List ℕ)) (seen : List ℕ) → Consumes left left' seen → IsPartlyAnswered may old before seen false after → (e : Refusal) → Stops may old left left' before after e
  halts_within old left left' before after seen read stopped e = record { seen = seen; has_ended = false; read = read; at_end = λ t. absurd (cc t); not_reading = λ t. absurd (cc t); answered = stopped }

  -- at the end
  pub halts_ending : (old : S) (left left' : Option (List ℕ)) (before after : Option (List ℕ)) (seen : List ℕ) → Consumes left left' seen → IsAtEnd left' → IsPartlyAnswered may old before seen true after → (e : Refusal) → e ≢ ReadFailed → Stops may old left left' before after e
  halts_ending old left left' before after seen read end stopped e other = record { seen = seen; has_ended = true; read = read; at_end = λ _. end; not_reading = λ _. other; answered = stopped }

  -- all lines that were read have their replies
  pub up_to_date : {M : Type 0} (state : M → S) (old : S) (before : Option (List ℕ)) (seen : List ℕ) (reading : Reading M) (written : Option (List ℕ)) → reading.replies ≡ []
      → Stands may old before seen (between state reading written) → IsUpToDate may old before seen (state reading.machine) written
  up_to_date state old before seen reading written none h = record {
    lines = h.lines;
    rest = h.rest;
    cut = h.cut;
    written = h.text;
    grown = began old before written seen (between state reading written) h (ap (append_known written) none);
    run = h.run;
  }

  pub keeps_up : {M : Type 0} (state : M → S) (old : S) (left left' : Option (List ℕ)) (before : Option (List ℕ)) (seen : List ℕ) (reading : Reading M) (written : Option (List ℕ)) → reading.replies ≡ []
      → Consumes left left' seen → Stands may old before seen (between state reading written) → KeepsUp may old (state reading.machine) left left' before written
  keeps_up state old left left' before seen reading written none read h = record { seen = seen; read = read; answered = up_to_date state old before seen reading written none h }

  -- the flush of the replies that are still due
  pub stopped_flushed : (old : S) (before : Option (List ℕ)) (seen : List ℕ) (a b : Option (List ℕ)) → Appends a b [] → IsPartlyAnswered may old before seen false a → IsPartlyAnswered may old before seen false b
  stopped_flushed old before seen a b q h = record { written = h.written; grown = Appends-then_nil before a b h.written h.grown q; beginning = h.beginning }
