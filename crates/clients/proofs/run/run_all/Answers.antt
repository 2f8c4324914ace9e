use Rattle.std.proofs.Common.{◌≡◌, ℕ, ◌<◌, ◌≤◌, ◌^◌, ◌++◌, ◌∷◌, [], List, sym, subst, arith, rules, ◌∙◌, ap, length, map, IfOk}
use Rattle.std.specs.List.{All, enumerate_from}
use Rattle.std.specs.Option.{option_to_list}
use Rattle.clients.specs.Plays.{HaveRun}
use Rattle.clients.specs.Playing.{HavePlayed}
use Rattle.clients.proofs.Making.{struck_on}
use Rattle.clients.proofs.Results.{ok_both}
use Rattle.clients.proofs.Running.{have_run, numbered_few}
use Rattle.clients.proofs.run.run_all.Goals as goal

pub join-struck-requires-after_bounds : goal.join-struck-requires-after_bounds
join-struck-requires-after_bounds g c κs within =
    let few : length c.pop.new.self.items ≤ 2 ^ 32 = omega (arith, c.pop.ensures.len, c.pop.new.self.ok.0, c.args.seats.ok.0, c.requires.1) in
    (tt, (subst (λ (l : List _). All (λ (x : ℕ × _). x.0 < 2 ^ 32) l) (sym c.in_ok-clients.ensures) (numbered_few c.pop.new.self.items (2 ^ 32) few), search rules))

pub returns-clause-back : goal.returns-clause-back
returns-clause-back g c =
    let view = g.M.SharedBoard.view in
    let front = c.pop.new.self.items in
    let last = c.unwrap-nemesis.result in
    let struck = c.join-struck.result.0.seat in
    let played = c.in_ok-played.field-0.items in
    let done : HavePlayed view (λ ended. ended.seat) (λ ended. ended.why) c.in_ok-clients.clients.items played = subst (λ r. IfOk r (λ all. HavePlayed view (λ ended. ended.seat) (λ ended. ended.why) c.in_ok-clients.clients.items all.items)) c.in_ok-played.was c.join-struck.ensures.second.0 in
    let named : HavePlayed view (λ ended. ended.seat) (λ ended. ended.why) (enumerate_from 0 front) played = subst (λ l. HavePlayed view (λ ended. ended.seat) (λ ended. ended.why) l played) c.in_ok-clients.ensures done in
    let seats : front ++ last ∷ [] ≡ c.args.seats.items = sym (c.pop.ensures.items ∙ ap (λ o. front ++ option_to_list o) c.unwrap-nemesis.ensures) in
    ok_both c.come_back.result c.come_back.ensures.back c.come_back.ensures.well (λ back is well.
    let run : HaveRun view (front ++ last ∷ []) (map (λ ended. ended.seat) played ++ struck ∷ []) = have_run view (λ ended. ended.seat) (λ ended. ended.why) front last struck played named well.0 (struck_on _ _ _ c.in_ok-last.ensures.asked (c.join-struck.ensures.first.0 well.1)) in
    subst (λ l. HaveRun view c.args.seats.items l) (sym is) (subst (λ l. HaveRun view l (map (λ ended. ended.seat) played ++ struck ∷ [])) seats run))
