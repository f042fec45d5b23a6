use Rattle.std.proofs.Common.{◌≡◌, ◌∷◌, ◌++◌, [], List, length, ap, subst, sym, arith}
use Rattle.record_targets.specs.declared.record_lists.Link.{Link}
use Rattle.record_targets.specs.private.Links.{IsGrown, IsPutAt}
use Rattle.record_targets.proofs.LinkLemmas.{put_in_front}
use Rattle.record_targets.proofs.record_lists.put_first.Goals as goal

pub returns-clause-put : goal.returns-clause-put
returns-clause-put g c =
    let target = c.args.target in
    let links = c.args.links.now.items in
    let place = c.args.place in
    let more = links ++ record { target = target; next = place } ∷ [] in
    let is_more : c.push.new.self.items ≡ more = c.in_ok-push.ensures.items in
    let long : c.len-2.result ≡ length more = omega (arith, c.len-2.ensures, c.push.new.self.ok.0, ap length is_more) in
    subst (λ (l : List Link). IsPutAt (target ∷ []) links place l c.len-2.result) (sym is_more)
    (subst (IsPutAt (target ∷ []) links place more) (sym long) (put_in_front target links place c.requires.back c.requires.placed))

pub returns-clause-grown : goal.returns-clause-grown
returns-clause-grown g c =
    let links = c.args.links.now.items in
    subst (IsGrown links) (sym c.in_ok-push.ensures.items) (put_in_front c.args.target links c.args.place c.requires.back c.requires.placed).grown
