use Rattle.std.proofs.Common.{◌≡◌, ◌<◌, ◌-◌, ℕ, List, length, get_or, ap, sym, ◌∙◌, arith}
use Rattle.trackers.proofs.SetLemmas.{removed, inserted}
use Rattle.trackers.proofs.descending.toggle_among.Goals as goal
use Rattle.trackers.proofs.descending.toggle_among.Goals.{else-place-gt0-via-then-place-gt0+else-as_slice-place, else-place-gt0-via-else-place-gt0}

pub returns-then-as_slice-place-clause-ok : goal.returns-then-as_slice-place-clause-ok
returns-then-as_slice-place-clause-ok g c =
    let place = c.place_among-place.result in
    let items = c.args.items.now.items in
    let seen = ap length c.as_slice.ensures in
    λ m descends. c.remove.ensures.items
    ∙ removed m items (place - 1) c.args.target descends
    (omega (arith, c.if-place-gt0.true, c.place_among-place.ensures.within, seen))
    (sym (ap (λ (s : List ℕ). get_or s (place - 1) 0) c.as_slice-then-place-gt0.ensures) ∙ c.if-as_slice-place.true)

pub returns-in_ok-insert-clause-ok : goal.returns-in_ok-insert-clause-ok
returns-in_ok-insert-clause-ok g c =
    let place = c.place_among-place.result in
    let items = c.args.items.now.items in
    let t = c.args.target in
    let seen = ap length c.as_slice.ensures in
    let same : (k : ℕ) → get_or c.as_slice.result.now k 0 ≡ get_or items k 0 = λ k. ap (λ (s : List ℕ). get_or s k 0) c.as_slice.ensures in
    let above : 0 < place → t < get_or items (place - 1) 0 =
    elim c.else-place-gt0.branch [
      | else-place-gt0-via-then-place-gt0+else-as_slice-place w ↦
          λ some. let low = c.place_among-place.ensures.above some in
          let here = ap (λ (s : List ℕ). get_or s (place - 1) 0) w.as_slice-then-place-gt0.ensures in
          omega (arith, low, same (place - 1), here, w.if-as_slice-place.false)
      | else-place-gt0-via-else-place-gt0 w ↦ λ some. absurd (omega (arith, some, w.if-place-gt0.false))
    ] in
    λ m descends. c.in_ok-insert.ensures.ok
    ∙ inserted m items place t descends (omega (arith, seen, c.place_among-place.ensures.within))
    (λ k p q. let low = c.place_among-place.ensures.below k p (omega (arith, q, seen)) in omega (arith, low, same k))
    above
