use Rattle.std.proofs.Common.{◌≡◌, ℕ, false, get_or, take, subst, sym, arith}
use Rattle.std.specs.Prelude.{All}
use Rattle.std.proofs.lemmas.List.{take_all, take_more}
use Rattle.std.proofs.lemmas.List.Elements.{All-push}
use Rattle.backward.specs.private.MovedTargets.{is_within, window_end}
use Rattle.backward.proofs.GrownLists.{is_high, is_low}
use Rattle.backward.proofs.moved.is_clear.Goals as goal
use Rattle.backward.proofs.moved.is_clear.Goals.{else-shift-target-via-then-shift-target+else-target-end, else-shift-target-via-else-shift-target}

pub loop-target-preserved : goal.loop-target-preserved
loop-target-preserved c =
    let s = c.args.shift.now in
    let list = c.args.list.now in
    let i = c.loop-target.target-index in
    let t : ℕ = get_or list i 0 in
    let P : ℕ → Type 0 = λ u. is_within s.staying (window_end s) u ≡ false in
    let out : is_within s.staying (window_end s) t ≡ false = elim c.else-shift-target.branch [
      | else-shift-target-via-then-shift-target+else-target-end w ↦ is_high s.staying (window_end s) t (let past = w.if-target-end.false in omega (arith, past, c.window_end-end.ensures))
      | else-shift-target-via-else-shift-target w ↦ is_low s.staying (window_end s) t w.if-shift-target.false
    ] in
    subst (All P) (sym (take_more list i 0 c.loop-target-test.true)) (All-push P (take i list) t c.loop-target.invariant out)

pub returns : goal.returns
returns c is =
    let s = c.args.shift.now in
    let P : ℕ → Type 0 = λ u. is_within s.staying (window_end s) u ≡ false in
    subst (All P) (take_all c.loop-target.target-index c.args.list.now (omega (arith, c.loop-target-test.false))) c.loop-target.invariant
