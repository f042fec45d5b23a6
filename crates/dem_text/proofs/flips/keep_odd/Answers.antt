use Rattle.std.proofs.Common.{◌<◌, ap, sym, subst, take, ◌∙◌, get_or}
use Rattle.std.specs.Prelude.{All}
use Rattle.std.proofs.lemmas.List.{take_more, take_all}
use Rattle.dem_text.specs.private.Numbered.{odd_below}
use Rattle.dem_text.proofs.FlipLemmas.{none-above, odd-none, odd-step}
use Rattle.dem_text.proofs.flips.keep_odd.Goals as goal

pub loop-number-init : goal.loop-number-init
loop-number-init g c n h = c.clear.ensures.items ∙ odd-none n

pub loop-number-preserved : goal.loop-number-preserved
loop-number-preserved g c n h =
    let numbers = c.args.numbers.now in
    let i = c.loop-number.number-index in
    let more = take_more numbers i 0 c.loop-number-test.true in
    odd-step c.loop-number.kept.items c.toggle.new.kept.items (take i numbers) (get_or numbers i 0)
    (none-above numbers i 0 c.requires c.loop-number-test.true) c.loop-number.invariant c.in_ok-toggle.ensures.there c.in_ok-toggle.ensures.absent n
    (subst (λ ms. All (λ m. m < n) ms) more h)
    ∙ ap (odd_below n) (sym more)

pub returns : goal.returns
returns g c n h =
    let all = take_all c.loop-number.number-index c.args.numbers.now c.loop-number-test.false in
    c.loop-number.invariant n (subst (λ ms. All (λ m. m < n) ms) (sym all) h) ∙ ap (odd_below n) all
