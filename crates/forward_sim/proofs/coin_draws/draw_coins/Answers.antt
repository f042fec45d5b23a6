-- The coins in front of the span, those in it, and those behind it.
use Rattle.std.proofs.Common.{◌≡◌, ◌+◌, ◌-◌, ◌≤◌, ◌%◌, ◌++◌, length, refl, length-append, drop, map, subst, take, arith}
use Rattle.std.specs.Prelude.{ℕ, Bool, List, ◌==◌}
use borrow.Rule.Slice.PartMut.{put_mid}
use Rattle.std.proofs.lemmas.List.{length-drop, length-take-le}
use Rattle.rand_pcg.specs.Lcg.{Lcg}
use Rattle.forward_sim.specs.Drawn.{after_words}
use Rattle.forward_sim.specs.private.AllLanes.{AllDrawn, DrawnUpTo, LanesDrawn, coin_hits}
use Rattle.forward_sim.proofs.AllLaneLemmas.{all_passed, lanes_front, part_drawn}
use Rattle.forward_sim.proofs.HitLemmas.{coin_behind, coin_front, coin_passed}
use Rattle.forward_sim.proofs.coin_draws.draw_coins.Goals as goal

-- a coin shows heads by its word's lowest bit
abbrev heads : ℕ → ℕ → Bool
heads k word = word % 2 == 1

-- the coins in front of the span
up_to_start : (start : ℕ) (coins front : List ℕ) (from then : List Lcg) → start ≤ length coins → AllDrawn (length (take start coins)) heads from front then
    → DrawnUpTo start (length coins) heads from (front ++ drop start coins) then
up_to_start start coins front from then within drawn =
    let first : AllDrawn start heads from front then =
    subst (λ n. AllDrawn n heads from front then) (length-take-le start coins within) drawn in
    record {
      size = omega (arith, length-append front (drop start coins), length-drop start coins, first.size, within);
      lanes = lanes_front start heads from front (drop start coins) first.size first.lanes;
      taken = first.taken;
    }

-- nothing is drawn behind the span
pub returns-then-passed-coins-clause-drawn : goal.returns-then-passed-coins-clause-drawn
returns-then-passed-coins-clause-drawn c =
    let coins = c.args.coins.now in
    let total = length coins in
    let passed = c.args.passed in
    let start = passed.start in
    let rest = total - start in
    let all = coin_hits passed in
    let from = c.args.generators.now in
    let within : start ≤ total = omega (arith, c.requires.order, c.requires.within) in
    let over : start + rest ≡ total = omega (arith, within) in
    let front = c.draw_pieces.new in
    let one = front.words ++ drop start coins in
    let drawn = up_to_start start coins front.words from front.generators within c.draw_pieces.ensures in
    let left = length one - start in
    let room = length (take left (drop start one)) in
    let zeros = c.fill.new.self in
    let two = put_mid start left one zeros in
    let then = map (after_words room) front.generators in
    let none = all_passed room front.generators then zeros (c.fill.ensures.after (λ y h. h)) refl in
    let done : DrawnUpTo (start + rest) total all from two then =
    part_drawn all rest left (omega (arith, drawn.size)) (omega (arith, over)) drawn none
    (λ k w h. coin_front passed k w h) (λ k w h. coin_passed passed (start + k) w (omega arith) (omega (arith, h, over, c.if-passed-coins.true))) in
    subst (λ n. LanesDrawn n all from two) over done.lanes

pub returns-clause-drawn : goal.returns-clause-drawn
returns-clause-drawn c =
    let coins = c.args.coins.now in
    let total = length coins in
    let passed = c.args.passed in
    let start = passed.start in
    let between = passed.end - start in
    let rest = total - passed.end in
    let all = coin_hits passed in
    let from = c.args.generators.now in
    let within : start ≤ total = omega (arith, c.requires.order, c.requires.within) in
    let whole : start + between ≡ passed.end = omega (arith, c.requires.order) in
    let over : passed.end + rest ≡ total = omega (arith, c.requires.within) in
    let front = c.draw_pieces.new in
    let one = front.words ++ drop start coins in
    let drawn = up_to_start start coins front.words from front.generators within c.draw_pieces.ensures in
    let middle = c.pass_over.new in
    let two = put_mid start between one middle.words in
    let up_to_span : DrawnUpTo passed.end total all from two middle.generators =
    subst (λ n. DrawnUpTo n total all from two middle.generators) whole
    (part_drawn all between between refl (omega (arith, whole, c.requires.within)) drawn c.pass_over.ensures
    (λ k w h. coin_front passed k w h) (λ k w h. coin_passed passed (start + k) w (omega arith) (omega (arith, h, whole)))) in
    let left = length two - passed.end in
    let back = c.draw_pieces-2.new in
    let done : DrawnUpTo (passed.end + rest) total all from (put_mid passed.end left two back.words) back.generators =
    part_drawn all rest left (omega (arith, up_to_span.size)) (omega (arith, over)) up_to_span c.draw_pieces-2.ensures
    (λ k w h. refl) (λ k w h. coin_behind passed (passed.end + k) w (omega arith)) in
    subst (λ n. LanesDrawn n all from (put_mid passed.end left two back.words)) over done.lanes
