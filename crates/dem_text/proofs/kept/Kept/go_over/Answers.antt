use Rattle.std.proofs.Common.{◌≡◌, [], ◌∷◌, ◌++◌, length, ap, subst, sym, ◌∙◌, arith, length-append, true}
use Rattle.cursor.specs.Places.{before_of}
use Rattle.dem_text.specs.private.Folds.{Folded, Follows, fold_over}
use Rattle.dem_text.proofs.FoldLemmas.{fold-both}
use Rattle.dem_text.proofs.kept.Kept.go_over.Goals as goal

pub loop-place-preserved : goal.loop-place-preserved
loop-place-preserved g c =
    let over = c.in-Some.ensures.over in
    let x = over.0 in
    let before = before_of (λ i. true) c.args.self.now c.loop-place.cursor in
    let after : before_of (λ i. true) c.args.self.now c.next.new.cursor ≡ before ++ x ∷ [] = over.3.before in
    record {
      place = c.in-Some.ensures.place;
      follows = λ named f h.
          subst (λ (f' : Folded). Follows named f' c.take_at.new.fold) (sym (ap (fold_over named f) after ∙ fold-both named f before (x ∷ [])))
          (c.take_at.ensures.follows named (fold_over named f before) x (c.loop-place.invariant.follows named f h) over.1);
      sound = c.take_at.ensures.sound;
      passed = let p = c.loop-place.invariant.passed in omega (arith, p, c.take_at.ensures.passed, ap length after, length-append before (x ∷ []));
    }
