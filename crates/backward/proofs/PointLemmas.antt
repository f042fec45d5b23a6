-- Points left on the way back, and taken from their end.
use Rattle.std.proofs.Common.{◌≡◌, ℕ, ◌+◌, ◌<◌, ◌≤◌, List, [], ◌∷◌, ◌++◌, ◌⊎◌, inl, inr, length, drop, get_or, Option, None, Some, refl, ap, subst, sym, ◌∙◌, arith}
use Rattle.std.specs.Prelude.{IfSome, All}
use Rattle.std.specs.Option.{option_to_list}
use Rattle.std.proofs.Math.Seq.{get_or-append_seam}
use Rattle.std.proofs.lemmas.List.{length-append, get_or_append_left}
use Rattle.std.proofs.lemmas.List.Elements.{All-push}
use Rattle.std.proofs.lemmas.List.Quantifiers.{all_pairs_push}
use Rattle.circuit_walk.specs.Programs.{KeptProgram}
use Rattle.backward.specs.declared.found.Found.{Found}
use Rattle.backward.specs.declared.point.KeptPoint.{KeptPoint}
use Rattle.backward.specs.declared.turns.KeptTurns.{KeptTurns}
use Rattle.backward.specs.declared.points.Segment.{Segment}
use Rattle.backward.specs.private.Segments.{AreTurnsAt, IsSegment, turns_end}
use Rattle.backward.specs.private.Turns.{AreKept, AreTurnsOf}
use Rattle.backward.specs.declared.point.Point.{Point}
use Rattle.backward.specs.declared.stretch.Parts.{Parts}
use Rattle.trackers.specs.Tracked.{Tracked}
use Rattle.backward.specs.private.Passes.{IsPassed, tracked_before}
use Rattle.backward.specs.private.Points.{ArePoints, AreParts, IsLeft, IsPointOf, Keeps, first_place}

-- the points at a place of the way back: none yet where the way begins, one of which is left there next
abbrev pub OnWay : {A : Type 0} → KeptProgram → (from cut place next : ℕ) → List (KeptPoint A) → Type 0
OnWay program from cut place next points = ((place ≡ cut) × ((points ≡ []) × (place ≤ next))) ⊎ ((place < cut) × ArePoints program from cut points)

-- turns that begin at a place and are before all of some points
pub record KeptOnWay {A : Type 0} (program : KeptProgram) (cut place : ℕ) (points : List (KeptPoint A)) (kept : KeptTurns A) : Type 0 where
  pub turns : AreTurnsOf program kept
  pub start_is : kept.start ≡ place
  pub below : kept.end < cut
  pub behind : All (λ p. kept.end < p.walk.place) points

-- the last of some points was taken: it comes after `from`, and those before it after its place
pub record IsPopped {A : Type 0} (program : KeptProgram) (from cut : ℕ) (rest : List (KeptPoint A)) (point : KeptPoint A) : Type 0 where
  pub points : ArePoints program point.walk.place cut rest
  pub is_point : IsPointOf program point
  pub after : from < point.walk.place
  pub within : point.walk.place ≤ cut

module _ {A : Type 0} (program : KeptProgram) where
  -- what a pass has reached is a point
  pub is_point : {T : Type 0} (tracked : T → Tracked) (at : Point A T) (point : KeptPoint A) (found : Found A) → at.walk.program ≡ program → IsPassed program.listing at.walk.place (tracked at.tracker) found → point.walk ≡ at.walk → Keeps (tracked at.tracker) point.lists → IsPointOf program point
  is_point tracked at point found e h w kept =
      record {
        program_is = ap (λ walk. walk.program) w ∙ e;
        within = omega (arith, ap (λ walk. walk.place) w, h.within);
        words = subst (λ t. Keeps t point.lists) (h.words ∙ ap (λ walk. tracked_before program.listing (drop walk.place program.listing.steps)) (sym w)) kept;
      }

  pub no_points : (from cut : ℕ) → cut ≡ from → ArePoints {A = A} program from cut []
  no_points from cut e =
      record {
        first = sym e;
        each = λ k d lt. absurd (omega (arith, lt));
        above = λ k d lt. absurd (omega (arith, lt));
        below = λ k d lt. absurd (omega (arith, lt));
        fall = λ j k d lt within. absurd (omega (arith, within));
      }

  -- one more
  one_first : (from : ℕ) (points : List (KeptPoint A)) (point : KeptPoint A) → first_place from (points ++ point ∷ []) ≡ first_place point.walk.place points
  one_first from [] point = refl
  one_first from (p ∷ points) point = refl

  some_first : (from cut : ℕ) (points : List (KeptPoint A)) (place : ℕ) → first_place from points ≡ cut → from < cut → first_place place points ≡ cut
  some_first from cut [] place e lt = absurd (omega (arith, e, lt))
  some_first from cut (p ∷ points) place e lt = e

  pub first_point : {T : Type 0} (tracked : T → Tracked) (from cut : ℕ) (at : Point A T) (found : Found A) (old new : List (KeptPoint A)) → old ≡ [] → cut ≡ at.walk.place → from < at.walk.place → at.walk.program ≡ program → IsPassed program.listing at.walk.place (tracked at.tracker) found
      → IsLeft tracked at old new → ArePoints program from cut new
  first_point tracked from cut at found old new none e lt is h left =
      let place : left.point.walk.place ≡ at.walk.place = ap (λ walk. walk.place) left.kept.walk in
      let one : new ≡ left.point ∷ [] = left.items ∙ ap (λ (l : List (KeptPoint A)). l ++ left.point ∷ []) none in
      subst (ArePoints program from cut) (sym one)
      (record {
        first = place ∙ sym e;
        each = All-push (IsPointOf program) [] left.point (λ k d lt. absurd (omega (arith, lt))) (is_point tracked at left.point found is h left.kept.walk left.kept.words);
        above = All-push (λ p. from < p.walk.place) [] left.point (λ k d lt. absurd (omega (arith, lt))) (omega (arith, place, lt));
        below = All-push (λ p. p.walk.place ≤ cut) [] left.point (λ k d lt. absurd (omega (arith, lt))) (omega (arith, place, e));
        fall = λ j k d lt within. absurd (omega (arith, within, lt));
      })

  pub next_point : {T : Type 0} (tracked : T → Tracked) (from cut : ℕ) (at : Point A T) (found : Found A) (old new : List (KeptPoint A)) → from < at.walk.place → at.walk.place < cut → at.walk.program ≡ program → IsPassed program.listing at.walk.place (tracked at.tracker) found
      → All (λ p. at.walk.place < p.walk.place) old → IsLeft tracked at old new → ArePoints program from cut old → ArePoints program from cut new
  next_point tracked from cut at found old new lt below is h before left points =
      let place : left.point.walk.place ≡ at.walk.place = ap (λ walk. walk.place) left.kept.walk in
      subst (ArePoints program from cut) (sym left.items)
      (record {
        first = one_first from old left.point ∙ some_first from cut old left.point.walk.place points.first (omega (arith, lt, below));
        each = All-push (IsPointOf program) old left.point points.each (is_point tracked at left.point found is h left.kept.walk left.kept.words);
        above = All-push (λ p. from < p.walk.place) old left.point points.above (omega (arith, place, lt));
        below = All-push (λ p. p.walk.place ≤ cut) old left.point points.below (omega (arith, place, below));
        fall = all_pairs_push (λ early late. late.walk.place < early.walk.place) old left.point points.fall (λ k d within. let after : at.walk.place < (get_or old k d).walk.place = before k d within in omega (arith, place, after));
      })

  pub left_on_way : {T : Type 0} (tracked : T → Tracked) (from cut next : ℕ) (at : Point A T) (found : Found A) (old new : List (KeptPoint A)) → from < at.walk.place → at.walk.program ≡ program → IsPassed program.listing at.walk.place (tracked at.tracker) found
      → All (λ p. at.walk.place < p.walk.place) old → IsLeft tracked at old new → OnWay program from cut at.walk.place next old → ArePoints program from cut new
  left_on_way tracked from cut next at found old new lt is h before left (inl first) = first_point tracked from cut at found old new first.1.0 (sym first.0) lt is h left
  left_on_way tracked from cut next at found old new lt is h before left (inr on) = next_point tracked from cut at found old new lt on.0 is h before left on.1

  pub kept_on_way : (from cut place next : ℕ) (points : List (KeptPoint A)) → next < place → OnWay program from cut place next points → ArePoints program from cut points
  kept_on_way from cut place next points lt (inl first) = absurd (omega (arith, lt, first.1.1))
  kept_on_way from cut place next points lt (inr on) = on.1

  pub end_of_way : (from cut place next : ℕ) (points : List (KeptPoint A)) → place ≡ from → OnWay program from cut place next points → ArePoints program from cut points
  end_of_way from cut place next points e (inl first) = subst (ArePoints program from cut) (sym first.1.0) (no_points from cut (sym first.0 ∙ e))
  end_of_way from cut place next points e (inr on) = on.1

  -- after a point is left, it and those before it are no earlier than where the pass is
  pub left_behind : {T : Type 0} (tracked : T → Tracked) (at : Point A T) (old new : List (KeptPoint A)) → All (λ p. at.walk.place < p.walk.place) old → IsLeft tracked at old new → All (λ p. at.walk.place ≤ p.walk.place) new
  left_behind tracked at old new before left =
      let place : left.point.walk.place ≡ at.walk.place = ap (λ walk. walk.place) left.kept.walk in
      subst (All (λ p. at.walk.place ≤ p.walk.place)) (sym left.items)
      (All-push (λ p. at.walk.place ≤ p.walk.place) old left.point (λ k d lt. let after : at.walk.place < (get_or old k d).walk.place = before k d lt in omega (arith, after)) (omega (arith, place)))

  -- a step back comes before points that are no earlier than where it starts
  pub step_before : (from to : ℕ) (points : List (KeptPoint A)) → from < to → All (λ p. to ≤ p.walk.place) points → All (λ p. from < p.walk.place) points
  step_before from to points lt h k d within = let after : to ≤ (get_or points k d).walk.place = h k d within in omega (arith, lt, after)

  -- the last point is taken, and then those before it are points from its place on
  pub popped : (from cut : ℕ) (points rest : List (KeptPoint A)) (result : Option (KeptPoint A)) (point : KeptPoint A) → points ≡ rest ++ option_to_list result → result ≡ Some point → ArePoints program from cut points → IsPopped program from cut rest point
  popped from cut points rest result point items is h =
      let e : points ≡ rest ++ point ∷ [] = items ∙ ap (λ (o : Option (KeptPoint A)). rest ++ option_to_list o) is in
      let n : length points ≡ length rest + 1 = ap length e ∙ length-append rest (point ∷ []) in
      let last : (d : KeptPoint A) → get_or points (length rest) d ≡ point = λ d. ap (λ (l : List (KeptPoint A)). get_or l (length rest) d) e ∙ get_or-append_seam rest point [] d in
      let front : (k : ℕ) (d : KeptPoint A) → k < length rest → get_or points k d ≡ get_or rest k d = λ k d lt. ap (λ (l : List (KeptPoint A)). get_or l k d) e ∙ get_or_append_left rest (point ∷ []) d k lt in
      record {
        points =
            record {
              first = sym (one_first from rest point) ∙ (ap (first_place from) (sym e) ∙ h.first);
              each = λ k d lt. subst (IsPointOf program) (front k d lt) (h.each k d (omega (arith, lt, n)));
              above = λ k d lt. subst (λ (p : KeptPoint A). point.walk.place < p.walk.place) (front k d lt) (subst (λ (p : KeptPoint A). p.walk.place < (get_or points k d).walk.place) (last d) (h.fall k (length rest) d lt (omega (arith, n))));
              below = λ k d lt. subst (λ (p : KeptPoint A). p.walk.place ≤ cut) (front k d lt) (h.below k d (omega (arith, lt, n)));
              fall = λ j k d lt within. subst (λ (p : KeptPoint A). p.walk.place < (get_or rest j d).walk.place) (front k d within) (subst (λ (p : KeptPoint A). (get_or points k d).walk.place < p.walk.place) (front j d (omega (arith, lt, within))) (h.fall j k d lt (omega (arith, within, n))));
            };
        is_point = subst (IsPointOf program) (last point) (h.each (length rest) point (omega (arith, n)));
        after = subst (λ (p : KeptPoint A). from < p.walk.place) (last point) (h.above (length rest) point (omega (arith, n)));
        within = subst (λ (p : KeptPoint A). p.walk.place ≤ cut) (last point) (h.below (length rest) point (omega (arith, n)));
      }

  -- a stretch is cut between its start and its end
  pub cut_before : (start to known : ℕ) (parts : Parts A) → start < to → AreParts program start to known parts → (start ≤ first_place start parts.points.items) × (first_place start parts.points.items < to)
  cut_before start to known parts lt h =
      let back : h.cut < to = h.back lt in
      (omega (arith, h.above, h.points.first), omega (arith, back, h.points.first))

  -- turns that were gone back over are before the points that there are
  pub kept_way : (cut place most : ℕ) (points : List (KeptPoint A)) (o : Option (KeptTurns A)) → most ≤ cut → All (λ p. most ≤ p.walk.place) points → IfSome o (AreKept program place most) → IfSome o (KeptOnWay program cut place points)
  kept_way cut place most points None le all h = tt
  kept_way cut place most points (Some kept) le all h =
      let below = h.below in
      record {
        turns = h.turns;
        start_is = h.start_is;
        below = omega (arith, below, le);
        behind = λ k d lt. let after : most ≤ (get_or points k d).walk.place = all k d lt in omega (arith, below, after);
      }

  -- what a way back leaves that ends with turns, or with the way
  pub segment_of : (from cut place next : ℕ) (segment : Segment A) → segment.start ≡ place → from ≤ place → place ≤ cut → OnWay program from cut place next segment.points.items
      → IfSome segment.turns (KeptOnWay program cut place segment.points.items) → (segment.turns ≡ None → place ≡ from) → IsSegment program from cut segment
  segment_of from cut place next segment start above below way kept whole =
      let both = by segment.turns kept whole in
      record {
        points = both.0;
        turns = both.1.0;
        above = omega (arith, start, above);
        below = omega (arith, start, below);
        back = λ lt. let less = both.1.1 lt in omega (arith, start, less);
        whole = λ none. start ∙ whole none;
      }
    where
      by : (o : Option (KeptTurns A)) → IfSome o (KeptOnWay program cut place segment.points.items) → (o ≡ None → place ≡ from)
          → ArePoints program (turns_end segment.start o) cut segment.points.items × (AreTurnsAt program segment.start o × (from < cut → place < cut))
      by None h end =
          let here : place ≡ from = end refl in (
            subst (λ k. ArePoints program k cut segment.points.items) (sym (start ∙ here)) (end_of_way from cut place next segment.points.items here way),
            (tt, λ lt. omega (arith, lt, here)),
          )
      by (Some kept) h end = elim way as (λ _. ArePoints program kept.end cut segment.points.items × ((AreTurnsOf program kept × (kept.start ≡ segment.start)) × (from < cut → place < cut))) [
        | inl first ↦ absurd (let before = h.turns.before in let less = h.below in let is = h.start_is in let here = first.0 in omega (arith, before, less, is, here))
        | inr on ↦ (
          record {
            first = some_first from cut segment.points.items kept.end on.1.first (omega (arith, above, on.0));
            each = on.1.each;
            above = h.behind;
            below = on.1.below;
            fall = on.1.fall;
          },
          ((h.turns, h.start_is ∙ sym start), λ lt. on.0),
        )
      ]
