-- Parts of a way back, one behind the other, and the text of their steps.
use Rattle.std.proofs.Common.{◌≡◌, ℕ, ◌<◌, ◌≤◌, false, true, List, [], ◌∷◌, ◌++◌, Option, None, Some, is_some, refl, subst, sym, arith}
use Rattle.circuit_walk.specs.Programs.{KeptProgram}
use Rattle.step_model.specs.Held.{Held}
use Rattle.step_model.specs.Pushed.{Pushes}
use Rattle.backward.specs.declared.point.KeptPoint.{KeptPoint}
use Rattle.backward.specs.declared.points.Segment.{Segment}
use Rattle.backward.specs.declared.turns.KeptTurns.{KeptTurns}
use Rattle.backward.specs.private.Points.{ArePoints}
use Rattle.backward.specs.private.Stretches.{text_between}
use Rattle.backward.specs.private.Segments.{AreSegments, AreTurnsAt, IsSegment, turns_end}

module _ {A : Type 0} (program : KeptProgram) where
  -- without turns the points lead to where the way ends
  pub plain_points : (from cut : ℕ) (segment : Segment A) → segment.turns ≡ None → IsSegment program from cut segment → ArePoints program from cut segment.points.items
  plain_points from cut segment none h =
      subst (λ k. ArePoints program k cut segment.points.items) (h.whole none) (subst (λ (o : Option (KeptTurns A)). ArePoints program (turns_end segment.start o) cut segment.points.items) none h.points)

  -- one more part
  pub segments_push : (cut place : ℕ) (segments : List (Segment A)) (segment : Segment A) → AreSegments program place cut segments → IsSegment program 0 place segment → AreSegments program segment.start cut (segments ++ segment ∷ [])
  segments_push cut place [] segment here one = (subst (λ k. IsSegment program 0 k segment) (sym here) one, refl)
  segments_push cut place (s ∷ segments) segment (first, rest) one = (first, segments_push s.start place segments segment rest one)

  -- points lead from where they begin back to where they end
  pub points_back : (from cut : ℕ) (points : List (KeptPoint A)) → ArePoints program from cut points → from ≤ cut
  points_back from cut [] h = let e = h.first in omega (arith, e)
  points_back from cut (p ∷ points) h =
      let e = h.first in
      let lt : from < p.walk.place = h.above 0 p (omega arith) in
      omega (arith, e, lt)

  -- turns end no earlier than they begin
  pub turns_on : (start : ℕ) (o : Option (KeptTurns A)) → AreTurnsAt program start o → start ≤ turns_end start o
  turns_on start None h = omega arith
  turns_on start (Some kept) h = let before = h.0.before in let is = h.1 in omega (arith, before, is)

  -- the last part is taken
  pub record IsTaken (start cut : ℕ) (rest : List (Segment A)) (segment : Segment A) : Type 0 where
    pub place : ℕ
    pub segments : AreSegments program place cut rest
    pub part : IsSegment program 0 place segment
    pub start_is : segment.start ≡ start
    pub turned : start ≤ turns_end segment.start segment.turns
    pub back : turns_end segment.start segment.turns ≤ place
    pub within : place ≤ cut

  pub taken : (start cut : ℕ) (rest : List (Segment A)) (segment : Segment A) → AreSegments program start cut (rest ++ segment ∷ []) → IsTaken start cut rest segment
  taken start cut [] segment h =
      let on = turns_on segment.start segment.turns h.0.turns in
      let is = h.1 in
      record { place = cut; segments = refl; part = h.0; start_is = is; turned = omega (arith, on, is); back = points_back (turns_end segment.start segment.turns) cut segment.points.items h.0.points; within = omega arith }
  taken start cut (s ∷ rest) segment h =
      let later = taken start s.start rest segment h.1 in
      let first = h.0.below in
      let inner = later.within in
      record { place = later.place; segments = (h.0, later.segments); part = later.part; start_is = later.start_is; turned = later.turned; back = later.back; within = omega (arith, first, inner) }

-- where there are none, they end where they begin
pub end_of_none : {A : Type 0} (start : ℕ) (o : Option (KeptTurns A)) → is_some o ≡ false → turns_end start o ≡ start
end_of_none start None none = refl
end_of_none start (Some kept) none = let clash : true ≡ false = none in cc

-- the text before these parts was pushed
pub record IsWrittenTo {A S : Type 0} (taken : S → Option (List ℕ)) (failures : S → ℕ) (program : KeptProgram) (cut : ℕ) (parts : List (Segment A)) (old new : S) (held_old held_new : Held) : Type 0 where
  pub start : ℕ
  pub left : AreSegments program start cut parts
  pub pushed : Pushes taken failures old new held_old held_new (text_between program.listing 0 start)
