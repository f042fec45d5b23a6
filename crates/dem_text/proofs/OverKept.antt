-- Kept lines gone over as they are reached: what is left at a cursor, shifted as it is there, with room for its shifts.
use Rattle.std.proofs.Common.{◌≡◌, ℕ, suc, false, List, [], ◌∷◌, length, Some, ap, sym, ◌∙◌, subst, arith, true}
use Rattle.std.specs.Prelude.{slice_get}
use Rattle.std.specs.List.{list_any}
use Rattle.cursor.specs.declared.cursor.Cursor.{Cursor}
use Rattle.cursor.specs.Moves.{GoesOver}
use Rattle.cursor.specs.Places.{StandsIn, left_of}
use Rattle.stim_lexer.specs.Trees.{InstructionLine}
use Rattle.dem_text.specs.declared.kept.KeptLine.{KeptLine}
use Rattle.dem_text.specs.Limits.{has_target_beyond}
use Rattle.dem_text.specs.Models.{is_beyond, is_coordinate_beyond}
use Rattle.dem_text.specs.Shifts.{Placed, Shift, placed_at, placed_from, shift_after}
use Rattle.dem_text.specs.Texts.{Item}
use Rattle.dem_text.specs.Verdicts.{Instruction}
use Rattle.dem_text.specs.private.Briefs.{IsKeptLine}
use Rattle.dem_text.specs.private.Offsets.{HasRoom}
use Rattle.dem_text.specs.private.Tables.{coordinates_from}
use Rattle.dem_text.proofs.StandingLemmas.{coordinates-known}
use Rattle.dem_text.proofs.ShiftLemmas.{right, room-next, room-one}

-- the lines that are left at a cursor
abbrev pub rest_at : List Item → Cursor → Shift → List Placed
rest_at items cursor s = placed_from s (left_of (λ i. true) items cursor)

pub record IsOver (items : List Item) (cursor : Cursor) (s : Shift) : Type 0 where
  pub stands : StandsIn (λ i. true) items cursor
  pub room : HasRoom s (length (left_of (λ i. true) items cursor))

pub rest-done : (items : List Item) (cursor : Cursor) (s : Shift) → left_of (λ i. true) items cursor ≡ [] → rest_at items cursor s ≡ []
unfolding placed_from
rest-done items cursor s left = ap (placed_from s) left

-- a cursor goes over a line
pub record Passes (items : List Item) (old new : Cursor) (s : Shift) (line : KeptLine) : Type 0 where
  pub instruction : Instruction
  pub line_is : IsKeptLine instruction line
  pub room : HasRoom s 1
  pub first : (s' : Shift) → s' ≡ shift_after instruction s → rest_at items old s ≡ placed_at s instruction ∷ rest_at items new s'
  pub after : (s' : Shift) → s' ≡ shift_after instruction s → IsOver items new s'

pub passes : (items : List Item) (old new : Cursor) (s : Shift) (place : ℕ) (line : KeptLine) → IsOver items old s → StandsIn (λ i. true) items new
    → GoesOver (λ i. true) items old new (Some place) → ((i : Instruction) → slice_get items place ≡ Some (InstructionLine i) → IsKeptLine i line)
    → Passes items old new s line
unfolding placed_from
passes items old new s place line over stands goes is =
    let i = goes.0 in
    let left : left_of (λ i. true) items old ≡ i ∷ left_of (λ i. true) items new = goes.3.left in
    let long : length (left_of (λ i. true) items old) ≡ suc (length (left_of (λ i. true) items new)) = ap length left in
    let room : HasRoom s (suc (length (left_of (λ i. true) items new))) = subst (HasRoom s) long over.room in
    let line_is : IsKeptLine i line = is i goes.1 in
    record {
      instruction = i;
      line_is = line_is;
      room = room-one s _ room (omega arith);
      first = λ s' e. ap (placed_from s) left ∙ ap (λ (t : Shift). placed_at s i ∷ placed_from t (left_of (λ i. true) items new)) (sym e);
      after = λ s' e. record {
        stands = stands;
        room = subst (λ (t : Shift). HasRoom t (length (left_of (λ i. true) items new))) (sym e) (room-next i _ _ s _ line_is.brief_is.known room);
      };
    }

-- ---- a line where it is reached

-- the coordinates that it gives, from those that it states
pub near-given : (i : Instruction) (line : KeptLine) (s : Shift) → IsKeptLine i line → is_beyond (placed_at s i) ≡ false
    → list_any is_coordinate_beyond (coordinates_from line.brief.operation line.stated.now s.offset) ≡ false
near-given i line s is near =
    ap (list_any is_coordinate_beyond) (coordinates-known s i line.brief line.stated.now is.brief_is) ∙ right (has_target_beyond (placed_at s i).targets) _ near
