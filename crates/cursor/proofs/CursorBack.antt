-- The moves back, by a cursor whose open blocks stand the outermost first.
use Rattle.std.proofs.Common.{Bool, ◌≡◌, ◌<◌, ◌≤◌, ◌+◌, ◌-◌, ℕ, zero, suc, List, [], ◌∷◌, ◌++◌, length, reverse, refl, ap, sym, subst, ◌∙◌, arith, Option, None, Some}
use Rattle.std.specs.Option.{option_to_list}
use Rattle.std.specs.Prelude.{slice_get}
use Rattle.std.proofs.lemmas.List.{length-reverse}
use Rattle.stim_lexer.specs.Trees.{Item, BlockStart, BlockEnd, Tree}
use Rattle.stim_lexer.specs.Flat.{tree_of, trees_of}
use Rattle.cursor.specs.Chosen.{chosen_in}
use Rattle.cursor.specs.declared.cursor.Cursor.{Cursor}
use Rattle.cursor.specs.declared.cursor.Level.{Level}
use Rattle.cursor.specs.Places.{AreNested, AreOpen, IsPlace, StandsIn, levels_of, left_of, left_in, trees_at, Spans}
use Rattle.cursor.specs.Moves.{GoesBackOver}
use Rattle.cursor.specs.private.Backward.{IsReturning, PassesBack}
use Rattle.cursor.specs.private.Blocks.{IsStarted}
use Rattle.cursor.specs.private.Forward.{GoesTo}
use Rattle.cursor.specs.private.Marks.{IsChosen, IsOther}
use Rattle.cursor.proofs.Back.{IsStart, MovedBack, back_out_of_empty, fewer_left, into_behind, into_earlier, out_of_first, past_back, room_behind, some_open_behind, start_at, taken_back}
use Rattle.cursor.proofs.Before.{around, none_before, of_one_meaning, stands}
use Rattle.cursor.proofs.CursorMoves.{carried, innermost_first}
use Rattle.cursor.proofs.Passing.{all_left, few_open}

passes_back : {I : Type 0} (w : I → Bool) (items : List (Item I)) (old new : Cursor) (h : ℕ) (ks : List Level) (fresh j : ℕ) (ms : List Level) (f : ℕ) → h ≡ old.index → ks ≡ levels_of old → j ≡ new.index → ms ≡ levels_of new → MovedBack w items h ks fresh j ms f → PassesBack w items old fresh new f
passes_back w items old new h ks fresh j ms f a b c d m =
    let n = carried (λ k l. MovedBack w items k l fresh new.index (levels_of new) f) h old.index ks (levels_of old) a b
    (carried (λ k l. MovedBack w items h ks fresh k l f) j new.index ms (levels_of new) c d m) in
    record { returning = n.returning; same = n.same; nearer = n.nearer }

pub few_entered : {I : Type 0} (w : I → Bool) (items : List (Item I)) (at : Cursor) (fresh : ℕ) → AreNested items → IsReturning w items at.index (levels_of at) fresh → fresh ≤ 32
few_entered w items at fresh nested p = omega (arith, p.few, few_open items at.index (levels_of at) nested p.place)

-- ---- into a block from behind

module _ {I : Type 0} (w : I → Bool) (items : List (Item I)) (old : Cursor) (fresh : ℕ) (nested : AreNested items) (p : IsReturning w items old.index (levels_of old) fresh) (inside : 0 < old.index) where
  behind_is : old.index ≡ suc (old.index - 1)
  behind_is = omega arith

  pub enters_behind : (new : Cursor) (body : ℕ) → slice_get items (old.index - 1) ≡ Some BlockEnd → Spans items body (old.index - 1) → IsStarted items body → new.index ≡ old.index - 1 → new.open.items ≡ old.open.items ++ record { body = body; end = old.index - 1; left = 0 } ∷ []
      → PassesBack w items old fresh new (fresh + 1)
  enters_behind new body item spans started i_is open_is =
      let level : Level = record { body = body; end = old.index - 1; left = 0 } in
      let more : suc fresh ≡ fresh + 1 = omega arith in
      subst (λ f. PassesBack w items old fresh new f) more
      (passes_back w items old new (suc (old.index - 1)) (levels_of old) fresh (old.index - 1) (level ∷ levels_of old) (suc fresh)
      (sym behind_is) refl (sym i_is) (sym (innermost_first old.open.items new.open.items level open_is))
      (into_behind w items (old.index - 1) (levels_of old) fresh body nested item spans started
      (subst (λ n. IsReturning w items n (levels_of old) fresh) behind_is p)))

  pub room_for_last : slice_get items (old.index - 1) ≡ Some BlockEnd → length old.open.items < 32
  room_for_last item =
      let few : length (levels_of old) < 32 = room_behind items (old.index - 1) (levels_of old) nested item (subst (λ n. IsPlace items n (levels_of old)) behind_is p.place) in
      omega (arith, length-reverse old.open.items)

  -- ---- over the start of an iteration

  pub some_popped_behind : (iterations : ℕ) → ((line : ℕ) × (slice_get items (old.index - 1) ≡ Some (BlockStart line iterations))) → 0 < length old.open.items
  some_popped_behind iterations start =
      let some : 0 < length (levels_of old) = some_open_behind items (old.index - 1) start.0 iterations (levels_of old) nested start.1 (subst (λ n. IsPlace items n (levels_of old)) behind_is p.place) in
      omega (arith, length-reverse old.open.items)

module _ {I : Type 0} (w : I → Bool) (items : List (Item I)) (old : Cursor) (level : Level) (rest : List Level) (iterations : ℕ) (nested : AreNested items) (inside : 0 < old.index) (start : (line : ℕ) × (slice_get items (old.index - 1) ≡ Some (BlockStart line iterations))) (answer : Option Level) (popped : old.open.items ≡ rest ++ option_to_list answer) (answer_is : answer ≡ Some level) where
  levels_are : levels_of old ≡ level ∷ reverse rest
  levels_are = innermost_first rest old.open.items level (popped ∙ ap (λ o. rest ++ option_to_list o) answer_is)

  index_is : old.index ≡ suc (old.index - 1)
  index_is = omega arith

  there : (fresh : ℕ) → IsReturning w items old.index (levels_of old) fresh → IsReturning w items (suc (old.index - 1)) (level ∷ reverse rest) fresh
  there fresh p = carried (λ n l. IsReturning w items n l fresh) old.index (suc (old.index - 1)) (levels_of old) (level ∷ reverse rest) index_is levels_are p

  started_at : (fresh : ℕ) → IsReturning w items old.index (levels_of old) fresh → IsStart items (old.index - 1) start.0 iterations level (reverse rest)
  started_at fresh p = start_at items (old.index - 1) start.0 iterations level (reverse rest) start.1 (there fresh p).place

  pub left_fits : (fresh : ℕ) → IsReturning w items old.index (levels_of old) fresh → level.left < iterations
  left_fits fresh p = fewer_left items (old.index - 1) start.0 iterations level (reverse rest) (started_at fresh p)

  pub room_for_earlier : (fresh : ℕ) → IsReturning w items old.index (levels_of old) fresh → length rest < 32
  room_for_earlier fresh p = omega (arith, few_open items old.index (levels_of old) nested p.place, ap length levels_are, length-reverse rest)

  moved : (new : Cursor) (fresh j : ℕ) (ms : List Level) (f : ℕ) → j ≡ new.index → ms ≡ levels_of new → MovedBack w items (suc (old.index - 1)) (level ∷ reverse rest) fresh j ms f → PassesBack w items old fresh new f
  moved new fresh j ms f a b m =
      passes_back w items old new (suc (old.index - 1)) (level ∷ reverse rest) fresh j ms f (sym index_is) (sym levels_are) a b m

  pub leaves_empty_back : (new : Cursor) (fresh : ℕ) → 0 < fresh → IsReturning w items old.index (levels_of old) fresh → new.index ≡ old.index - 1 → new.open.items ≡ rest → PassesBack w items old fresh new (fresh - 1)
  leaves_empty_back new zero some p i_is open_is = absurd (omega arith)
  leaves_empty_back new (suc fresh) some p i_is open_is =
      let f : fresh ≡ suc fresh - 1 = omega arith in
      let q = there (suc fresh) p in
      subst (λ n. PassesBack w items old (suc fresh) new n) f
      (moved new (suc fresh) (old.index - 1) (reverse rest) fresh (sym i_is) (ap (λ (l : List Level). reverse l) (sym open_is))
      (back_out_of_empty items (old.index - 1) start.0 iterations level (reverse rest) (started_at (suc fresh) p) w fresh q.untouched q.few))

  pub leaves_first : (new : Cursor) (fresh : ℕ) → fresh ≤ 0 → level.left + 1 ≡ iterations → IsReturning w items old.index (levels_of old) fresh → new.index ≡ old.index - 1 → new.open.items ≡ rest → PassesBack w items old fresh new 0
  leaves_first new (suc fresh) none first p i_is open_is = absurd (omega arith)
  leaves_first new zero none first p i_is open_is =
      moved new 0 (old.index - 1) (reverse rest) 0 (sym i_is) (ap (λ (l : List Level). reverse l) (sym open_is))
      (out_of_first items (old.index - 1) start.0 iterations level (reverse rest) (started_at 0 p) w first)

  pub leaves_to_earlier : (new : Cursor) (fresh : ℕ) → fresh ≤ 0 → (level.left + 1 ≡ iterations → ⊥) → new.index ≡ level.end → IsReturning w items old.index (levels_of old) fresh
      → new.open.items ≡ rest ++ record { body = level.body; end = level.end; left = level.left + 1 } ∷ [] → PassesBack w items old fresh new 1
  leaves_to_earlier new (suc fresh) none more i_is p open_is = absurd (omega arith)
  leaves_to_earlier new zero none more i_is p open_is =
      let iteration : Level = record { body = level.body; end = level.end; left = level.left + 1 } in
      moved new 0 level.end (iteration ∷ reverse rest) 1 (sym i_is) (sym (innermost_first rest new.open.items iteration open_is))
      (into_earlier items (old.index - 1) start.0 iterations level (reverse rest) (started_at 0 p) w more)

-- ---- over an instruction, and at the start

-- back over an instruction that isn't chosen
pub passes_other_back : {I : Type 0} (w : I → Bool) (items : List (Item I)) (old new : Cursor) (fresh : ℕ) → 0 < old.index → IsOther w (slice_get items (old.index - 1)) → IsReturning w items old.index (levels_of old) fresh → new.index ≡ old.index - 1 → new.open.items ≡ old.open.items → PassesBack w items old fresh new fresh
passes_other_back w items old new fresh inside before p i_is open_is =
    let index_is : old.index ≡ suc (old.index - 1) = omega arith in
    passes_back w items old new (suc (old.index - 1)) (levels_of old) fresh (old.index - 1) (levels_of old) fresh (sym index_is) refl (sym i_is) (ap (λ (l : List Level). reverse l) (sym open_is))
    (past_back w items (old.index - 1) (levels_of old) fresh before.0 before.1 before.2 (subst (λ n. IsReturning w items n (levels_of old) fresh) index_is p))

pub takes_back : {I : Type 0} (w : I → Bool) (items : List (Item I)) (old at new : Cursor) → StandsIn w items old → GoesTo w items old at → 0 < at.index → IsChosen w (slice_get items (at.index - 1)) → new.index ≡ at.index - 1 → new.open.items ≡ at.open.items
    → StandsIn w items new × GoesBackOver w items old new (Some new.index)
takes_back {I} w items old at new p goes inside before i_is open_is =
    let index_is : at.index ≡ suc (at.index - 1) = omega arith in
    let t = taken_back w items (at.index - 1) (levels_of at) before.0 before.1 before.2 (subst (λ n. IsPlace items n (levels_of at)) index_is goes.place) in
    let ls : levels_of at ≡ levels_of new = ap (λ (l : List Level). reverse l) (sym open_is) in
    let place : IsPlace items new.index (levels_of new) = carried (λ n l. IsPlace items n l) (at.index - 1) new.index (levels_of at) (levels_of new) (sym i_is) ls t.place in
    let there : left_in w items (trees_at items (at.index - 1)) (levels_of at) ≡ before.0 ∷ left_of w items old =
    t.left ∙ ap (λ n. before.0 ∷ left_in w items (trees_at items n) (levels_of at)) (sym index_is) ∙ ap (λ (xs : List I). before.0 ∷ xs) goes.same in
    let left : left_of w items new ≡ before.0 ∷ left_of w items old =
    carried (λ n l. left_in w items (trees_at items n) l ≡ before.0 ∷ left_of w items old) (at.index - 1) new.index (levels_of at) (levels_of new) (sym i_is) ls there in
    let s = stands w items new p.nested place in
    (s, (before.0, ap (λ n. slice_get items n) i_is ∙ before.1, before.2, around w items before.0 new old left s))

none_open : {I : Type 0} (items : List (Item I)) (levels : List Level) (behind : List (Tree I)) → length behind ≡ 0 → AreOpen items behind levels → levels ≡ []
none_open items [] behind few are = refl
none_open items (level ∷ levels) [] few are = absurd are
none_open items (level ∷ levels) (u ∷ us) few are = absurd (omega arith)

pub takes_none_back : {I : Type 0} (w : I → Bool) (items : List (Item I)) (old at : Cursor) → StandsIn w items old → GoesTo w items old at → at.index ≡ 0 → StandsIn w items at × GoesBackOver w items old at None
takes_none_back {I} w items old at p goes i_is =
    let trees : trees_at items at.index ≡ trees_of items = ap (λ n. trees_at items n) i_is in
    let few : length goes.place.behind ≡ 0 = omega (arith, p.nested.closed, ap length trees, ap length goes.place.trees_are) in
    let left : left_of w items at ≡ chosen_in w (tree_of items) =
    ap (λ (ts : List (Tree I)). left_in w items ts (levels_of at)) trees
    ∙ ap (λ (l : List Level). left_in w items (trees_of items) l) (none_open items (levels_of at) goes.place.behind few goes.place.open_blocks)
    ∙ all_left w items p.nested in
    (stands w items at p.nested goes.place, (none_before w items old (sym goes.same ∙ left), of_one_meaning w items old at goes.same p))
