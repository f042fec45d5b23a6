-- Counting through the items of a block, from its end back to its start.
use Rattle.std.proofs.Common.{◌≡◌, ◌<◌, ◌≤◌, ◌+◌, ◌-◌, inl, inr, ℕ, zero, suc, List, [], ◌∷◌, length, drop, refl, ap, subst, ◌∙◌, arith, Some}
use Rattle.std.specs.Prelude.{slice_get}
use Rattle.std.proofs.lemmas.Bool.{cases_lt}
use Rattle.std.proofs.lemmas.List.{length-drop}
use Rattle.stim_lexer.specs.Trees.{Item, InstructionLine, BlockStart, BlockEnd, Tree}
use Rattle.stim_lexer.specs.Flat.{onto}
use Rattle.cursor.specs.Places.{AreNested, trees_at}
use Rattle.cursor.proofs.Inside.{one_place}
use Rattle.cursor.proofs.Passing.{at_item}

-- from one index to another these trees stand deeper than at the end of the block, and so deep at `i`
pub record IsWithin {I : Type 0} (items : List (Item I)) (from to i : ℕ) (behind : List (Tree I)) (depth : ℕ) : Type 0 where
  pub order : from ≤ to
  pub some : 0 < length behind
  pub deep : 0 < depth
  pub trees_are : drop depth (trees_at items i) ≡ behind
  pub over : (j : ℕ) → from ≤ j → j ≤ to → length behind < length (trees_at items j)

-- ---- what an item does to the depth

instruction_keeps : {I : Type 0} (x : I) (ts : List (Tree I)) (d : ℕ) → 0 < d → drop d (onto (InstructionLine x) ts) ≡ drop d ts
instruction_keeps x ts zero h = absurd (omega arith)
instruction_keeps x [] (suc d) h = refl
instruction_keeps x (t ∷ ts) (suc d) h = refl

start_takes : {I : Type 0} (line iterations : ℕ) (ts : List (Tree I)) (d : ℕ) → 0 < d → drop d (onto (BlockStart line iterations) ts) ≡ drop (suc d) ts
start_takes line iterations ts zero h = absurd (omega arith)
start_takes line iterations [] (suc d) h = refl
start_takes line iterations (t ∷ []) (suc zero) h = refl
start_takes line iterations (t ∷ []) (suc (suc d)) h = refl
start_takes line iterations (t ∷ u ∷ ts) (suc d) h = refl

module _ {I : Type 0} (items : List (Item I)) (i d : ℕ) where
  pub at_instruction : (x : I) → slice_get items i ≡ Some (InstructionLine x) → 0 < d → drop d (trees_at items i) ≡ drop d (trees_at items (suc i))
  at_instruction x item h = ap (λ (ts : List (Tree I)). drop d ts) (at_item items i (InstructionLine x) item) ∙ instruction_keeps x (trees_at items (suc i)) d h

  pub at_start : (line iterations : ℕ) → slice_get items i ≡ Some (BlockStart line iterations) → 0 < d → drop d (trees_at items i) ≡ drop (suc d) (trees_at items (suc i))
  at_start line iterations item h =
      ap (λ (ts : List (Tree I)). drop d ts) (at_item items i (BlockStart line iterations) item) ∙ start_takes line iterations (trees_at items (suc i)) d h

  pub at_block_end : slice_get items i ≡ Some BlockEnd → drop (suc d) (trees_at items i) ≡ drop d (trees_at items (suc i))
  at_block_end item = ap (λ (ts : List (Tree I)). drop (suc d) ts) (at_item items i BlockEnd item)

deeper : {I : Type 0} (ts behind : List (Tree I)) (d : ℕ) → 0 < d → 0 < length behind → drop d ts ≡ behind → length behind < length ts
deeper ts behind d h some e = omega (arith, length-drop d ts, ap length e)

-- ---- back from the end

pub begin_behind : {I : Type 0} (items : List (Item I)) (i : ℕ) → AreNested items → slice_get items i ≡ Some BlockEnd → IsWithin items i i i (trees_at items (suc i)) 1
begin_behind {I} items i nested item =
    let t = at_block_end items i 0 item in
    record {
      order = omega arith;
      some = nested.opened (suc i);
      deep = omega arith;
      trees_are = t;
      over = one_place items i (trees_at items (suc i)) (deeper (trees_at items i) (trees_at items (suc i)) 1 (omega arith) (nested.opened (suc i)) t);
    }

pub item_before : {I : Type 0} (items : List (Item I)) (from to i : ℕ) (behind : List (Tree I)) (d : ℕ) → AreNested items → from ≡ i → IsWithin items from to i behind d → 0 < i
item_before items from to zero behind d nested e w = absurd (omega (arith, w.over 0 (omega arith) (omega arith), w.some, nested.closed))
item_before items from to (suc i) behind d nested e w = omega arith

lower : {I : Type 0} (items : List (Item I)) (i to : ℕ) (us : List (Tree I)) → length us < length (trees_at items i) → ((j : ℕ) → suc i ≤ j → j ≤ to → length us < length (trees_at items j)) → (j : ℕ) → i ≤ j → j ≤ to → length us < length (trees_at items j)
lower items i to us here over j low high =
    elim (cases_lt i j) [
      | inl more ↦ over j (omega arith) high
      | inr last ↦ let same : i ≡ j = omega arith in subst (λ n. length us < length (trees_at items n)) same here
    ]

-- over an item between, to the one before
back_step : {I : Type 0} (items : List (Item I)) (to i : ℕ) (behind : List (Tree I)) (d e : ℕ) → 0 < e → drop e (trees_at items i) ≡ drop d (trees_at items (suc i)) → IsWithin items (suc i) to (suc i) behind d → IsWithin items i to i behind e
back_step items to i behind d e deep same w =
    let t : drop e (trees_at items i) ≡ behind = same ∙ w.trees_are in
    record {
      order = omega (arith, w.order);
      some = w.some;
      deep = deep;
      trees_are = t;
      over = lower items i to behind (deeper (trees_at items i) behind e deep w.some t) w.over;
    }

module _ {I : Type 0} (items : List (Item I)) (to i : ℕ) (behind : List (Tree I)) (d : ℕ) (w : IsWithin items i to i behind d) (inside : 0 < i) where
  previous_is : i ≡ suc (i - 1)
  previous_is = omega arith

  there : IsWithin items (suc (i - 1)) to (suc (i - 1)) behind d
  there = subst (λ n. IsWithin items n to n behind d) previous_is w

  pub back_over_instruction : (x : I) → slice_get items (i - 1) ≡ Some (InstructionLine x) → IsWithin items (i - 1) to (i - 1) behind d
  back_over_instruction x item = back_step items to (i - 1) behind d d w.deep (at_instruction items (i - 1) d x item w.deep) there

  pub back_over_end : slice_get items (i - 1) ≡ Some BlockEnd → IsWithin items (i - 1) to (i - 1) behind (d + 1)
  back_over_end item =
      let e : d + 1 ≡ suc d = omega arith in
      back_step items to (i - 1) behind d (d + 1) (omega arith) (ap (λ n. drop n (trees_at items (i - 1))) e ∙ at_block_end items (i - 1) d item) there

  pub back_over_start : (line iterations : ℕ) → slice_get items (i - 1) ≡ Some (BlockStart line iterations) → (d ≡ 1 → ⊥) → IsWithin items (i - 1) to (i - 1) behind (d - 1)
  back_over_start line iterations item more =
      let some : 0 < d - 1 = omega (arith, w.deep) in
      let e : suc (d - 1) ≡ d = omega (arith, w.deep) in
      back_step items to (i - 1) behind d (d - 1) some (at_start items (i - 1) (d - 1) line iterations item some ∙ ap (λ n. drop n (trees_at items (suc (i - 1)))) e) there
