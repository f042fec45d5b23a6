-- A cursor in an outermost block and in no other, moved back over whole iterations: what is before it and what is left.
use Rattle.std.proofs.Common.{◌≡◌, ◌<◌, ◌≤◌, ◌+◌, inl, inr, ℕ, zero, suc, Bool, List, [], ◌∷◌, ◌++◌, length, reverse, refl, ap, sym, subst, ◌∙◌, append_assoc, append-nil, arith, Some}
use Rattle.std.specs.Prelude.{slice_get}
use Rattle.std.proofs.lemmas.Option.{slice_get_within}
use Rattle.stim_lexer.specs.Trees.{Item, BlockStart, Tree}
use Rattle.stim_lexer.specs.Flat.{first_tree, tree_of}
use Rattle.stim_lexer.specs.Reached.{copies}
use Rattle.cursor.specs.Chosen.{chosen_in}
use Rattle.cursor.specs.declared.cursor.Cursor.{Cursor}
use Rattle.cursor.specs.declared.cursor.Level.{Level}
use Rattle.cursor.specs.Iterations.{GoesBackBy}
use Rattle.cursor.specs.Places.{AreInside, AreOpen, IsInside, IsPlace, StandsIn, before_of, body_of, left_in, left_of, levels_of, trees_at}
use Rattle.cursor.specs.private.Iterations.{IsIteration, IsIterationBefore, further_back}
use Rattle.cursor.specs.private.Marks.{IsChosen}
use Rattle.cursor.proofs.Before.{IsLeft, before_of-left, left_in_body, stands}
use Rattle.cursor.proofs.Passing.{taken}

-- ---- in the only block that is open

-- the block starts right before its body, and has this iteration
pub record IsOnly {I : Type 0} (items : List (Item I)) (i : ℕ) (level : Level) : Type 0 where
  pub here : Tree I
  pub u : Tree I
  pub within : i ≤ length items
  pub trees_are : trees_at items i ≡ here ∷ u ∷ []
  pub open_blocks : AreOpen items (u ∷ []) (level ∷ [])
  pub inside : IsInside items i level (u ∷ [])

only_with : {I : Type 0} (items : List (Item I)) (i : ℕ) (level : Level) (here : Tree I) (behind : List (Tree I)) → i ≤ length items → trees_at items i ≡ here ∷ behind → AreOpen items behind (level ∷ []) → AreInside items i behind (level ∷ []) → IsOnly items i level
only_with items i level here [] low t are inside = absurd are
only_with items i level here (u ∷ []) low t are inside =
    record { here = here; u = u; within = low; trees_are = t; open_blocks = are; inside = inside.0 }
only_with items i level here (u ∷ v ∷ us) low t are inside = absurd are.1

pub only : {I : Type 0} (items : List (Item I)) (at : Cursor) (level : Level) → at.open.items ≡ level ∷ [] → IsPlace items at.index (levels_of at) → IsOnly items at.index level
only items at level open_is p =
    let q = subst (λ (ls : List Level). IsPlace items at.index ls) (ap (λ (ls : List Level). reverse ls) open_is) p in
    only_with items at.index level q.here q.behind q.within q.trees_are q.open_blocks q.inside

-- what is left there
pub left_there : {I : Type 0} (w : I → Bool) (items : List (Item I)) (at : Cursor) (level : Level) (here u : Tree I) → at.open.items ≡ level ∷ [] → trees_at items at.index ≡ here ∷ u ∷ []
    → left_of w items at ≡ chosen_in w here ++ (copies level.left (body_of w items level) ++ (chosen_in w u ++ []))
left_there {I} w items at level here u open_is t =
    ap (λ (ls : List Level). left_in w items (trees_at items at.index) ls) (ap (λ (ls : List Level). reverse ls) open_is)
    ∙ ap (λ (ts : List (Tree I)). left_in w items ts (level ∷ [])) t

-- ---- the start of the block

pub record IsStarted {I : Type 0} (items : List (Item I)) (level : Level) : Type 0 where
  pub start : ℕ
  pub line : ℕ
  pub iterations : ℕ
  pub body_is : level.body ≡ suc start
  pub start_is : slice_get items start ≡ Some (BlockStart line iterations)
  pub iteration : level.left < iterations
  pub low : start < length items

pub started : {I : Type 0} (items : List (Item I)) (at : Cursor) (level : Level) → IsPlace items at.index (levels_of at) → at.open.items ≡ level ∷ [] → IsStarted items level
started items at level p open_is =
    let inside = (only items at level open_is p).inside in
    record {
      start = inside.start;
      line = inside.line;
      iterations = inside.iterations;
      body_is = inside.body_is;
      start_is = inside.start_is;
      iteration = inside.iteration;
      low = slice_get_within items inside.start (BlockStart inside.line inside.iterations) inside.start_is;
    }

-- ---- lists

copies-add : {I : Type 0} (m n : ℕ) (xs : List I) → copies (m + n) xs ≡ copies m xs ++ copies n xs
copies-add zero n xs = let e : 0 + n ≡ n = omega arith in ap (λ k. copies k xs) e
copies-add {I} (suc m) n xs =
    let e : suc m + n ≡ suc (m + n) = omega arith in
    ap (λ k. copies k xs) e ∙ ap (λ (ys : List I). xs ++ ys) (copies-add m n xs) ∙ sym (append_assoc xs (copies m xs) (copies n xs))

-- iterations that begin further on
turned : {I : Type 0} (n : ℕ) (part here : List I) → here ++ copies n (part ++ here) ≡ copies n (here ++ part) ++ here
turned {I} zero part here = simp append-nil
turned {I} (suc n) part here =
    sym (append_assoc here (part ++ here) (copies n (part ++ here)))
    ∙ ap (λ (xs : List I). xs ++ copies n (part ++ here)) (sym (append_assoc here part here))
    ∙ append_assoc (here ++ part) here (copies n (part ++ here))
    ∙ ap (λ (xs : List I). (here ++ part) ++ xs) (turned n part here)
    ∙ sym (append_assoc (here ++ part) (copies n (here ++ part)) here)

-- so many more iterations left
more_left : {I : Type 0} (n left : ℕ) (part here body behind : List I) → part ++ here ≡ body → here ++ (copies (left + n) body ++ behind) ≡ copies n (here ++ part) ++ (here ++ (copies left body ++ behind))
more_left {I} n left part here body behind h =
    let swap : left + n ≡ n + left = omega arith in
    let first : here ++ (copies (n + left) body ++ behind) ≡ (here ++ copies n body) ++ (copies left body ++ behind) =
    ap (λ (xs : List I). here ++ (xs ++ behind)) (copies-add n left body)
    ∙ ap (λ (xs : List I). here ++ xs) (append_assoc (copies n body) (copies left body) behind)
    ∙ sym (append_assoc here (copies n body) (copies left body ++ behind)) in
    ap (λ k. here ++ (copies k body ++ behind)) swap
    ∙ first
    ∙ ap (λ (xs : List I). (here ++ copies n xs) ++ (copies left body ++ behind)) (sym h)
    ∙ ap (λ (xs : List I). xs ++ (copies left body ++ behind)) (turned n part here)
    ∙ append_assoc (copies n (here ++ part)) here (copies left body ++ behind)

one_copy : {I : Type 0} (xs : List I) → copies 1 xs ≡ xs
one_copy xs = append-nil xs

-- ---- the place so many iterations before

module _ {I : Type 0} (w : I → Bool) (items : List (Item I)) (old later new : Cursor) (before count : ℕ) (apart : IsIterationBefore w items old later before) (few : count ≤ before) (p : StandsIn w items old) (q : StandsIn w items later) (index_is : new.index ≡ old.index) (open_is : new.open.items ≡ further_back apart.here.level count ∷ []) where
  here_only : IsOnly items old.index apart.here.level
  here_only = only items old apart.here.level apart.here.open_is p.place

  iterations_are : here_only.inside.iterations ≡ apart.here.iterations
  iterations_are =
      let same : apart.here.start ≡ here_only.inside.start = omega (arith, here_only.inside.body_is, apart.here.body_is) in
      let e = sym here_only.inside.start_is ∙ ap (slice_get items) (sym same) ∙ apart.here.start_is in cc

  moved_inside : IsInside items old.index (further_back apart.here.level count) (here_only.u ∷ [])
  moved_inside =
      let inside = here_only.inside in
      record {
        start = inside.start;
        line = inside.line;
        iterations = inside.iterations;
        body_is = inside.body_is;
        start_is = inside.start_is;
        iteration = omega (arith, few, iterations_are, apart.here.count_is);
        ended =
            elim inside.ended [
              | inl first ↦ inl (omega (arith, few, first, iterations_are, apart.here.count_is))
              | inr spans ↦ inr spans
            ];
        from = inside.from;
        over = inside.over;
      }

  moved_levels : further_back apart.here.level count ∷ [] ≡ levels_of new
  moved_levels = sym (ap (λ (ls : List Level). reverse ls) open_is)

  moved_place : IsPlace items new.index (levels_of new)
  moved_place =
      let body = here_only.open_blocks.0 in
      subst (λ n. IsPlace items n (levels_of new)) (sym index_is)
      (subst (λ (ls : List Level). IsPlace items old.index ls) moved_levels
      (record {
        here = here_only.here;
        behind = here_only.u ∷ [];
        within = here_only.within;
        trees_are = here_only.trees_are;
        open_blocks = (record { within = body.within; trees_are = body.trees_are }, tt);
        inside = (moved_inside, tt);
      }))

  pub stands_back : StandsIn w items new
  stands_back = stands w items new p.nested moved_place

  -- the first part of the body, up to the place
  part : IsLeft (chosen_in w here_only.here) (body_of w items apart.here.level)
  part =
      left_in_body w items apart.here.level.body (first_tree (trees_at items apart.here.level.body)) old.index here_only.here (here_only.u ∷ [])
      here_only.open_blocks.0.trees_are here_only.inside.from here_only.within here_only.trees_are here_only.inside.over

  iteration : List I
  iteration = chosen_in w here_only.here ++ part.before

  left_old : left_of w items old ≡ chosen_in w here_only.here ++ (copies apart.here.level.left (body_of w items apart.here.level) ++ (chosen_in w here_only.u ++ []))
  left_old = left_there w items old apart.here.level here_only.here here_only.u apart.here.open_is here_only.trees_are

  left_new : left_of w items new ≡ chosen_in w here_only.here ++ (copies (apart.here.level.left + count) (body_of w items apart.here.level) ++ (chosen_in w here_only.u ++ []))
  left_new =
      left_there w items new (further_back apart.here.level count) here_only.here here_only.u open_is (ap (λ n. trees_at items n) index_is ∙ here_only.trees_are)

  left_next : left_of w items later ≡ chosen_in w here_only.here ++ (copies apart.next.left (body_of w items apart.here.level) ++ (chosen_in w here_only.u ++ []))
  left_next =
      left_there w items later apart.next here_only.here here_only.u apart.next_open (ap (λ n. trees_at items n) apart.index ∙ here_only.trees_are)
      ∙ ap (λ n. chosen_in w here_only.here ++ (copies apart.next.left (chosen_in w (first_tree (trees_at items n))) ++ (chosen_in w here_only.u ++ []))) apart.body

  more_new : left_of w items new ≡ copies count iteration ++ left_of w items old
  unfolding iteration
  more_new =
      left_new
      ∙ more_left count apart.here.level.left part.before (chosen_in w here_only.here) (body_of w items apart.here.level) (chosen_in w here_only.u ++ []) part.both
      ∙ ap (λ (xs : List I). copies count (chosen_in w here_only.here ++ part.before) ++ xs) (sym left_old)

  more_old : left_of w items old ≡ iteration ++ left_of w items later
  unfolding iteration
  more_old =
      left_old
      ∙ ap (λ n. chosen_in w here_only.here ++ (copies n (body_of w items apart.here.level) ++ (chosen_in w here_only.u ++ []))) apart.left
      ∙ more_left 1 apart.next.left part.before (chosen_in w here_only.here) (body_of w items apart.here.level) (chosen_in w here_only.u ++ []) part.both
      ∙ ap (λ (xs : List I). xs ++ (chosen_in w here_only.here ++ (copies apart.next.left (body_of w items apart.here.level) ++ (chosen_in w here_only.u ++ [])))) (one_copy (chosen_in w here_only.here ++ part.before))
      ∙ ap (λ (xs : List I). (chosen_in w here_only.here ++ part.before) ++ xs) (sym left_next)

  facing : (at : Cursor) → at.index ≡ old.index → IsPlace items at.index (levels_of at) → (rest : List I) × (left_of w items at ≡ apart.chosen.0 ∷ rest)
  facing at same place =
      (left_in w items (trees_at items (suc at.index)) (levels_of at), (taken w items at.index (levels_of at) apart.chosen.0 (ap (slice_get items) same ∙ apart.chosen.1) apart.chosen.2 place).left)

  pub goes_back_by : GoesBackBy w items old later new count
  goes_back_by =
      let whole = chosen_in w (tree_of items) in
      let now = facing old refl p.place in
      let then = facing later apart.index q.place in
      let back = facing new index_is moved_place in
      record {
        index = index_is;
        next = apart.chosen.0;
        iteration = iteration;
        before =
            before_of-left w items old (before_of w items new ++ copies count iteration)
            (append_assoc (before_of w items new) (copies count iteration) (left_of w items old)
            ∙ ap (λ (xs : List I). before_of w items new ++ xs) (sym more_new) ∙ stands_back.whole);
        before_later =
            before_of-left w items later (before_of w items old ++ iteration)
            (append_assoc (before_of w items old) iteration (left_of w items later)
            ∙ ap (λ (xs : List I). before_of w items old ++ xs) (sym more_old) ∙ p.whole);
        rest = now.0;
        rest_later = then.0;
        rest_new = back.0;
        left = now.1;
        left_later = then.1;
        left_new = back.1;
      }

-- ---- one iteration later

pub one_later : {I : Type 0} (w : I → Bool) (items : List (Item I)) (earlier later : Cursor) (count : ℕ) (level next : Level) → IsIteration items earlier count → earlier.open.items ≡ level ∷ [] → later.open.items ≡ next ∷ [] → later.index ≡ earlier.index → next.body ≡ level.body → level.left ≡ next.left + 1
    → IsChosen w (slice_get items earlier.index) → IsIterationBefore w items earlier later count
one_later w items earlier later count level next here open_is next_open index body left chosen =
    let same : here.level ≡ level = first here.level level (sym here.open_is ∙ open_is) in
    record {
      here = here;
      next = next;
      index = index;
      chosen = chosen;
      next_open = next_open;
      body = body ∙ ap (λ (l : Level). l.body) (sym same);
      left = ap (λ (l : Level). l.left) same ∙ left;
    }
  where
    first : (a b : Level) → a ∷ [] ≡ b ∷ [] → a ≡ b
    first a b e = cc
