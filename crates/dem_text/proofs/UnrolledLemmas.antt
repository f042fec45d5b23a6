-- The counts of one pass over an error model tell whether its blocks unroll to more lines than they may.
use Rattle.std.proofs.Common.{◌≡◌, ℕ, zero, suc, ◌+◌, ◌-◌, ◌*◌, ◌<◌, ◌≤◌, ◌^◌, List, ◌∷◌, length, refl, ap, ◌∙◌, arith, length-append}
use Rattle.std.specs.Prelude.{min}
use Rattle.dem_text.specs.declared.counting.Unrolled.{Unrolled}
use Rattle.dem_text.specs.Fitting.{AllFit, Fits}
use Rattle.dem_text.specs.private.Unrolled.{greatest, lines_inside, nothing_counted, counts_after, counts_repeated, counting, few_counted, few_of}
use Rattle.dem_text.specs.Reached.{block_lines}
use Rattle.stim_lexer.specs.Reached.{copies, reached, total}
use Rattle.stim_lexer.specs.Passes.{behind}
use Rattle.stim_lexer.specs.Trees.{BlockEnd, Nothing, Then, Block, items_of}
use Rattle.stim_lexer.proofs.CappedSums.{KeepsSum, whole-sum}
use Rattle.dem_text.specs.Trees.{Tree}
use Rattle.dem_text.specs.Verdicts.{Instruction}

-- ---- both counts

-- the instructions that stand in no block of a tree
abbrev outer : Tree → ℕ
outer Nothing = 0
outer (Then i rest) = 1 + outer rest
outer (Block line turns body rest) = outer rest

inside_sum : KeepsSum counting greatest 1 (λ (i : Instruction). 1) (λ (c : Unrolled). c.inside)
inside_sum = record { step = λ i c. refl; close = λ turns before after few. refl }

behind-outside : (t : Tree) (n : ℕ) (c : Unrolled) → c.outside ≡ min n greatest → (behind counting t c).outside ≡ min (n + outer t) greatest
behind-outside Nothing n c h = omega (arith, h)
behind-outside (Then i rest) n c h =
    let next : min (c.outside + 1) greatest ≡ min (n + 1) greatest = omega (arith, h) in
    behind-outside rest (n + 1) (counts_after i c) next ∙ ap (λ m. min m greatest) (omega arith)
behind-outside (Block line turns body rest) n c h =
    behind-outside rest n (counts_repeated turns c (behind counting body c)) h

inside-parts : (t : Tree) → lines_inside t ≡ outer t + block_lines t
unfolding total block_lines
inside-parts Nothing = refl
inside-parts (Then i rest) = let r = inside-parts rest in omega (arith, r)
inside-parts (Block line turns body rest) = let r = inside-parts rest in omega (arith, r)

few-outside : (t : Tree) → outer t ≤ length (items_of t)
few-outside Nothing = omega arith
few-outside (Then i rest) = let r = few-outside rest in omega (arith, r)
few-outside (Block line turns body rest) =
    let r = few-outside rest in
    let l = length-append (items_of body) (BlockEnd ∷ items_of rest) in omega (arith, r, l)

tells : (inside outside blocks p : ℕ) → outside ≡ min p greatest → inside ≡ min (p + blocks) greatest → p < 2 ^ 64 → few_of (inside - outside) ≡ few_of blocks
tells inside outside blocks p o i few = omega (arith, o, i, few)

-- behind the whole text
pub counted : (t : Tree) (c : Unrolled) → AllFit t → c ≡ behind counting t nothing_counted → length (items_of t) < 2 ^ 64 → few_counted c ≡ few_of (block_lines t)
counted t c fit e few =
    let inside : c.inside ≡ min (outer t + block_lines t) greatest =
    ap (λ (x : Unrolled). x.inside) e ∙ whole-sum inside_sum Fits t nothing_counted fit refl ∙ ap (λ n. min n greatest) (inside-parts t) in
    let apart : 0 + outer t ≡ outer t = omega arith in
    let outside : c.outside ≡ min (outer t) greatest =
    ap (λ (x : Unrolled). x.outside) e ∙ behind-outside t 0 nothing_counted refl ∙ ap (λ n. min n greatest) apart in
    let bound = few-outside t in
    tells c.inside c.outside (block_lines t) (outer t) outside inside (omega (arith, bound, few))

-- ---- how many lines are reached

length-copies : {X : Type 0} (n : ℕ) (xs : List X) → length (copies n xs) ≡ n * length xs
length-copies zero xs = omega arith
length-copies (suc n) xs = let rest = length-copies n xs in omega (arith, rest, length-append xs (copies n xs))

reached-inside : (t : Tree) → length (reached t) ≤ lines_inside t
unfolding total
reached-inside Nothing = omega arith
reached-inside (Then i rest) = let r = reached-inside rest in omega (arith, r)
reached-inside (Block line turns body rest) =
    let r = reached-inside rest in
    let b = reached-inside body in
    let many : turns * length (reached body) ≤ turns * (1 + lines_inside body) = times turns (length (reached body)) (1 + lines_inside body) (omega (arith, b)) in
    omega (arith, r, many, length-copies turns (reached body), length-append (copies turns (reached body)) (reached rest))
  where
    times : (n a b : ℕ) → a ≤ b → n * a ≤ n * b
    times zero a b h = omega arith
    times (suc n) a b h = let rest = times n a b h in omega (arith, rest, h)

-- no more lines are reached than there are items and lines of blocks
pub few-reached : (t : Tree) → length (reached t) ≤ length (items_of t) + block_lines t
few-reached t = omega (arith, reached-inside t, inside-parts t, few-outside t)
