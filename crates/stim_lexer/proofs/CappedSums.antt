-- A sum that a pass keeps up to a greatest number: behind a tree it is the total of the tree, or that number where the
-- total is greater.
use Rattle.std.proofs.Common.{◌≡◌, ℕ, zero, suc, ◌+◌, ◌-◌, ◌*◌, ◌<◌, ◌≤◌, inl, inr, sym, ap, ap₂, ◌∙◌, arith}
use Rattle.std.specs.Prelude.{min}
use Rattle.std.proofs.lemmas.Bool.{cases_lt}
use Rattle.stim_lexer.specs.Fitting.{AllFit}
use Rattle.stim_lexer.specs.Passes.{Pass, behind}
use Rattle.stim_lexer.specs.Reached.{total}
use Rattle.stim_lexer.specs.Trees.{Tree, Nothing, Then, Block}

-- the sum after all turns of a block, from the sums before it and after its first turn
abbrev pub repeated : ℕ → ℕ → ℕ → ℕ → ℕ
repeated most turns before after = min (after + min ((turns - 1) * (after - before)) most) most

few_turns : (most m e b : ℕ) → e + b ≤ most → min (min (e + b) most + min (m * (min (e + b) most - min e most)) most) most ≡ min (e + suc m * b) most
few_turns most m e b h =
    let d : min (e + b) most - min e most ≡ b = omega (arith, h) in
    rw d (omega (arith, h))

many_turns : (most m e b w : ℕ) → most < e + b → min (min (e + b) most + w) most ≡ min (e + suc m * b) most
many_turns most m e b w h = omega (arith, h)

of_more : (most m e b : ℕ) → min (min (e + b) most + min (m * (min (e + b) most - min e most)) most) most ≡ min (e + suc m * b) most
of_more most m e b =
    elim (cases_lt most (e + b)) as (λ _. min (min (e + b) most + min (m * (min (e + b) most - min e most)) most) most ≡ min (e + suc m * b) most) [
      | inl many ↦ many_turns most m e b (min (m * (min (e + b) most - min e most)) most) many
      | inr few ↦ few_turns most m e b few
    ]

closed : (most turns e b : ℕ) → 0 < turns → repeated most turns (min e most) (min (e + b) most) ≡ min (e + turns * b) most
closed most zero e b h = absurd (omega (arith, h))
closed most (suc m) e b h =
    let one_less : suc m - 1 ≡ m = omega arith in
    ap (λ n. min (min (e + b) most + min (n * (min (e + b) most - min e most)) most) most) one_less
    ∙ of_more most m e b

-- the sum behind all turns of a block, by what one turn adds
pub repeated-adds : (most turns e b before after : ℕ) → 0 < turns → before ≡ min e most → after ≡ min (e + b) most → repeated most turns before after ≡ min (e + turns * b) most
repeated-adds most turns e b before after some h k = ap₂ (repeated most turns) h k ∙ closed most turns e b some

-- a sum that a pass keeps: of a count over instructions, with this many more for each turn of a block
pub record KeepsSum {I S : Type 0} (pass : Pass I S) (most turn : ℕ) (count : I → ℕ) (sum : S → ℕ) : Type 0 where
  pub step : (i : I) (s : S) → sum (pass.step i s) ≡ min (sum s + count i) most
  pub close : (turns : ℕ) (before after : S) → sum after ≤ most → sum (pass.close turns before after) ≡ repeated most turns (sum before) (min (sum after + turn) most)

-- where turns of a block count for nothing themselves
pub no_turn : (most turns before after : ℕ) → after ≤ most → repeated most turns before after ≡ repeated most turns before (min (after + 0) most)
no_turn most turns before after few =
    let same : min (after + 0) most ≡ after = omega (arith, few) in
    ap (repeated most turns before) (sym same)

-- what a pass makes of a sum behind a tree
pub behind-sum : {I S : Type 0} {pass : Pass I S} {most turn : ℕ} {count : I → ℕ} {sum : S → ℕ} → KeepsSum pass most turn count sum → (Fits : I → Type 0) (t : Tree I) (e : ℕ) (s : S) → AllFit Fits t → sum s ≡ min e most
    → sum (behind pass t s) ≡ min (e + total turn count t) most
unfolding total
behind-sum keeps Fits Nothing e s fit h = omega (arith, h)
behind-sum {I} {S} {pass} {most} {turn} {count} {sum} keeps Fits (Then i rest) e s fit h =
    let next : sum (pass.step i s) ≡ min (e + count i) most = keeps.step i s ∙ omega (arith, h) in
    behind-sum keeps Fits rest (e + count i) (pass.step i s) fit.1 next ∙ ap (λ n. min n most) (omega arith)
behind-sum {I} {S} {pass} {most} {turn} {count} {sum} keeps Fits (Block line turns body rest) e s fit h =
    let after = behind pass body s in
    let inside : sum after ≡ min (e + total turn count body) most = behind-sum keeps Fits body e s fit.1 h in
    let one_more : min (sum after + turn) most ≡ min (e + (turn + total turn count body)) most = omega (arith, inside) in
    let closes = keeps.close turns s after (omega (arith, inside)) ∙ repeated-adds most turns e (turn + total turn count body) (sum s) (min (sum after + turn) most) fit.0 h one_more in
    behind-sum keeps Fits rest (e + turns * (turn + total turn count body)) (pass.close turns s after) fit.2 closes
    ∙ ap (λ n. min n most) (omega arith)

-- the same from the start
pub whole-sum : {I S : Type 0} {pass : Pass I S} {most turn : ℕ} {count : I → ℕ} {sum : S → ℕ} → KeepsSum pass most turn count sum → (Fits : I → Type 0) (t : Tree I) (s : S) → AllFit Fits t → sum s ≡ 0
    → sum (behind pass t s) ≡ min (total turn count t) most
whole-sum {I} {S} {pass} {most} {turn} {count} {sum} keeps Fits t s fit h =
    behind-sum keeps Fits t 0 s fit (omega (arith, h)) ∙ ap (λ n. min n most) (omega arith)
