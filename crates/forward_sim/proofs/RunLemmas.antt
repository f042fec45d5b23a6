-- Runs of equal bounds, one after another.
use Rattle.std.proofs.Common.{◌≡◌, ℕ, ◌+◌, ◌-◌, ◌<◌, ◌≤◌, false, List, [], ◌∷◌, ◌++◌, length, get_or, take, replicate, sym, ap, ◌∙◌, arith, length-append, append_assoc}
use Rattle.std.proofs.lemmas.Bool.{le-ltb}
use Rattle.std.specs.Prelude.{nat_lt}
use Rattle.std.proofs.lemmas.List.{take_more, length-take, length-replicate, replicate_more, append-nil}
use Rattle.std.proofs.lemmas.List.Folds.{length-flat_map-take}
use Rattle.std.proofs.lemmas.Grind.{flat_map-append}
use Rattle.rand_pcg.specs.Lcg.{Lcg}
use Rattle.rand_pcg.specs.Pcg.{pcg64}
use Rattle.forward_sim.specs.declared.runs.BoundRun.{BoundRun}
use Rattle.forward_sim.specs.private.BoundRuns.{bounds_in, bounds_of_run}
use Rattle.forward_sim.specs.Drawn.{after_words, word_at}
use Rattle.forward_sim.proofs.WordLemmas.{after_words-add}

-- how many bounds the first runs have
abbrev pub bounds_before : List BoundRun → ℕ → ℕ
bounds_before runs r = length (bounds_in (take r runs))

-- a run with more behind the first
pub run_more : (runs : List BoundRun) (run : BoundRun) → bounds_in (runs ++ run ∷ []) ≡ bounds_in runs ++ bounds_of_run run
run_more runs run =
    flat_map-append bounds_of_run runs (run ∷ []) ∙ ap (λ bs. bounds_in runs ++ bs) (append-nil (bounds_of_run run))

pub run_fits : (runs : List BoundRun) (r : ℕ) (none : BoundRun) → r < length runs
    → bounds_before runs r + (get_or runs r none).count ≤ length (bounds_in runs)
run_fits runs r none within =
    let run = get_or runs r none in
    let piece : length (bounds_of_run run) ≡ run.count = length-replicate run.count run.bound in
    omega (arith, piece, length-flat_map-take bounds_of_run runs r none within)

pub runs_more : (runs : List BoundRun) (r : ℕ) (none : BoundRun) → r < length runs
    → bounds_in (take r runs) ++ bounds_of_run (get_or runs r none) ≡ bounds_in (take (r + 1) runs)
runs_more runs r none within =
    sym (ap bounds_in (take_more runs r none within) ∙ run_more (take r runs) (get_or runs r none))

pub run_counts : (runs : List BoundRun) (r : ℕ) (none : BoundRun) → r < length runs
    → bounds_before runs (r + 1) ≡ bounds_before runs r + (get_or runs r none).count
run_counts runs r none within =
    let run = get_or runs r none in
    ap length (sym (runs_more runs r none within))
    ∙ (length-append (bounds_in (take r runs)) (bounds_of_run run)
    ∙ ap (λ n. bounds_before runs r + n) (length-replicate run.count run.bound))

-- a run with one fault more
pub count_one : (bounds : List ℕ) (run : BoundRun) (bound : ℕ) → bound ≡ run.bound
    → bounds ++ replicate (run.count + 1) run.bound ≡ (bounds ++ bounds_of_run run) ++ bound ∷ []
count_one bounds run bound same =
    ap (λ bs. bounds ++ bs) (sym (replicate_more run.count run.bound))
    ∙ (sym (append_assoc bounds (bounds_of_run run) (run.bound ∷ []))
    ∙ ap (λ b. (bounds ++ bounds_of_run run) ++ b ∷ []) (sym same))

-- the last run is no longer than the faults so far
pub last_below : (bounds : List ℕ) (runs : List BoundRun) (last : BoundRun) (n : ℕ) → bounds_in runs ++ bounds_of_run last ≡ take n bounds → last.count ≤ n
last_below bounds runs last n so_far =
    omega (
      arith,
      ap length so_far,
      length-append (bounds_in runs) (bounds_of_run last),
      length-replicate last.count last.bound,
      length-take n bounds,
    )

-- the words from a place on, counted from the start
pub word_behind : (g rng : Lcg) (start k : ℕ) → start ≤ k → rng ≡ after_words start g → word_at rng (k - start) ≡ word_at g k
word_behind g rng start k low e =
    let whole : start + (k - start) ≡ k = omega arith in
    ap (λ r. (pcg64 (after_words (k - start) r)).0) e
    ∙ (ap (λ r. (pcg64 r).0) (sym (after_words-add start (k - start) g))
    ∙ ap (word_at g) whole)

-- no word is below 0
pub none_below : (word bound : ℕ) → bound ≡ 0 → nat_lt word bound ≡ false
none_below word bound none = le-ltb word bound (omega arith)
