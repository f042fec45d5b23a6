-- The lines of shots, batch after batch.
use Rattle.std.proofs.Common.{◌≡◌, ℕ, zero, suc, ◌+◌, ◌*◌, ◌%◌, ◌==◌, ◌<◌, ◌≤◌, ◌&&◌, Bool, true, false, List, [], ◌++◌, length, get_or, refl, sym, ap, ap₂, ◌∙◌, arith, ⊎_elim}
use Rattle.std.specs.List.{flat_map, range_with_len}
use Rattle.std.proofs.Math.Nat.{add-mul}
use Rattle.std.proofs.lemmas.Grind.{flat_map-append}
use Rattle.std.proofs.lemmas.Bool.{cases_lt}
use Rattle.std.proofs.lemmas.List.{get_or_past, length-map}
use Rattle.std.proofs.lemmas.List.FromFn.{get_or-map-range_with_len, length-map-range_with_len}
use Rattle.rand_pcg.specs.Lcg.{Lcg}
use Rattle.step_model.specs.Listing.{Listing, ListedFault}
use Rattle.step_model.proofs.RangeLemmas.{range-append}
use Rattle.bit_rows.specs.Lanes.{lane}
use Rattle.forward_sim.specs.Drawn.{after_words, bounds_of, drawn_coins, drawn_faults, after_shots, word_at}
use Rattle.forward_sim.specs.Shots.{AreDrawn, is_tossed, tossed_coins}
use Rattle.forward_sim.specs.declared.span.Span.{Span}
use Rattle.forward_sim.proofs.WordLemmas.{after_words-add}
use Rattle.frames.specs.private.LaneLines.{lane_line, lane_lines}
use Rattle.frames.specs.Lines.{line_of}
use Rattle.frames.specs.Sampled.{lines_from, shot_faults, shot_generator}
use Rattle.frames.specs.declared.side_runs.Shown.{Shown}
use Rattle.frames.specs.Shown.{shown_line}
use Rattle.frames.specs.private.ShownRuns.{DontShow, shown_of}
use Rattle.frames.proofs.ShownLemmas.{shown_line-is}

-- texts by numbers from elsewhere on
texts_moved : (f h : ℕ → List ℕ) (done k n : ℕ) → ((j : ℕ) → k ≤ j → j < k + n → f (done + j) ≡ h j)
    → flat_map f (range_with_len (done + k) n) ≡ flat_map h (range_with_len k n)
texts_moved f h done k zero same = refl
texts_moved f h done k (suc n) same =
    let next : done + k + 1 ≡ done + (k + 1) = omega arith in
    ap₂ (λ text texts. text ++ texts)
    (same k (omega arith) (omega arith))
    (ap (λ a. flat_map f (range_with_len a n)) next
    ∙ texts_moved f h done (k + 1) n (λ j low high. same j (omega (arith, low)) (omega (arith, high))))

-- shots after shots
pub shots_after : (faults collapses done j : ℕ) (g : Lcg)
    → after_shots faults collapses j (after_shots faults collapses done g) ≡ after_shots faults collapses (done + j) g
shots_after faults collapses done j g =
    sym (after_words-add (done * (faults + collapses)) (j * (faults + collapses)) g)
    ∙ ap (λ n. after_words n g) (sym (add-mul done j (faults + collapses)))

-- the lines so far, and those of a batch
pub lines_joined : (line : Listing → Lcg → List ℕ) (program : Listing) (done count : ℕ) (g : Lcg)
    → lines_from line program done g ++ lines_from line program count (shot_generator program g done) ≡ lines_from line program (done + count) g
lines_joined line program done count g =
    let f : ℕ → List ℕ = λ k. line program (shot_generator program g k) in
    let later : ℕ → List ℕ = λ k. line program (shot_generator program (shot_generator program g done) k) in
    let start : 0 + done ≡ done + 0 = omega arith in
    sym (ap (flat_map f) (range-append 0 done count)
    ∙ (flat_map-append f (range_with_len 0 done) (range_with_len (0 + done) count)
    ∙ ap (λ texts. lines_from line program done g ++ texts)
    (ap (λ a. flat_map f (range_with_len a count)) start
    ∙ texts_moved f later done 0 count
    (λ j low high. ap (line program) (sym (shots_after (length program.faults) program.collapses done j g))))))

pub no_lines : (line : Listing → Lcg → List ℕ) (program : Listing) (g : Lcg) → lines_from line program 0 g ≡ []
no_lines line program g = refl

-- the lines of a batch are those of its lanes
pub batch_lines : (line : Listing → Lcg → List ℕ) (program : Listing) (count : ℕ) (g : Lcg) (words : List ℕ)
    → ((j : ℕ) → j < count → line program (shot_generator program g j) ≡ lane_line words j)
    → lane_lines words count ≡ lines_from line program count g
batch_lines line program count g words same =
    sym (texts_moved (λ k. line program (shot_generator program g k)) (lane_line words) 0 0 count
    (λ j low high.
    let here : 0 + j ≡ j = omega arith in
    ap (λ k. line program (shot_generator program g k)) here ∙ same j (omega (arith, high))))

-- coins that are tossed are a shot's
tossed_alike : (passed : Span) (collapses : ℕ) (g : Lcg) (k : ℕ) → is_tossed passed k ≡ true
    → get_or (drawn_coins collapses g) k false ≡ get_or (tossed_coins passed collapses g) k false
tossed_alike passed collapses g k is =
    let tosses : ℕ → Bool = λ c. word_at g c % 2 == 1 in
    let hits : ℕ → Bool = λ c. is_tossed passed c && tosses c in
    ⊎_elim
    (λ (there : k < collapses).
    get_or-map-range_with_len tosses 0 collapses k k false there (omega arith)
    ∙ (ap (λ b. b && tosses k) (sym is)
    ∙ sym (get_or-map-range_with_len hits 0 collapses k k false there (omega arith))))
    (λ (past : collapses ≤ k).
    get_or_past (drawn_coins collapses g) k false (omega (arith, past, length-map-range_with_len tosses 0 collapses))
    ∙ sym (get_or_past (tossed_coins passed collapses g) k false (omega (arith, past, length-map-range_with_len hits 0 collapses))))
    (cases_lt k collapses)

-- so where the others don't count, they show the same of the shot
shown_alike : (passed : Span) (shown : Shown) (program : Listing) (faults : List Bool) (g : Lcg) → DontShow shown program passed
    → shown_of shown program faults (drawn_coins program.collapses g) ≡ shown_of shown program faults (tossed_coins passed program.collapses g)
shown_alike passed shown program faults g dont =
    dont faults (drawn_coins program.collapses g) (tossed_coins passed program.collapses g)
    (length-map-range_with_len _ 0 program.collapses)
    (length-map-range_with_len _ 0 program.collapses)
    (tossed_alike passed program.collapses g)

-- the line of a shot that was drawn into a lane and run
pub drawn_line : (passed : Span) (shown : Shown) (program : Listing) (count j : ℕ) (g : Lcg) (faults coins words : List ℕ) → count ≤ 64 → j < count
    → AreDrawn passed (bounds_of program) program.collapses count g faults coins → DontShow shown program passed
    → ((i : ℕ) → i < 64 → lane i words ≡ shown_of shown program (lane i faults) (lane i coins))
    → shown_line shown program (shot_generator program g j) ≡ lane_line words j
drawn_line passed shown program count j g faults coins words few below drawn dont runs =
    let at = shot_generator program g j in
    let n : length (bounds_of program) ≡ length program.faults = length-map program.faults (λ (fault : ListedFault). fault.bound) in
    let same_faults : shot_faults program at ≡ lane j faults =
    ap (λ m. drawn_faults (bounds_of program) (after_shots m program.collapses j g)) (sym n) ∙ sym (drawn.faults j below) in
    let same_coins : tossed_coins passed program.collapses (after_words (length program.faults) at) ≡ lane j coins =
    ap (λ m. tossed_coins passed program.collapses (after_words m (after_shots m program.collapses j g))) (sym n) ∙ sym (drawn.coins j below) in
    shown_line-is shown program at
    ∙ ap line_of
    (shown_alike passed shown program (shot_faults program at) (after_words (length program.faults) at) dont
    ∙ (ap₂ (shown_of shown program) same_faults same_coins
    ∙ sym (runs j (omega (arith, few, below)))))
