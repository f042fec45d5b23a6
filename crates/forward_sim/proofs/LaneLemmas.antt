-- Drawing into one lane: into no word, into one, and into spans that meet; and what the lanes then are.
use Rattle.std.proofs.Common.{◌≡◌, ℕ, ◌+◌, ◌<◌, ◌≤◌, Bool, true, false, cond, eqb, List, length, get_or, set, length-set, refl, sym, ap, ◌∙◌, arith, ⊎_elim, get_or-set_same, get_or-set_other}
use Rattle.std.specs.Prelude.{◌||◌, nat_le, nat_lt}
use Rattle.std.proofs.Math.Bool.{or-true}
use Rattle.std.proofs.lemmas.Bool.{cases_lt, cases_eq, le-leb, lt-ltb, eq-eqb, ne_eqb}
use Rattle.rand_pcg.specs.Pcg.{output_xsl_rr}
use Rattle.bit_rows.specs.Lanes.{lane_bit}
use Rattle.forward_sim.specs.declared.span.Span.{Span}
use Rattle.forward_sim.specs.Shots.{is_tossed}
use Rattle.forward_sim.specs.private.LaneDraws.{DrawsInto}

pub draws_nothing : (j start : ℕ) (hits : ℕ → Bool) (words : List ℕ) → DrawsInto j start start hits words words
draws_nothing j start hits words =
    record {
      size = refl;
      below = λ k h. refl;
      inside = λ k h l. absurd (omega arith);
      above = λ k h. refl;
      others = λ i k h. refl;
    }

-- no word of a span where nothing is true
pub draws_missed : (j start end : ℕ) (hits : ℕ → Bool) (words : List ℕ) → ((k : ℕ) → start ≤ k → k < end → hits k ≡ false) → DrawsInto j start end hits words words
draws_missed j start end hits words none =
    record {
      size = refl;
      below = λ k h. refl;
      inside = λ k h l. sym (ap (λ b. b || lane_bit j (get_or words k 0)) (none k h l));
      above = λ k h. refl;
      others = λ i k h. refl;
    }

-- a lane that was drawn into over spans that meet
pub lane_joined : (j start at end : ℕ) (hits : ℕ → Bool) (old middle new : List ℕ)
    → ((k : ℕ) → start ≤ k → k < at → lane_bit j (get_or middle k 0) ≡ (hits k || lane_bit j (get_or old k 0))) → ((k : ℕ) → at ≤ k → get_or middle k 0 ≡ get_or old k 0)
    → ((k : ℕ) → k < at → get_or new k 0 ≡ get_or middle k 0) → ((k : ℕ) → at ≤ k → k < end → lane_bit j (get_or new k 0) ≡ (hits k || lane_bit j (get_or middle k 0)))
    → (k : ℕ) → start ≤ k → k < end → lane_bit j (get_or new k 0) ≡ (hits k || lane_bit j (get_or old k 0))
lane_joined j start at end hits old middle new drawn above below further k h l =
    ⊎_elim
    (λ (m : k < at). ap (lane_bit j) (below k m) ∙ drawn k h m)
    (λ (m : at ≤ k). further k m l ∙ ap (λ w. hits k || lane_bit j w) (above k m))
    (cases_lt k at)

pub draws_joined : (j start at end : ℕ) (hits : ℕ → Bool) (old middle new : List ℕ) → start ≤ at → at ≤ end
    → DrawsInto j start at hits old middle → DrawsInto j at end hits middle new → DrawsInto j start end hits old new
draws_joined j start at end hits old middle new p q before after =
    record {
      size = after.size ∙ before.size;
      below = λ k h. after.below k (omega arith) ∙ before.below k h;
      inside = lane_joined j start at end hits old middle new before.inside before.above after.below after.inside;
      above = λ k h. after.above k h ∙ before.above k (omega arith);
      others = λ i k ne. after.others i k ne ∙ before.others i k ne;
    }

pub draws_like : (j start end : ℕ) (hits truths : ℕ → Bool) (old new : List ℕ) → ((k : ℕ) → start ≤ k → k < end → hits k ≡ truths k)
    → DrawsInto j start end hits old new → DrawsInto j start end truths old new
draws_like j start end hits truths old new same draws =
    record {
      size = draws.size;
      below = draws.below;
      inside = λ k h l. draws.inside k h l ∙ ap (λ b. b || lane_bit j (get_or old k 0)) (same k h l);
      above = draws.above;
      others = draws.others;
    }

-- the word behind those that were drawn into
pub draws_next : (j n : ℕ) (hits test : ℕ → Bool) (state : ℕ) (old middle new : List ℕ) → test (output_xsl_rr state) ≡ hits n
    → DrawsInto j 0 n hits old middle → DrawsInto j n (n + 1) (λ k. test (output_xsl_rr state)) middle new → DrawsInto j 0 (n + 1) hits old new
draws_next j n hits test state old middle new is before draws =
    draws_joined j 0 n (n + 1) hits old middle new (omega arith) (omega arith) before
    (draws_like j n (n + 1) (λ k. test (output_xsl_rr state)) hits middle new
    (λ k low high.
    let here : n ≡ k = omega arith in
    is ∙ ap hits here)
    draws)

-- a word whose lane is set where a truth value is true
pub draws_one : (j at : ℕ) (truth : Bool) (words : List ℕ) (word : ℕ) → at < length words
    → ((i : ℕ) → lane_bit i word ≡ cond (eqb i j) (truth || lane_bit i (get_or words at 0)) (lane_bit i (get_or words at 0)))
    → DrawsInto j at (at + 1) (λ k. truth) words (set words at word)
draws_one j at truth words word within put =
    record {
      size = length-set words at word;
      below = λ k h. get_or-set_other words at k word 0 (λ e. omega arith);
      inside = λ k h l.
          let e : k ≡ at = omega arith in
          ap (λ v. lane_bit j (get_or (set words at word) v 0)) e
          ∙ (ap (lane_bit j) (get_or-set_same words at word 0 within)
          ∙ (put j
          ∙ (ap (λ b. cond b (truth || lane_bit j (get_or words at 0)) (lane_bit j (get_or words at 0))) (eq-eqb j j refl)
          ∙ ap (λ v. truth || lane_bit j (get_or words v 0)) (sym e))));
      above = λ k h. get_or-set_other words at k word 0 (λ e. omega arith);
      others = λ i k ne.
          ⊎_elim
          (λ (e : k ≡ at).
          ap (λ v. lane_bit i (get_or (set words at word) v 0)) e
          ∙ (ap (lane_bit i) (get_or-set_same words at word 0 within)
          ∙ (put i
          ∙ (ap (λ b. cond b (truth || lane_bit i (get_or words at 0)) (lane_bit i (get_or words at 0))) (ne_eqb i j ne)
          ∙ ap (λ v. lane_bit i (get_or words v 0)) (sym e)))))
          (λ (other : k ≡ at → ⊥). ap (lane_bit i) (get_or-set_other words at k word 0 other))
          (cases_eq k at);
    }

-- coins that are tossed, and those that are passed over
pub is_tossed-before : (passed : Span) (k : ℕ) → k < passed.start → is_tossed passed k ≡ true
is_tossed-before passed k before = ap (λ b. b || nat_le passed.end k) (lt-ltb k passed.start before)

pub is_tossed-behind : (passed : Span) (k : ℕ) → passed.end ≤ k → is_tossed passed k ≡ true
is_tossed-behind passed k behind = ap (λ b. nat_lt k passed.start || b) (le-leb passed.end k behind) ∙ or-true (nat_lt k passed.start)

-- a word whose lane is set
pub draws_hit : (j at : ℕ) (truth : Bool) (words : List ℕ) (word : ℕ) → at < length words → truth ≡ true
    → ((i : ℕ) → lane_bit i word ≡ cond (eqb i j) true (lane_bit i (get_or words at 0)))
    → DrawsInto j at (at + 1) (λ k. truth) words (set words at word)
draws_hit j at truth words word within is put =
    draws_one j at truth words word within
    (λ i. put i ∙ ap (λ b. cond (eqb i j) (b || lane_bit i (get_or words at 0)) (lane_bit i (get_or words at 0))) (sym is))
