-- A generator's words, one after another.
use Rattle.std.proofs.Common.{◌≡◌, ℕ, zero, suc, ◌+◌, ◌<◌, Bool, List, [], ◌∷◌, ◌++◌, length, length-set, map, take, set, refl, sym, ap, ap₂, ◌∙◌, arith}
use Rattle.std.specs.List.{range_with_len}
use Rattle.std.proofs.lemmas.List.{take_more_set}
use Rattle.std.proofs.lemmas.List.FromFn.{map-range_with_len_more}
use Rattle.rand_pcg.specs.Lcg.{Lcg, next, next_state, state_after}
use Rattle.rand_pcg.specs.Pcg.{multiplier_128, output_xsl_rr, pcg64}
use Rattle.forward_sim.specs.Drawn.{after_words, word_at}

-- so many steps and one more
step_first : (w m increment n state : ℕ) → state_after w m increment (suc n) state ≡ state_after w m increment n (next_state w m increment state)
unfolding state_after
step_first w m increment n state = refl

none_first : (w m increment state : ℕ) → state_after w m increment zero state ≡ state
unfolding state_after
none_first w m increment state = refl

state_after-add : (w m increment k n state : ℕ) → state_after w m increment (k + n) state ≡ state_after w m increment n (state_after w m increment k state)
state_after-add w m increment zero n state =
    let count : zero + n ≡ n = omega arith in
    ap (λ i. state_after w m increment i state) count ∙ ap (state_after w m increment n) (sym (none_first w m increment state))
state_after-add w m increment (suc k) n state =
    let count : suc k + n ≡ suc (k + n) = omega arith in
    ap (λ i. state_after w m increment i state) count
    ∙ (step_first w m increment (k + n) state
    ∙ (state_after-add w m increment k n (next_state w m increment state)
    ∙ ap (state_after w m increment n) (sym (step_first w m increment k state))))

state_after-one : (w m increment state : ℕ) → state_after w m increment 1 state ≡ next_state w m increment state
unfolding state_after
state_after-one w m increment state = refl

state_after-none : (w m increment state : ℕ) → state_after w m increment 0 state ≡ state
unfolding state_after
state_after-none w m increment state = refl

pub after_words-none : (g : Lcg) → after_words 0 g ≡ g
after_words-none g = ap (λ s. record g { state = s }) (state_after-none 128 multiplier_128 g.increment g.state)

pub after_words-add : (k n : ℕ) (g : Lcg) → after_words (k + n) g ≡ after_words n (after_words k g)
after_words-add k n g = ap (λ s. record g { state = s }) (state_after-add 128 multiplier_128 g.increment k n g.state)

pub after_words-more : (k : ℕ) (g : Lcg) → next 128 multiplier_128 (after_words k g) ≡ after_words (k + 1) g
after_words-more k g =
    ap (λ s. record g { state = s })
    (sym (state_after-one 128 multiplier_128 g.increment (state_after 128 multiplier_128 g.increment k g.state))
    ∙ sym (state_after-add 128 multiplier_128 g.increment k 1 g.state))

-- the next word, and where it leaves the generator
pub word_taken : (g rng then : Lcg) (k word : ℕ) → (word, then) ≡ pcg64 rng → rng ≡ after_words k g → word ≡ word_at g k
word_taken g rng then k word step at = ap (λ (p : ℕ × Lcg). p.0) step ∙ ap (λ r. (pcg64 r).0) at

pub word_left : (g rng then : Lcg) (k word : ℕ) → (word, then) ≡ pcg64 rng → rng ≡ after_words k g → then ≡ after_words (k + 1) g
word_left g rng then k word step at =
    ap (λ (p : ℕ × Lcg). p.1) step ∙ (ap (next 128 multiplier_128) at ∙ after_words-more k g)

-- the word, by the state that it was made in
pub word_of_state_behind : (g here : Lcg) (n m k state : ℕ) → n + m ≡ k → here ≡ after_words n g → state ≡ (after_words (m + 1) here).state
    → output_xsl_rr state ≡ word_at g k
word_of_state_behind g here n m k state whole at is =
    ap output_xsl_rr
    (is
    ∙ (ap (λ (r : Lcg). (after_words (m + 1) r).state) at
    ∙ ap (λ (r : Lcg). r.state)
    (sym (after_words-more m (after_words n g))
    ∙ ap (next 128 multiplier_128) (sym (after_words-add n m g) ∙ ap (λ i. after_words i g) whole))))

-- a list that is filled from its start
pub filled_more : {X : Type 0} (f : ℕ → X) (xs : List X) (i : ℕ) (y : X) → i < length xs → y ≡ f i → take i xs ≡ map f (range_with_len 0 i) → take (i + 1) (set xs i y) ≡ map f (range_with_len 0 (i + 1))
filled_more f xs i y below here so_far =
    take_more_set xs i y below
    ∙ (ap₂ (λ front last. front ++ last ∷ []) so_far here
    ∙ sym (map-range_with_len_more f 0 i i (omega arith)))

-- a list of n truth values, of which the first k are read off the words from g on; rng is behind these
pub record IsFilled (read : ℕ → ℕ → Bool) (n : ℕ) (g : Lcg) (k : ℕ) (rng : Lcg) (truths : List Bool) : Type 0 where
  pub size : length truths ≡ n
  pub drawn : take k truths ≡ map (λ i. read i (word_at g i)) (range_with_len 0 k)
  pub taken : rng ≡ after_words k g

pub filled_none : (read : ℕ → ℕ → Bool) (n : ℕ) (g : Lcg) (truths : List Bool) → length truths ≡ n → IsFilled read n g 0 g truths
filled_none read n g truths size = record { size = size; drawn = refl; taken = sym (after_words-none g) }

pub filled_on : (read : ℕ → ℕ → Bool) (n : ℕ) (g rng then : Lcg) (k word : ℕ) (truths : List Bool) (truth : Bool) → k < n → IsFilled read n g k rng truths → (word, then) ≡ pcg64 rng → truth ≡ read k word
    → IsFilled read n g (k + 1) then (set truths k truth)
filled_on read n g rng then k word truths truth low filled step is =
    record {
      size = length-set truths k truth ∙ filled.size;
      drawn =
          filled_more (λ i. read i (word_at g i)) truths k truth (omega (arith, low, filled.size))
          (is ∙ ap (read k) (word_taken g rng then k word step filled.taken)) filled.drawn;
      taken = word_left g rng then k word step filled.taken;
    }
