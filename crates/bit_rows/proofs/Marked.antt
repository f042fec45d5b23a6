-- Marks of words: what a mark that isn't set says of a word, and what keeps marks true.
use Rattle.std.proofs.Common.{◌≡◌, ◌≢◌, ◌⊎◌, ℕ, ◌+◌, ◌*◌, ◌/◌, ◌%◌, ◌^◌, ◌<◌, ◌≤◌, Bool, true, false, cond, eqb, List, get_or, replicate, refl, sym, ap, ap₂, ◌∙◌, arith, subst, ⊎_elim, inl, inr, bit_xor}
use Rattle.std.proofs.lemmas.Bool.{cases_eq, eq-eqb, ne_eqb}
use Rattle.bit_rows.specs.private.Marks.{MarksOnes, BlanksBelow}
use Rattle.bit_rows.specs.Rows.{exclusive_or}
use Rattle.bit_rows.specs.private.Multiplied.{MarksBoth}
use Rattle.bit_rows.specs.private.Spans.{XorsWithin}
use Rattle.bit_rows.specs.private.Words.{bit_of, bit_in}
use Rattle.bit_rows.proofs.BitLaws.{bit_of-zero, zero_from_bits}
use Rattle.bit_rows.proofs.Places.{bit_in_is, bit_in_word, bit_in_zeros, bit_in-xor, zeros_everywhere}

-- ---- truth values
pub set_where : (t b : Bool) → cond t true b ≡ true → (b ≡ true) ⊎ (t ≡ true)
set_where true b h = inr refl
set_where false b h = inl h

-- ---- marks of a list
pub marked_by_slice : (marks : ℕ) (slice items : List ℕ) → slice ≡ items → MarksOnes marks items → MarksOnes marks slice
marked_by_slice marks slice items e marked = subst (MarksOnes marks) (sym e) marked

pub marked_more : (own marks : ℕ) (words : List ℕ) → ((b : ℕ) → bit_of marks b ≡ false → bit_of own b ≡ false) → MarksOnes own words → MarksOnes marks words
marked_more own marks words more marked = record { blank = λ place h e. marked.blank place h (more (place / 64) e) }

pub marked_zeros : (marks m : ℕ) → MarksOnes marks (replicate m 0)
marked_zeros marks m = record { blank = λ place h e. bit_in_zeros (replicate m 0) (zeros_everywhere m) place }

pub marked_after_xor : (own other marks : ℕ) (first second new : List ℕ) → MarksOnes own first → MarksOnes other second
    → ((k : ℕ) → get_or new k 0 ≡ bit_xor (get_or first k 0) (get_or second k 0))
    → ((b : ℕ) → bit_of marks b ≡ false → (bit_of own b ≡ false) × (bit_of other b ≡ false)) → MarksOnes marks new
marked_after_xor own other marks first second new p q each both =
    record {
      blank = λ place h e.
          let none = both (place / 64) e in
          bit_in-xor new first second each place ∙ ap₂ exclusive_or (p.blank place h none.0) (q.blank place h none.1);
    }

pub marked_after_put : (marks marks' : ℕ) (words others : List ℕ) (place : ℕ) (b : Bool) → MarksOnes marks words
    → ((k : ℕ) → bit_in others k ≡ cond (eqb k place) b (bit_in words k))
    → ((n : ℕ) → n < 64 → bit_of marks' n ≡ cond (eqb n (place / 64)) true (bit_of marks n)) → MarksOnes marks' others
marked_after_put marks marks' words others place b marked each more = record { blank = blank }
  where
    blank : (k : ℕ) → k / 64 < 64 → bit_of marks' (k / 64) ≡ false → bit_in others k ≡ false
    blank k h e =
        ⊎_elim
        (λ (same : k / 64 ≡ place / 64).
        let put : bit_of marks' (k / 64) ≡ true = more (k / 64) h ∙ ap (λ t. cond t true (bit_of marks (k / 64))) (eq-eqb (k / 64) (place / 64) same) in
        absurd (let c : true ≡ false = sym put ∙ e in cc))
        (λ (apart : k / 64 ≢ place / 64).
        let still : bit_of marks (k / 64) ≡ false = sym (more (k / 64) h ∙ ap (λ t. cond t true (bit_of marks (k / 64))) (ne_eqb (k / 64) (place / 64) apart)) ∙ e in
        each k ∙ ap (λ t. cond t b (bit_in words k)) (ne_eqb k place (λ s. apart (ap (λ v. v / 64) s))) ∙ marked.blank k h still)
        (cases_eq (k / 64) (place / 64))

-- the sum of two lists, in which some words are noted as blank
pub marked_after_sum : (own other noted marks : ℕ) (first second new : List ℕ) → MarksOnes own first → MarksOnes other second
    → ((k : ℕ) → get_or new k 0 ≡ bit_xor (get_or first k 0) (get_or second k 0))
    → ((k : ℕ) → k < 64 → bit_of noted k ≡ true → get_or new k 0 ≡ 0)
    → ((b : ℕ) → b < 64 → bit_of marks b ≡ false → (bit_of noted b ≡ true) ⊎ ((bit_of own b ≡ false) × (bit_of other b ≡ false))) → MarksOnes marks new
marked_after_sum own other noted marks first second new p q each blanked left = record { blank = blank }
  where
    blank : (place : ℕ) → place / 64 < 64 → bit_of marks (place / 64) ≡ false → bit_in new place ≡ false
    blank place h e =
        ⊎_elim
        (λ (n : bit_of noted (place / 64) ≡ true).
        bit_in_is new place ∙ ap (λ word. bit_of word (place % 64)) (blanked (place / 64) h n) ∙ bit_of-zero (place % 64))
        (λ (none : (bit_of own (place / 64) ≡ false) × (bit_of other (place / 64) ≡ false)).
        bit_in-xor new first second each place ∙ ap₂ exclusive_or (p.blank place h none.0) (q.blank place h none.1))
        (left (place / 64) h e)

-- a word without its mark
pub unmarked_zero : (marks : ℕ) (words : List ℕ) (k : ℕ) → ((k : ℕ) → get_or words k 0 < 2 ^ 64) → MarksOnes marks words
    → (k < 64) × (bit_of marks k ≡ false) → get_or words k 0 ≡ 0
unmarked_zero marks words k fits marked none =
    zero_from_bits (get_or words k 0) (fits k)
    (λ j l.
    let e : (k * 64 + j) / 64 ≡ k = omega (arith, l) in
    sym (bit_in_word words k j l) ∙ marked.blank (k * 64 + j) (omega (arith, none.0, e)) (ap (bit_of marks) e ∙ none.1))

-- the same of both lists of a word
pub unmarked_both : (marks : ℕ) (x z : List ℕ) (k : ℕ) → ((k : ℕ) → get_or x k 0 < 2 ^ 64) → ((k : ℕ) → get_or z k 0 < 2 ^ 64) → MarksBoth marks x z
    → (k < 64) × (bit_of marks k ≡ false) → (get_or x k 0 ≡ 0) × (get_or z k 0 ≡ 0)
unmarked_both marks x z k x_fits z_fits marked none = (unmarked_zero marks x k x_fits marked.of_x none, unmarked_zero marks z k z_fits marked.of_z none)

-- ---- words noted as blank
pub blanks_none : (x z : List ℕ) (high : ℕ) → BlanksBelow 0 x z high
blanks_none x z high = λ k h e. absurd (let c : true ≡ false = sym e ∙ bit_of-zero k in cc)

-- words further on are changed
pub blanks_kept : (noted : ℕ) (x z x' z' xb zb : List ℕ) (low high : ℕ) → low ≤ high → BlanksBelow noted x z low
    → XorsWithin x xb x' low high → XorsWithin z zb z' low high → BlanksBelow noted x' z' high
blanks_kept noted x z x' z' xb zb low high le blanks p q =
    λ k h e.
    let old = blanks k h e in
    (omega (arith, le, old.0), p.below k old.0 ∙ old.1, q.below k old.0 ∙ old.2)

-- a block more, which is noted where it is blank
pub blanks_more : (noted noted' : ℕ) (x z x' z' xb zb : List ℕ) (block : ℕ) (emptied : Bool) → BlanksBelow noted x z (block * 4)
    → XorsWithin x xb x' (block * 4) (block * 4 + 4) → XorsWithin z zb z' (block * 4) (block * 4 + 4)
    → (emptied ≡ true → (k : ℕ) → k < 4 → (get_or x' (block * 4 + k) 0 ≡ 0) × (get_or z' (block * 4 + k) 0 ≡ 0))
    → ((w : ℕ) → w < 64 → bit_of noted' w ≡ true → (bit_of noted w ≡ true) ⊎ ((w / 4 ≡ block) × (emptied ≡ true)))
    → BlanksBelow noted' x' z' ((block + 1) * 4)
blanks_more noted noted' x z x' z' xb zb block emptied blanks p q empty more =
    λ k h e.
    ⊎_elim
    (λ (old : bit_of noted k ≡ true).
    let was = blanks k h old in
    (omega (arith, was.0), p.below k was.0 ∙ was.1, q.below k was.0 ∙ was.2))
    (λ (new : (k / 4 ≡ block) × (emptied ≡ true)).
    let here : block * 4 + k % 4 ≡ k = omega (arith, new.0) in
    let zeros = empty new.1 (k % 4) (omega arith) in
    (omega (arith, new.0), ap (λ i. get_or x' i 0) (sym here) ∙ zeros.0, ap (λ i. get_or z' i 0) (sym here) ∙ zeros.1))
    (more k h e)
