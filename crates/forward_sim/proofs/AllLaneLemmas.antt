-- Words drawn into all lanes: into no lane and one more, no word and a piece more; and what the lanes then are.
use Rattle.std.proofs.Common.{◌≡◌, ℕ, ◌+◌, ◌-◌, ◌<◌, ◌≤◌, Bool, true, false, List, [], ◌∷◌, ◌++◌, length, length-append, get_or, map, take, drop, replicate, refl, sym, ap, ap₂, subst, ◌∙◌, arith, ⊎_elim}
use borrow.Rule.Slice.PartMut.{put_mid}
use Rattle.std.specs.List.{range_with_len}
use Rattle.std.specs.Prelude.{◌||◌}
use Rattle.std.proofs.lemmas.Bool.{cases_eq, cases_lt}
use Rattle.std.proofs.lemmas.List.{ext_get_or, get_or-append-add, get_or_append_left, get_or-map, get_or-replicate, get_or-take, length-drop, length-map, length-replicate, length-take-le}
use Rattle.std.proofs.lemmas.List.FromFn.{get_or-map-range_with_len, length-map-range_with_len}
use Rattle.rand_pcg.specs.Lcg.{Lcg}
use Rattle.bit_rows.specs.Lanes.{lane, lane_bit}
use Rattle.bit_rows.proofs.LaneLaws.{lane_bit-zero}
use Rattle.forward_sim.specs.Drawn.{after_words, word_at}
use Rattle.forward_sim.specs.private.AllLanes.{AllDrawn, DrawnUpTo, LanesDrawn, generator_at, nobody}
use Rattle.forward_sim.specs.private.LaneDraws.{DrawsInto}
use Rattle.forward_sim.proofs.RunLemmas.{word_behind}
use Rattle.forward_sim.proofs.WordLemmas.{after_words-add, after_words-none}

-- generators that gave words

generators_none : (generators : List Lcg) → map (after_words 0) generators ≡ generators
generators_none [] = refl
generators_none (g ∷ generators) = ap₂ (λ a b. a ∷ b) (after_words-none g) (generators_none generators)

generators_more : (m n : ℕ) (generators : List Lcg) → map (after_words n) (map (after_words m) generators) ≡ map (after_words (m + n)) generators
generators_more m n [] = refl
generators_more m n (g ∷ generators) = ap₂ (λ a b. a ∷ b) (sym (after_words-add m n g)) (generators_more m n generators)

pub generators_count : (n : ℕ) (generators then : List Lcg) → then ≡ map (after_words n) generators → length then ≡ length generators
generators_count n generators then is = ap length is ∙ length-map generators (after_words n)

pub generator_after : (n l : ℕ) (generators then : List Lcg) → l < length generators → then ≡ map (after_words n) generators
    → generator_at then l ≡ after_words n (generator_at generators l)
generator_after n l generators then h is =
    ap (λ gs. generator_at gs l) is ∙ get_or-map (after_words n) generators l nobody nobody h

-- lane after lane, in words that were 0

or_nothing : (b : Bool) → (b || false) ≡ b
or_nothing true = refl
or_nothing false = refl

pub record LanesSoFar (lanes n : ℕ) (hits : ℕ → ℕ → Bool) (generators : List Lcg) (words : List ℕ) : Type 0 where
  pub size : length words ≡ n
  pub drawn : (j k : ℕ) → j < lanes → k < n → lane_bit j (get_or words k 0) ≡ hits k (word_at (generator_at generators j) k)
  pub idle : (j k : ℕ) → lanes ≤ j → k < n → lane_bit j (get_or words k 0) ≡ false

pub lanes_blank : (n : ℕ) (hits : ℕ → ℕ → Bool) (generators : List Lcg) (words : List ℕ) → words ≡ replicate n 0 → LanesSoFar 0 n hits generators words
lanes_blank n hits generators words zeros =
    record {
      size = ap length zeros ∙ length-replicate n 0;
      drawn = λ j k h l. absurd (omega arith);
      idle = λ j k h l. ap (λ ws. lane_bit j (get_or ws k 0)) zeros ∙ (ap (lane_bit j) (get_or-replicate n k 0 0 l) ∙ lane_bit-zero j);
    }

pub lane_more : (lanes n : ℕ) (hits : ℕ → ℕ → Bool) (generators : List Lcg) (g : Lcg) (old new : List ℕ) → g ≡ generator_at generators lanes
    → LanesSoFar lanes n hits generators old → DrawsInto lanes 0 (length old) (λ k. hits k (word_at g k)) old new → LanesSoFar (lanes + 1) n hits generators new
lane_more lanes n hits generators g old new is so_far draws =
    record {
      size = draws.size ∙ so_far.size;
      drawn = λ j k h l.
          ⊎_elim
          (λ (e : j ≡ lanes).
          subst (λ i. lane_bit i (get_or new k 0) ≡ hits k (word_at (generator_at generators i) k)) (sym e)
          (draws.inside k (omega arith) (omega (arith, l, so_far.size))
          ∙ (ap₂ (λ a b. a || b) (ap (λ r. hits k (word_at r k)) is) (so_far.idle lanes k (omega arith) l)
          ∙ or_nothing (hits k (word_at (generator_at generators lanes) k)))))
          (λ (ne : j ≡ lanes → ⊥). draws.others j k ne ∙ so_far.drawn j k (omega (arith, h, ne)) l)
          (cases_eq j lanes);
      idle = λ j k h l. draws.others j k (λ e. omega (arith, e, h)) ∙ so_far.idle j k (omega (arith, h)) l;
    }

pub lanes_all : (lanes n : ℕ) (hits : ℕ → ℕ → Bool) (generators left : List Lcg) (words : List ℕ) → lanes ≡ length generators → LanesSoFar lanes n hits generators words
    → left ≡ map (after_words n) generators → AllDrawn n hits generators words left
lanes_all lanes n hits generators left words all so_far taken =
    record {
      size = so_far.size;
      lanes =
          record {
            drawn = λ j k h l. so_far.drawn j k (omega (arith, h, all)) l;
            idle = λ j k h l. so_far.idle j k (omega (arith, h, all)) l;
          };
      taken = taken;
    }

-- words that are 0, where none is drawn
pub all_passed : (n : ℕ) (generators left : List Lcg) (words : List ℕ) → words ≡ replicate n 0 → left ≡ map (after_words n) generators → AllDrawn n (λ k w. false) generators words left
all_passed n generators left words zeros taken =
    let blank = lanes_blank n (λ k w. false) generators words zeros in
    record {
      size = blank.size;
      lanes = record { drawn = λ j k h l. blank.idle j k (omega arith) l; idle = λ j k h l. blank.idle j k (omega arith) l };
      taken = taken;
    }

-- piece after piece

pub none_drawn : (hits : ℕ → ℕ → Bool) (generators : List Lcg) (words : List ℕ) → DrawnUpTo 0 (length words) hits generators words generators
none_drawn hits generators words = record {
  size = refl;
  lanes = record { drawn = λ j k h l. absurd (omega arith); idle = λ j k h l. absurd (omega arith) };
  taken = sym (generators_none generators);
}

pub all_like : (n : ℕ) (hits other : ℕ → ℕ → Bool) (generators left : List Lcg) (words : List ℕ) → ((k w : ℕ) → k < n → hits k w ≡ other k w)
    → AllDrawn n hits generators words left → AllDrawn n other generators words left
all_like n hits other generators left words same all =
    record {
      size = all.size;
      lanes =
          record {
            drawn = λ j k h l. all.lanes.drawn j k h l ∙ same k (word_at (generator_at generators j) k) l;
            idle = all.lanes.idle;
          };
      taken = all.taken;
    }

-- a list in which a piece was written over
record IsSpliced (at n : ℕ) (old piece new : List ℕ) : Type 0 where
  pub size : length new ≡ length old
  pub front : (k : ℕ) → k < at → get_or new k 0 ≡ get_or old k 0
  pub inside : (k : ℕ) → k < n → get_or new (at + k) 0 ≡ get_or piece k 0

spliced : (at k n : ℕ) (old piece : List ℕ) → k ≡ n → length piece ≡ n → at + n ≤ length old → IsSpliced at n old piece (put_mid at k old piece)
spliced at k n old piece is long within =
    let front : length (take at old) ≡ at = length-take-le at old (omega arith) in
    let rest = drop k (drop at old) in
    record {
      size = omega (arith, length-append (take at old) (piece ++ rest), length-append piece rest, length-drop k (drop at old), length-drop at old, front, long, is, within);
      front = λ i h. get_or_append_left (take at old) (piece ++ rest) 0 i (omega (arith, h, front)) ∙ get_or-take at old i 0 h;
      inside = λ i h.
          ap (λ m. get_or (take at old ++ (piece ++ rest)) (m + i) 0) (sym front)
          ∙ (get_or-append-add (take at old) (piece ++ rest) i 0 ∙ get_or_append_left piece rest 0 i (omega (arith, h, long)));
    }

-- a piece in front
pub lanes_front : (n : ℕ) (hits : ℕ → ℕ → Bool) (generators : List Lcg) (piece rest : List ℕ) → length piece ≡ n → LanesDrawn n hits generators piece → LanesDrawn n hits generators (piece ++ rest)
lanes_front n hits generators piece rest long lanes =
    record {
      drawn = λ j k h l. ap (lane_bit j) (get_or_append_left piece rest 0 k (omega (arith, l, long))) ∙ lanes.drawn j k h l;
      idle = λ j k h l. ap (lane_bit j) (get_or_append_left piece rest 0 k (omega (arith, l, long))) ∙ lanes.idle j k h l;
    }

piece_more : (at n : ℕ) (hits later all : ℕ → ℕ → Bool) (generators then left : List Lcg) (old piece new : List ℕ) → IsSpliced at n old piece new
    → ((k w : ℕ) → k < at → hits k w ≡ all k w) → ((k w : ℕ) → k < n → later k w ≡ all (at + k) w)
    → LanesDrawn at hits generators old → then ≡ map (after_words at) generators → AllDrawn n later then piece left
    → LanesDrawn (at + n) all generators new
piece_more at n hits later all generators then left old piece new spliced same same_later before taken after =
    let count = generators_count at generators then taken in
    record {
      drawn = λ j k h l.
          ⊎_elim
          (λ (m : k < at).
          ap (lane_bit j) (spliced.front k m) ∙ (before.drawn j k h m ∙ same k (word_at (generator_at generators j) k) m))
          (λ (m : at ≤ k).
          let i = k - at in
          let whole : at + i ≡ k = omega arith in
          let within : i < n = omega arith in
          let word = word_behind (generator_at generators j) (generator_at then j) at k m (generator_after at j generators then h taken) in
          ap (λ p. lane_bit j (get_or new p 0)) (sym whole)
          ∙ (ap (lane_bit j) (spliced.inside i within)
          ∙ (after.lanes.drawn j i (omega (arith, h, count)) within
          ∙ (same_later i (word_at (generator_at then j) i) within
          ∙ ap₂ all whole word))))
          (cases_lt k at);
      idle = λ j k h l.
          ⊎_elim
          (λ (m : k < at). ap (lane_bit j) (spliced.front k m) ∙ before.idle j k h m)
          (λ (m : at ≤ k).
          let i = k - at in
          let whole : at + i ≡ k = omega arith in
          let within : i < n = omega arith in
          ap (λ p. lane_bit j (get_or new p 0)) (sym whole)
          ∙ (ap (lane_bit j) (spliced.inside i within)
          ∙ after.lanes.idle j i (omega (arith, h, count)) within))
          (cases_lt k at);
    }

-- behind what is drawn a piece is
pub piece_drawn : {at n total : ℕ} {hits later : ℕ → ℕ → Bool} {generators then left : List Lcg} {old piece : List ℕ} (all : ℕ → ℕ → Bool) (k : ℕ) → k ≡ n → at + n ≤ total
    → DrawnUpTo at total hits generators old then → DrawnUpTo n n later then piece left
    → ((i w : ℕ) → i < at → hits i w ≡ all i w) → ((i w : ℕ) → i < n → later i w ≡ all (at + i) w)
    → DrawnUpTo (at + n) total all generators (put_mid at k old piece) left
piece_drawn {at = at} {n = n} {hits = hits} {later = later} {generators = generators} {then = then} {left = left} {old = old} {piece = piece} all k is within before after same same_later =
    let placed = spliced at k n old piece is after.size (omega (arith, before.size, within)) in
    record {
      size = placed.size ∙ before.size;
      lanes = piece_more at n hits later all generators then left old piece _ placed same same_later before.lanes before.taken after;
      taken = after.taken ∙ (ap (map (after_words n)) before.taken ∙ generators_more at n generators);
    }

-- which is a part of the words
pub part_drawn : {at total : ℕ} {hits later : ℕ → ℕ → Bool} {generators then left : List Lcg} {old piece : List ℕ} (all : ℕ → ℕ → Bool) (n k : ℕ) → k ≡ n → at + n ≤ total
    → DrawnUpTo at total hits generators old then → AllDrawn (length (take k (drop at old))) later then piece left
    → ((i w : ℕ) → i < at → hits i w ≡ all i w) → ((i w : ℕ) → i < n → later i w ≡ all (at + i) w)
    → DrawnUpTo (at + n) total all generators (put_mid at k old piece) left
part_drawn {at = at} {later = later} {then = then} {left = left} {old = old} {piece = piece} all n k is within before after same same_later =
    let long : length (take k (drop at old)) ≡ n = length-take-le k (drop at old) (omega (arith, length-drop at old, before.size, is, within)) ∙ is in
    piece_drawn all k is within before (subst (λ m. AllDrawn m later then piece left) long after) same same_later

-- what a lane then is
pub lane_is : (j n : ℕ) (truths : ℕ → Bool) (words : List ℕ) → length words ≡ n → ((k : ℕ) → k < n → lane_bit j (get_or words k 0) ≡ truths k)
    → lane j words ≡ map truths (range_with_len 0 n)
lane_is j n truths words size bits =
    ext_get_or false (lane j words) (map truths (range_with_len 0 n))
    (length-map words (lane_bit j) ∙ (size ∙ sym (length-map-range_with_len truths 0 n)))
    (λ k h.
    let here : k < length words = omega (arith, h, length-map words (lane_bit j)) in
    let below : k < n = omega (arith, here, size) in
    get_or-map (lane_bit j) words k 0 false here
    ∙ (bits k below
    ∙ sym (get_or-map-range_with_len truths 0 n k k false below (omega arith))))

pub lane_idle : (j n : ℕ) (words : List ℕ) → length words ≡ n → ((k : ℕ) → k < n → lane_bit j (get_or words k 0) ≡ false) → lane j words ≡ replicate n false
lane_idle j n words size bits =
    ext_get_or false (lane j words) (replicate n false)
    (length-map words (lane_bit j) ∙ (size ∙ sym (length-replicate n false)))
    (λ k h.
    let here : k < length words = omega (arith, h, length-map words (lane_bit j)) in
    let below : k < n = omega (arith, here, size) in
    get_or-map (lane_bit j) words k 0 false here
    ∙ (bits k below
    ∙ sym (get_or-replicate n k false false below)))
