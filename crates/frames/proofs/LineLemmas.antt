-- A line that is filled from its start, and the bytes that it is made of.
use Rattle.std.proofs.Common.{◌≡◌, ◌≢◌, ℕ, ◌+◌, ◌-◌, ◌/◌, ◌%◌, ◌^◌, ◌<◌, eqb, false, List, [], ◌∷◌, ◌++◌, length, map, take, get_or, set, length-set, sym, ap, ap₂, subst, ◌∙◌, arith}
use Rattle.std.proofs.lemmas.List.{map-append, take_more, take_more_set, take_all, get_or-map, length-map}
use Rattle.std.proofs.Math.Nat.{mod-lt}
use Rattle.std.proofs.lemmas.Nat.{div-add-mod', pow_pos}
use Rattle.std.proofs.lemmas.Nat.Bits.{bit_at_cat_low, bit_at_cat_high}
use Rattle.std.specs.Int.{bit_at}
use Rattle.bit_rows.specs.Lanes.{lane, lane_bit}
use Rattle.frames.specs.Lines.{digit_of, line_of}
use Rattle.frames.specs.private.Octets.{HoldLanes}
use Rattle.frames.proofs.ShownLemmas.{lane_shows}

-- the digits of a shot at the first words
abbrev pub digits : ℕ → List ℕ → List ℕ
digits shot words = map digit_of (lane shot words)

pub digits_more : (shot : ℕ) (words line : List ℕ) (i digit : ℕ) → i < length words → i < length line
    → digit ≡ digit_of (lane_bit shot (get_or words i 0)) → take i line ≡ digits shot (take i words)
    → take (i + 1) (set line i digit) ≡ digits shot (take (i + 1) words)
digits_more shot words line i digit below room here so_far =
    take_more_set line i digit room
    ∙ (ap₂ (λ front last. front ++ last ∷ []) so_far here
    ∙ sym (ap (digits shot) (take_more words i 0 below)
    ∙ (ap (map digit_of) (map-append (lane_bit shot) (take i words) (get_or words i 0 ∷ []))
    ∙ map-append digit_of (lane shot (take i words)) (lane_bit shot (get_or words i 0) ∷ []))))

-- the whole line, with its line feed
pub line_ended : (shot : ℕ) (words line : List ℕ) (i : ℕ) → i ≡ length words → length line ≡ length words + 1
    → take i line ≡ digits shot (take i words) → set line (length words) 10 ≡ line_of (lane shot words)
line_ended shot words line i all room so_far =
    let end = length words in
    sym (take_all (end + 1) (set line end 10) (omega (arith, room, length-set line end 10)))
    ∙ (take_more_set line end 10 (omega (arith, room))
    ∙ ap (λ front. front ++ 10 ∷ [])
    (ap (λ n. take n line) (sym all) ∙ (so_far ∙ ap (digits shot) (take_all i words (omega (arith, all))))))

--- ---- bytes that hold eight lanes

-- eight lanes cut out of a word
pub lanes_cut : (word first j : ℕ) → j < 8 → lane_bit j (word / 2 ^ first % 256) ≡ lane_bit (first + j) word
unfolding lane_bit
lanes_cut word first j below =
    let high = word / 2 ^ first in
    let there : first + j - first ≡ j = omega arith in
    ap (λ v. eqb v 1)
    (sym (bit_at_cat_low (high / 256) 8 (high % 256) j below)
    ∙ (ap (λ v. bit_at v j) (div-add-mod' high 256)
    ∙ (sym (ap (bit_at high) there)
    ∙ (sym (bit_at_cat_high high first (word % 2 ^ first) (first + j) (mod-lt word (pow_pos first)) (omega arith))
    ∙ ap (λ v. bit_at v (first + j)) (div-add-mod' word (2 ^ first))))))

-- the last of eight is a number below 8
pub last_below : (shot : ℕ) → shot % 8 < 8
last_below shot = mod-lt shot (omega arith)

-- a shot's lane of the bytes that hold it
pub held_lane : (shot : ℕ) (words octets : List ℕ) → HoldLanes (shot - shot % 8) words octets → lane (shot % 8) octets ≡ lane shot words
held_lane shot words octets held =
    lane_shows (shot % 8) octets (lane shot words) (held.size ∙ sym (length-map words (lane_bit shot)))
    (λ i below.
    let within : i < length words = omega (arith, below, held.size) in
    let there : shot - shot % 8 + shot % 8 ≡ shot = omega (arith, div-add-mod' shot 8) in
    held.lanes i within (shot % 8) (last_below shot)
    ∙ (ap (λ s. lane_bit s (get_or words i 0)) there ∙ sym (get_or-map (lane_bit shot) words i 0 false within)))

-- the next shot's lane is held too, where it isn't the first of eight
pub held_on : (shot : ℕ) (words octets : List ℕ) → HoldLanes (shot - shot % 8) words octets → (shot + 1) % 8 ≢ 0
    → HoldLanes (shot + 1 - (shot + 1) % 8) words octets
held_on shot words octets held more =
    let same : shot - shot % 8 ≡ shot + 1 - (shot + 1) % 8 = omega (arith, more) in
    subst (λ first. HoldLanes first words octets) same held
