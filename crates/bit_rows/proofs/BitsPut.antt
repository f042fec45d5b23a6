-- A bit that is put at a place of a row, in a slice that its words are lent as.
use Rattle.std.proofs.Common.{◌≡◌, ℕ, ◌/◌, ◌<◌, ◌++◌, Bool, true, false, cond, eqb, List, length, take, drop, get_or, set, refl, sym, ap, ◌∙◌, arith}
use Rattle.bit_rows.specs.private.Marks.{KeepsRow}
use Rattle.bit_rows.specs.private.Words.{bit_of, bit_in, row_of}
use Rattle.bit_rows.proofs.Marked.{marked_by_slice, marked_after_put}
use Rattle.bit_rows.proofs.Places.{row_long, word_within, held_by_slice, seen_by_slice, rewritten, held_after_put, row_of_put, get_or-row_of}

module _ (places marks : ℕ) (items : List ℕ) (row : List Bool) (kept : KeepsRow places marks items) (seen : row_of places items ≡ row) (i : ℕ) (within : i < length row) where
  inside : i < places
  inside = omega (arith, row_long places items row seen)

  pub word_there : (slice : List ℕ) → slice ≡ items → i / 64 < length slice
  word_there slice e = omega (arith, word_within places items i kept.held inside, ap length e)

  pub bit_seen : (slice : List ℕ) → slice ≡ items → bit_in slice i ≡ get_or row i false
  bit_seen slice e = sym (get_or-row_of places slice i inside) ∙ ap (λ r. get_or r i false) (seen_by_slice _ _ _ _ _ refl e seen)

  module _ (slice new : List ℕ) (len : ℕ) (b : Bool) (e : slice ≡ items) (long : length slice ≡ len) (as_long : length new ≡ length slice)
      (put : (k : ℕ) → bit_in new k ≡ cond (eqb k i) b (bit_in slice k)) where
    pub put_keeps : (marks' : ℕ) → ((n : ℕ) → n < 64 → bit_of marks' n ≡ cond (eqb n (i / 64)) true (bit_of marks n)) → KeepsRow places marks' (take len (new ++ drop (length new) items))
    put_keeps marks' more =
        rewritten (KeepsRow places marks') len slice new items long as_long (record {
          held = held_after_put places slice new i b (held_by_slice _ _ _ _ refl e kept.held) as_long inside put;
          marked = marked_after_put marks marks' slice new i b (marked_by_slice _ _ _ e kept.marked) put more;
        })

    pub put_seen : row_of places (take len (new ++ drop (length new) items)) ≡ set row i b
    put_seen =
        rewritten (λ ws. row_of places ws ≡ set row i b) len slice new items long as_long
        (row_of_put places slice new i b inside put ∙ ap (λ r. set r i b) (seen_by_slice _ _ _ _ _ refl e seen))
