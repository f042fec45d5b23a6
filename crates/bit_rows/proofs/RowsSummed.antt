-- A row that another of its length is added to, by way of the slices that their words are lent as.
use Rattle.std.proofs.Common.{◌≡◌, ◌⊎◌, ℕ, ◌<◌, ◌++◌, Bool, true, false, List, length, take, drop, get_or, refl, ap, ◌∙◌, arith, bit_xor}
use Rattle.bit_rows.specs.Rows.{xor_rows}
use Rattle.bit_rows.specs.private.Marks.{KeepsRow, MarksOnes}
use Rattle.bit_rows.specs.private.Words.{bit_of, row_of}
use Rattle.bit_rows.proofs.Marked.{marked_by_slice, marked_after_xor, marked_after_sum}
use Rattle.bit_rows.proofs.Places.{same_places, held_by_slice, seen_by_slice, rewritten, held_after_xor, row_of_xor, same_length}

module _ (places marks : ℕ) (items : List ℕ) (row : List Bool) (kept : KeepsRow places marks items) (seen : row_of places items ≡ row)
    (places' marks' : ℕ) (others : List ℕ) (row' : List Bool) (kept' : KeepsRow places' marks' others) (seen' : row_of places' others ≡ row')
    (long : length row ≡ length row') where
  same : places ≡ places'
  same = same_places places places' items others row row' seen seen' long

  pub as_many_words : (slice other : List ℕ) → slice ≡ items → other ≡ others → length other ≡ length slice
  as_many_words slice other e f = omega (arith, same, kept.held.count, kept'.held.count, ap length e, ap length f)

  module _ (slice other new : List ℕ) (len : ℕ) (e : slice ≡ items) (f : other ≡ others) (whole : length slice ≡ len) (as_long : length new ≡ length slice)
      (each : (k : ℕ) → get_or new k 0 ≡ bit_xor (get_or slice k 0) (get_or other k 0)) where
    keeps : (marks'' : ℕ) → MarksOnes marks'' new → KeepsRow places marks'' (take len (new ++ drop (length new) items))
    keeps marks'' marked =
        rewritten (KeepsRow places marks'') len slice new items whole as_long (record {
          held = held_after_xor places new slice other (held_by_slice _ _ _ _ refl e kept.held) (held_by_slice _ _ _ _ same f kept'.held) as_long each;
          marked = marked;
        })

    -- with the marks of either
    pub either_keeps : (marks'' : ℕ) → ((b : ℕ) → bit_of marks'' b ≡ false → (bit_of marks b ≡ false) × (bit_of marks' b ≡ false)) → KeepsRow places marks'' (take len (new ++ drop (length new) items))
    either_keeps marks'' both =
        keeps marks'' (marked_after_xor marks marks' marks'' slice other new (marked_by_slice _ _ _ e kept.marked) (marked_by_slice _ _ _ f kept'.marked) each both)

    -- but for words that are noted as blank
    pub noted_keeps : (noted marks'' : ℕ) → ((k : ℕ) → k < 64 → bit_of noted k ≡ true → get_or new k 0 ≡ 0)
        → ((b : ℕ) → b < 64 → bit_of marks'' b ≡ false → (bit_of noted b ≡ true) ⊎ ((bit_of marks b ≡ false) × (bit_of marks' b ≡ false))) → KeepsRow places marks'' (take len (new ++ drop (length new) items))
    noted_keeps noted marks'' blank left =
        keeps marks'' (marked_after_sum marks marks' noted marks'' slice other new (marked_by_slice _ _ _ e kept.marked) (marked_by_slice _ _ _ f kept'.marked) each blank left)

    pub sum_seen : row_of places (take len (new ++ drop (length new) items)) ≡ xor_rows row row'
    sum_seen =
        rewritten (λ ws. row_of places ws ≡ xor_rows row row') len slice new items whole as_long
        (row_of_xor places new slice other each
        ∙ ap (λ r. xor_rows r (row_of places other)) (seen_by_slice _ _ _ _ _ refl e seen)
        ∙ ap (xor_rows row) (seen_by_slice _ _ _ _ _ same f seen'))

    pub sum_long : length (row_of places (take len (new ++ drop (length new) items))) ≡ length row
    sum_long = rewritten (λ ws. length (row_of places ws) ≡ length row) len slice new items whole as_long (same_length places new items row seen)
