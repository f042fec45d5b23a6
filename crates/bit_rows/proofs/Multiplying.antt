-- The steps of the loops that multiply the machine words of a Pauli word by those of another: none yet, one word more, one
-- block more, and all of them.
use Rattle.std.proofs.Common.{◌≡◌, ℕ, ◌+◌, ◌*◌, ◌<◌, ◌≤◌, ◌-◌, ◌%◌, List, length, get_or, set, sym, ap, ap₂, subst, ◌∙◌, arith, ⊎_elim, bit_xor}
use Rattle.std.proofs.lemmas.Bool.{cases_lt}
use Rattle.std.proofs.lemmas.List.{get_or_past}
use Rattle.bit_rows.specs.private.Multiplied.{HaveOneLength, MultipliesFirst, Multiplies}
use Rattle.bit_rows.specs.private.Spans.{XorsWithin}
use Rattle.bit_rows.specs.private.WordTotals.{word_phase, words_phase, carried, carried_by}
use Rattle.bit_rows.proofs.Blocks.{XorsWithin-none, XorsWithin-one, XorsWithin-join}
use Rattle.bit_rows.specs.private.Totals.{total}
use Rattle.bit_rows.proofs.Blanks.{word_phase-blank, XorsWithin-blank}
use Rattle.bit_rows.proofs.Carries.{words_phase-zero, power_more}
use Rattle.bit_rows.proofs.Sums.{total-split, total_none}
use Rattle.bit_rows.proofs.VectorLanes.{block_more}

module _ (xa za xb zb : List ℕ) where
  -- the words behind those multiplied are as they were
  ahead_phase : (xa' za' : List ℕ) (n i : ℕ) → XorsWithin xa xb xa' 0 n → XorsWithin za zb za' 0 n → n ≤ i
      → word_phase (get_or xa' i 0) (get_or za' i 0) (get_or xb i 0) (get_or zb i 0) ≡ word_phase (get_or xa i 0) (get_or za i 0) (get_or xb i 0) (get_or zb i 0)
  ahead_phase xa' za' n i x z h = ap₂ (λ v w. word_phase v w (get_or xb i 0) (get_or zb i 0)) (x.above i h) (z.above i h)

  pub none_multiplied : (held : ℕ) → held ≡ 0 → MultipliesFirst xa za xb zb xa za held 0
  none_multiplied held none =
      record {
        power = ap (λ s. s % 4) (none ∙ sym (words_phase-zero xa za xb zb));
        x = XorsWithin-none xa xb 0;
        z = XorsWithin-none za zb 0;
      }

  pub word_multiplied : (xa' za' : List ℕ) (held held' i : ℕ) → MultipliesFirst xa za xb zb xa' za' held i → i < length xa' → i < length za'
      → held' % 4 ≡ (held + word_phase (get_or xa' i 0) (get_or za' i 0) (get_or xb i 0) (get_or zb i 0)) % 4
      → MultipliesFirst xa za xb zb (set xa' i (bit_xor (get_or xa' i 0) (get_or xb i 0))) (set za' i (bit_xor (get_or za' i 0) (get_or zb i 0))) held' (i + 1)
  word_multiplied xa' za' held held' i before in_x in_z step =
      record {
        power = power_more xa za xb zb held held' i before.power (step ∙ ap (λ w. (held + w) % 4) (ahead_phase xa' za' i i before.x before.z (omega arith)));
        x = XorsWithin-join xa xb xa' _ 0 i (i + 1) (omega arith) (omega arith) before.x (XorsWithin-one xa' xb i in_x);
        z = XorsWithin-join za zb za' _ 0 i (i + 1) (omega arith) (omega arith) before.z (XorsWithin-one za' zb i in_z);
      }

  pub block_multiplied : (xa' za' new_xa new_za ones twos ones' twos' : List ℕ) (block : ℕ)
      → MultipliesFirst xa za xb zb xa' za' (carried_by ones twos 4) (block * 4)
      → ((k : ℕ) → k < 4 → carried (get_or ones' k 0) (get_or twos' k 0) % 4
      ≡ (carried (get_or ones k 0) (get_or twos k 0) + word_phase (get_or xa' (block * 4 + k) 0) (get_or za' (block * 4 + k) 0) (get_or xb (block * 4 + k) 0) (get_or zb (block * 4 + k) 0)) % 4)
      → XorsWithin xa' xb new_xa (block * 4) (block * 4 + 4) → XorsWithin za' zb new_za (block * 4) (block * 4 + 4)
      → MultipliesFirst xa za xb zb new_xa new_za (carried_by ones' twos' 4) ((block + 1) * 4)
  block_multiplied xa' za' new_xa new_za ones twos ones' twos' block before each x z =
      let at = block * 4 in
      let next : block * 4 + 4 ≡ (block + 1) * 4 = omega arith in
      subst (λ n. MultipliesFirst xa za xb zb new_xa new_za (carried_by ones' twos' 4) n) next (record {
        power = block_more xa za xb zb ones twos ones' twos' at before.power
            (λ k h. each k h ∙ ap (λ w. (carried (get_or ones k 0) (get_or twos k 0) + w) % 4) (ahead_phase xa' za' at (at + k) before.x before.z (omega arith)));
        x = XorsWithin-join xa xb xa' new_xa 0 at (at + 4) (omega arith) (omega arith) before.x x;
        z = XorsWithin-join za zb za' new_za 0 at (at + 4) (omega arith) (omega arith) before.z z;
      })

  -- words without letters bring no power
  phase_skipped : (low high : ℕ) → low ≤ high → ((k : ℕ) → low ≤ k → k < high → (get_or xb k 0 ≡ 0) × (get_or zb k 0 ≡ 0))
      → words_phase xa za xb zb low ≡ words_phase xa za xb zb high
  unfolding words_phase
  phase_skipped low high le blank =
      let phase : ℕ → ℕ = λ k. word_phase (get_or xa k 0) (get_or za k 0) (get_or xb k 0) (get_or zb k 0) in
      let e : high ≡ low + (high - low) = omega arith in
      let none : total (λ i. phase (low + i)) (high - low) ≡ 0 = total_none (λ i. phase (low + i)) (high - low)
      (λ i h.
      let b = blank (low + i) (omega arith) (omega arith) in
      ap₂ (word_phase (get_or xa (low + i) 0) (get_or za (low + i) 0)) b.0 b.1 ∙ word_phase-blank (get_or xa (low + i) 0) (get_or za (low + i) 0)) in
      sym (ap (total phase) e ∙ omega (arith, total-split phase low (high - low), none))

  -- and are passed over
  pub words_skipped : (xa' za' : List ℕ) (held low high : ℕ) → low ≤ high
      → ((k : ℕ) → low ≤ k → k < high → (get_or xb k 0 ≡ 0) × (get_or zb k 0 ≡ 0))
      → MultipliesFirst xa za xb zb xa' za' held low → MultipliesFirst xa za xb zb xa' za' held high
  words_skipped xa' za' held low high le blank before =
      record {
        power = before.power ∙ ap (λ s. s % 4) (phase_skipped low high le blank);
        x = XorsWithin-join xa xb xa' xa' 0 low high (omega arith) le before.x (XorsWithin-blank xa' xb low high (λ k h l. (blank k h l).0));
        z = XorsWithin-join za zb za' za' 0 low high (omega arith) le before.z (XorsWithin-blank za' zb low high (λ k h l. (blank k h l).1));
      }

  -- the same, held otherwise
  pub held_otherwise : (xa' za' : List ℕ) (held held' n n' : ℕ) → MultipliesFirst xa za xb zb xa' za' held n → held' % 4 ≡ held % 4 → n ≡ n' → MultipliesFirst xa za xb zb xa' za' held' n'
  held_otherwise xa' za' held held' n n' before same end =
      subst (λ m. MultipliesFirst xa za xb zb xa' za' held' m) end (record { power = same ∙ before.power; x = before.x; z = before.z })

  all_summed : (first second new : List ℕ) (n : ℕ) → XorsWithin first second new 0 n → length first ≤ n → length second ≤ n → (k : ℕ) → get_or new k 0 ≡ bit_xor (get_or first k 0) (get_or second k 0)
  all_summed first second new n x p q k =
      ⊎_elim
      (λ (h : k < n). x.inside k (omega arith) h)
      (λ (h : n ≤ k).
      let a : get_or first k 0 ≡ 0 = get_or_past first k 0 (omega (arith, h, p)) in
      let b : get_or second k 0 ≡ 0 = get_or_past second k 0 (omega (arith, h, q)) in
      x.above k h ∙ a ∙ sym (ap (λ v. bit_xor v (get_or second k 0)) a ∙ ap (λ v. bit_xor 0 v) b))
      (cases_lt k n)

  pub all_multiplied : (xa' za' : List ℕ) (held answer n : ℕ) → HaveOneLength xa za xb zb → MultipliesFirst xa za xb zb xa' za' held n → n ≡ length xa → answer ≡ held % 4 → Multiplies xa za xb zb xa' za' answer
  all_multiplied xa' za' held answer n long before end is =
      record {
        power = is ∙ before.power ∙ ap (λ m. words_phase xa za xb zb m % 4) end;
        x = all_summed xa xb xa' n before.x (omega (arith, end)) (omega (arith, end, long.xb_long));
        z = all_summed za zb za' n before.z (omega (arith, end, long.za_long)) (omega (arith, end, long.zb_long));
      }
