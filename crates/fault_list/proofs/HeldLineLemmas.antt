-- Lines that are held back, and those before them that were pushed.
use Rattle.std.proofs.Common.{◌≡◌, ℕ, ◌+◌, List, [], ◌++◌, Option, None, Some, refl, sym, ap, ◌∙◌, append_assoc, append-nil, arith}
use Rattle.std.specs.List.{flat_map, range_with_len}
use Rattle.std.proofs.lemmas.List.Concat.{flat_map-append}
use Rattle.step_model.specs.Held.{Held}
use Rattle.step_model.specs.Pushed.{Pushes}
use Rattle.step_model.proofs.Pushing.{Pushes-nil, Pushes-trans}
use Rattle.fault_list.specs.private.HeldLines.{PushesSome, PutsHeld}
use Rattle.fault_list.specs.private.PutTexts.{Puts}
use Rattle.step_model.proofs.RangeLemmas.{range-append}

-- the texts of the first numbers and of the next one
one_more : (f : ℕ → List ℕ) (n : ℕ) → flat_map f (range_with_len 0 n) ++ f n ≡ flat_map f (range_with_len 0 (n + 1))
one_more f n =
    let start : 0 + n ≡ n = omega arith in
    sym (ap (flat_map f) (range-append 0 n 1)
    ∙ (flat_map-append f (range_with_len 0 n) (range_with_len (0 + n) 1)
    ∙ (ap (λ k. flat_map f (range_with_len 0 n) ++ (f k ++ [])) start
    ∙ ap (λ l. flat_map f (range_with_len 0 n) ++ l) (append-nil (f n)))))

-- nothing yet
pub nothing_held : {S : Type 0} {taken : S → Option (List ℕ)} {failures : S → ℕ} {s : S} {h : Held} {before : List ℕ} → PushesSome taken failures s s h h before before []
nothing_held {S} {taken} {failures} {s} {h} {before} = record { gone = []; pushes = Pushes-nil; rest = sym (append-nil before) }

-- a text that is held too
pub held_too : {S : Type 0} {taken : S → Option (List ℕ)} {failures : S → ℕ} {s : S} {h : Held} {before after bytes : List ℕ} → after ≡ before ++ bytes → PushesSome taken failures s s h h before after bytes
held_too is = record { gone = []; pushes = Pushes-nil; rest = is }

-- a text that was put and is held
pub put_and_held : {S : Type 0} {taken : S → Option (List ℕ)} {failures : S → ℕ} {s : S} {h : Held} {most at : ℕ} {text old new : List ℕ} {answer : Option ℕ}
    → Puts most at text old new answer → PutsHeld taken failures s s h h most at text old new answer
put_and_held {answer = None} puts = record { within = tt; pushed = tt; kept = puts.kept; same_sink = λ none. refl; same_out = λ none. refl }
put_and_held {answer = Some end} puts = record { within = puts.within; pushed = held_too puts.written; kept = puts.kept; same_sink = λ none. refl; same_out = λ none. refl }

module _ {S : Type 0} {taken : S → Option (List ℕ)} {failures : S → ℕ} {s₀ s₁ : S} {h₀ h₁ : Held} where
  -- all that was held goes out
  pub all_gone : {before bytes gone : List ℕ} → gone ≡ before ++ bytes → Pushes taken failures s₀ s₁ h₀ h₁ gone → PushesSome taken failures s₀ s₁ h₀ h₁ before [] bytes
  all_gone {before} {bytes} {gone} is pushes = record { gone = gone; pushes = pushes; rest = append-nil gone ∙ is }

module _ {S : Type 0} {taken : S → Option (List ℕ)} {failures : S → ℕ} {s₀ s₁ s₂ : S} {h₀ h₁ h₂ : Held} where
  -- the line of one number more
  pub held_number : {held held_after : List ℕ} (f : ℕ → List ℕ) (n : ℕ)
      → PushesSome taken failures s₀ s₁ h₀ h₁ [] held (flat_map f (range_with_len 0 n)) → PushesSome taken failures s₁ s₂ h₁ h₂ held held_after (f n)
      → PushesSome taken failures s₀ s₂ h₀ h₂ [] held_after (flat_map f (range_with_len 0 (n + 1)))
  held_number {held} {held_after} f n p q = record {
    gone = p.gone ++ q.gone;
    pushes = Pushes-trans p.pushes q.pushes;
    rest =
        append_assoc p.gone q.gone held_after
        ∙ (ap (λ l. p.gone ++ l) q.rest
        ∙ (sym (append_assoc p.gone held (f n))
        ∙ (ap (λ l. l ++ f n) p.rest ∙ one_more f n)));
  }

  -- all that is held then goes out too
  pub gone_too : {before after bytes : List ℕ} → PushesSome taken failures s₀ s₁ h₀ h₁ before after bytes → Pushes taken failures s₁ s₂ h₁ h₂ after → PushesSome taken failures s₀ s₂ h₀ h₂ before [] bytes
  gone_too {before} {after} {bytes} p q = record { gone = p.gone ++ after; pushes = Pushes-trans p.pushes q; rest = append-nil (p.gone ++ after) ∙ p.rest }

  -- what is held at the end goes out
  pub all_out : {held bytes : List ℕ} → PushesSome taken failures s₀ s₁ h₀ h₁ [] held bytes → Pushes taken failures s₁ s₂ h₁ h₂ held → Pushes taken failures s₀ s₂ h₀ h₂ bytes
  all_out p q = rw (← p.rest) (Pushes-trans p.pushes q)
