-- A fold, one line after another.
use Rattle.std.proofs.Common.{◌≡◌, ℕ, ◌+◌, Bool, true, false, ◌&&◌, if◌then◌else◌, List, [], ◌∷◌, ◌++◌, drop, arith, Option, None, Some, map, refl, ap, ap₂, subst, sym, ◌∙◌}
use Rattle.std.specs.Prelude.{is_none}
use Rattle.dem_text.specs.declared.fold.Fold.{Fold}
use Rattle.dem_text.specs.declared.operation.Operation.{Operation}
use Rattle.dem_text.specs.declared.standing.Standing.{Standing}
use Rattle.dem_text.specs.declared.target.Target.{Target}
use Rattle.dem_text.specs.Meanings.{is_error}
use Rattle.dem_text.specs.Models.{is_beyond}
use Rattle.dem_text.specs.Shifts.{Placed, placed_at, shift_after, shifted_target}
use Rattle.dem_text.specs.Verdicts.{Instruction}
use Rattle.dem_text.specs.private.Folds.{Folded, Follows, IsLater, fold_after, fold_over, is_asked, is_next, past, stand_after}
use Rattle.dem_text.specs.private.Numbered.{numbers_of}
use Rattle.dem_text.specs.private.Tables.{most_detectors}
use Rattle.dem_text.specs.private.Turned.{turned}
use Rattle.dem_text.proofs.LaterLemmas.{later-is, later-next}

-- ---- where no line is beyond its limits

-- what stood before a line behind which none is
pub record StoodNear (i : Instruction) (s : Standing) : Type 0 where
  pub before : s.beyond ≡ None
  pub near : is_beyond (placed_at s.shift i) ≡ false
  pub after_is : stand_after i s ≡ past (placed_at s.shift i) (shift_after i s.shift) s
  pub errors_are : (stand_after i s).counts.errors ≡ (if is_error i.operation then s.counts.errors + 1 else s.counts.errors)

not-some : {X : Type 0} (x : X) → Some x ≡ None → ⊥
not-some x e = cc

pub stood : (i : Instruction) (s : Standing) → (stand_after i s).beyond ≡ None → StoodNear i s
stood i s h = by s.beyond refl
  where
    p : Placed
    p = placed_at s.shift i

    by_line : s.beyond ≡ None → (b : Bool) → is_beyond p ≡ b → StoodNear i s
    by_line e true f = absurd (not-some p.line (sym (rw (e, f) refl) ∙ h))
    by_line e false f =
        record {
          before = e;
          near = f;
          after_is = rw e refl;
          errors_are = rw (e, f) refl;
        }

    by : (o : Option ℕ) → s.beyond ≡ o → StoodNear i s
    by (Some line) e = absurd (not-some line (sym e ∙ sym (ap (λ (t : Standing). t.beyond) (stays line e)) ∙ h))
      where
        stays : (line : ℕ) → s.beyond ≡ Some line → stand_after i s ≡ s
        stays line e = rw e refl
    by None e = by_line e (is_beyond p) refl

-- ---- one line

module _ {A : Type 0} (named : List ℕ) (f : Folded) (old : Fold A) (i : Instruction) (h : Follows named f old) where
  -- whether it is asked is told by the numbers that are to come
  next-asked : (is_none (stand_after i f.standing).beyond && (is_error i.operation && is_next f.standing.counts.errors old.later.now)) ≡ is_asked named f.standing i
  next-asked = by (stand_after i f.standing).beyond refl
    where
      by : (o : Option ℕ) → (stand_after i f.standing).beyond ≡ o → (is_none (stand_after i f.standing).beyond && (is_error i.operation && is_next f.standing.counts.errors old.later.now)) ≡ is_asked named f.standing i
      by (Some line) e = rw e refl
      by None e =
          let later = h.later_is (stood i f.standing e).before in
          ap (λ b. is_none (stand_after i f.standing).beyond && (is_error i.operation && b))
          (sym (later-is f.standing.counts.errors old.later.now later.ascend) ∙ sym (later.same f.standing.counts.errors (omega arith)))

  pub asked : (s : Standing) (o : Operation) (b : Bool) → s ≡ stand_after i f.standing → o ≡ i.operation → b ≡ (is_none s.beyond && (is_error o && is_next old.standing.counts.errors old.later.now)) → b ≡ is_asked named f.standing i
  asked s o b e k is =
      is
      ∙ ap₂ (λ (t : Standing) (p : Operation). is_none t.beyond && (is_error p && is_next old.standing.counts.errors old.later.now)) e k
      ∙ ap (λ (t : Standing). is_none (stand_after i f.standing).beyond && (is_error i.operation && is_next t.counts.errors old.later.now)) h.standing_is
      ∙ next-asked

  -- the numbers that are to come behind it
  later-past : (b : Bool) → b ≡ is_asked named f.standing i → (later : List ℕ) → later ≡ (if b then drop 1 old.later.now else old.later.now) → (stand_after i f.standing).beyond ≡ None → IsLater named (stand_after i f.standing).counts.errors later
  later-past b is later e none =
      let near = stood i f.standing none in
      let n = f.standing.counts.errors in
      by (is_error i.operation) refl near.errors_are
    where
      by : (error : Bool) → is_error i.operation ≡ error → (stand_after i f.standing).counts.errors ≡ (if error then f.standing.counts.errors + 1 else f.standing.counts.errors) → IsLater named (stand_after i f.standing).counts.errors later
      by true k errors =
          let next : b ≡ is_next f.standing.counts.errors old.later.now = is ∙ sym next-asked ∙ rw (none, k) refl in
          rw errors
          (subst (IsLater named (f.standing.counts.errors + 1)) (sym (e ∙ ap (λ (c : Bool). if c then drop 1 old.later.now else old.later.now) next))
          (later-next named f.standing.counts.errors old.later.now (h.later_is (stood i f.standing none).before)))
      by false k errors =
          let other : b ≡ false = is ∙ rw (none, k) refl in
          rw errors
          (subst (IsLater named f.standing.counts.errors) (sym (e ∙ ap (λ (c : Bool). if c then drop 1 old.later.now else old.later.now) other))
          (h.later_is (stood i f.standing none).before))

  pub followed : (new : Fold A) (b : Bool) → b ≡ is_asked named f.standing i → new.standing ≡ stand_after i old.standing → new.bits ≡ old.bits → new.later.now ≡ (if b then drop 1 old.later.now else old.later.now)
      → Follows named (record { standing = stand_after i f.standing; bits = f.bits }) new
  followed new b is standing bits later =
      record {
        standing_is = standing ∙ ap (stand_after i) h.standing_is;
        bits_are = bits ∙ h.bits_are;
        later_is = later-past b is new.later.now later;
      }

  -- a line that was passed, with the bits of its targets turned where it is asked
  pub taken : (passed new : Fold A) (b : Bool) (targets : List Target) → b ≡ is_asked named f.standing i → Follows named (record { standing = stand_after i f.standing; bits = f.bits }) passed → targets ≡ i.targets
      → new.standing ≡ passed.standing → new.later.now ≡ passed.later.now
      → new.bits ≡ (if b then turned passed.bits (numbers_of most_detectors (map (shifted_target passed.standing.shift.detectors) targets)) else passed.bits)
      → Follows named (fold_after named f i) new
  taken passed new b targets is follows ts standing later bits =
      record {
        standing_is = standing ∙ follows.standing_is;
        bits_are =
            bits
            ∙ ap₂ (λ (bs : List Bool) (t : Standing). if b then turned bs (numbers_of most_detectors (map (shifted_target t.shift.detectors) targets)) else bs) follows.bits_are follows.standing_is
            ∙ ap₂ (λ (c : Bool) (us : List Target). if c then turned f.bits (numbers_of most_detectors (map (shifted_target (stand_after i f.standing).shift.detectors) us)) else f.bits) is ts;
        later_is = λ none. subst (IsLater named (stand_after i f.standing).counts.errors) (sym later) (follows.later_is none);
      }

-- lines one after another
pub fold-both : (named : List ℕ) (f : Folded) (is js : List Instruction) → fold_over named f (is ++ js) ≡ fold_over named (fold_over named f is) js
fold-both named f [] js = refl
fold-both named f (i ∷ is) js = fold-both named (fold_after named f i) is js
