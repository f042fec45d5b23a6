-- Detectors marked by the last line that gives them coordinates, one line after another.
use Rattle.std.proofs.Common.{◌≡◌, ℕ, zero, suc, ◌+◌, ◌==◌, ◌<◌, ◌≤◌, Bool, true, false, not, ◌&&◌, ◌||◌, ℤ, List, [], ◌∷◌, ◌++◌, length, map, get_or, set, refl, ap, sym, ◌∙◌, inl, inr, arith, length-append, length-set}
use Rattle.std.specs.Prelude.{if◌then◌else◌}
use Rattle.std.specs.List.{range_with_len, list_any}
use Rattle.std.proofs.Math.Seq.{get_or-append_seam}
use Rattle.std.proofs.lemmas.Bool.{cases_eq, eq-eqb, ne_eqb}
use Rattle.std.proofs.lemmas.List.{ext_get_or, get_or-map, get_or-set_other, get_or-set_same, get_or_append_left, length-map}
use Rattle.std.proofs.lemmas.List.FromFn.{get_or-map-range_with_len, length-map-range_with_len}
use Rattle.stim_lexer.specs.Bytes.{is_empty}
use Rattle.dem_text.specs.declared.target.Target.{Target}
use Rattle.dem_text.specs.declared.target.Target.TheVariants.{Plain, Detector, Observable, Separator}
use Rattle.dem_text.specs.private.Marked.{HasMarked, IsMarking, list_numbered, marked, marked_at}
use Rattle.dem_text.specs.Meanings.{detectors_to, last_coordinates}
use Rattle.dem_text.specs.Shifts.{Placed}

-- ---- marks of one line

-- whether a target is this detector
abbrev names : ℕ → Target → Bool
names d target = detectors_to target == d + 1

length-marked_at : (mark : ℕ) (marks : List ℕ) (t : Target) → length (marked_at mark marks t) ≡ length marks
length-marked_at mark marks (Plain m) = refl
length-marked_at mark marks (Detector d) = length-set marks d mark
length-marked_at mark marks (Observable k) = refl
length-marked_at mark marks Separator = refl

length-marked : (mark : ℕ) (marks : List ℕ) (ts : List Target) → length (marked mark marks ts) ≡ length marks
length-marked mark marks [] = refl
length-marked mark marks (t ∷ ts) = length-marked mark (marked_at mark marks t) ts ∙ length-marked_at mark marks t

not-named : (d x y : ℕ) → y ≡ (if 0 == d + 1 then x else y)
not-named d x y = rw (ne_eqb 0 (d + 1) (λ e. absurd (omega (arith, e)))) refl

marked_at-got : (mark d : ℕ) (marks : List ℕ) (t : Target) → d < length marks → get_or (marked_at mark marks t) d 0 ≡ (if names d t then mark else get_or marks d 0)
marked_at-got mark d marks (Plain m) h = not-named d mark (get_or marks d 0)
marked_at-got mark d marks (Observable k) h = not-named d mark (get_or marks d 0)
marked_at-got mark d marks Separator h = not-named d mark (get_or marks d 0)
marked_at-got mark d marks (Detector e) h =
    elim (cases_eq d e) as (λ _. get_or (set marks e mark) d 0 ≡ (if e + 1 == d + 1 then mark else get_or marks d 0)) [
      | inl same ↦
          rw (eq-eqb (e + 1) (d + 1) (omega (arith, same)))
          (ap (λ k. get_or (set marks e mark) k 0) same ∙ get_or-set_same marks e mark 0 (omega (arith, h, same)))
      | inr other ↦
          rw (ne_eqb (e + 1) (d + 1) (λ n. other (omega (arith, n)))) (get_or-set_other marks e d mark 0 other)
    ]

either : {X : Type 0} (b c : Bool) (x y : X) → (if c then x else (if b then x else y)) ≡ (if b || c then x else y)
either true true x y = refl
either true false x y = refl
either false true x y = refl
either false false x y = refl

marked-got : (mark d : ℕ) (marks : List ℕ) (ts : List Target) → d < length marks → get_or (marked mark marks ts) d 0 ≡ (if list_any (names d) ts then mark else get_or marks d 0)
marked-got mark d marks [] h = refl
marked-got mark d marks (t ∷ ts) h =
    marked-got mark d (marked_at mark marks t) ts (let same = length-marked_at mark marks t in omega (arith, same, h))
    ∙ ap (λ m. if list_any (names d) ts then mark else m) (marked_at-got mark d marks t h)
    ∙ either (names d t) (list_any (names d) ts) mark (get_or marks d 0)

-- ---- one line more

-- one list more changes none that was there
list_stays : (lists : List (List ℤ)) (list : List ℤ) (n : ℕ) → n ≤ length lists → list_numbered (lists ++ list ∷ []) n ≡ list_numbered lists n
list_stays lists list zero h = refl
list_stays lists list (suc n) h = get_or_append_left lists (list ∷ []) [] n h

last-list : (lists : List (List ℤ)) (list : List ℤ) → list_numbered (lists ++ list ∷ []) (length lists + 1) ≡ list
last-list lists list =
    let later : length lists + 1 ≡ suc (length lists) = omega arith in
    ap (list_numbered (lists ++ list ∷ [])) later ∙ get_or-append_seam lists list [] []

-- the mark of the last of these lists, or one that was there
record IsChosen (lists : List (List ℤ)) (list : List ℤ) (c : Bool) (old new : ℕ) : Type 0 where
  low : new ≤ length lists + 1
  stands : list_numbered (lists ++ list ∷ []) new ≡ (if c then list else list_numbered lists old)

is-chosen : (lists : List (List ℤ)) (list : List ℤ) (c : Bool) (old new : ℕ) → old ≤ length lists → new ≡ (if c then length lists + 1 else old) → IsChosen lists list c old new
is-chosen lists list true old new h e =
    record { low = omega (arith, e); stands = ap (list_numbered (lists ++ list ∷ [])) e ∙ last-list lists list }
is-chosen lists list false old new h e =
    record { low = omega (arith, e, h); stands = ap (list_numbered (lists ++ list ∷ [])) e ∙ list_stays lists list old h }

pub marking-next : (all rest rest' : List Placed) (lists lists' : List (List ℤ)) (marks marks' : List ℕ) (n : ℕ) (p : Placed)
    → IsMarking all rest lists marks n → rest ≡ p ∷ rest' → HasMarked p lists marks lists' marks' → IsMarking all rest' lists' marks' n
unfolding last_coordinates
marking-next all rest rest' lists lists' marks marks' n p h e has = by (not (is_empty p.coordinates)) refl has.lists_are has.marks_are
  where
    left : (b : Bool) (d : ℕ) → not (is_empty p.coordinates) ≡ b → d < n
        → last_coordinates d (if b && list_any (names d) p.targets then p.coordinates else list_numbered lists (get_or marks d 0)) rest' ≡ last_coordinates d [] all
    left b d is below =
        ap (λ c. last_coordinates d (if c && list_any (names d) p.targets then p.coordinates else list_numbered lists (get_or marks d 0)) rest') (sym is)
        ∙ ap (last_coordinates d (list_numbered lists (get_or marks d 0))) (sym e)
        ∙ h.same d below

    at : (d : ℕ) → d < n → IsChosen lists p.coordinates (list_any (names d) p.targets) (get_or marks d 0) (get_or (marked (length lists + 1) marks p.targets) d 0)
    at d below =
        is-chosen lists p.coordinates _ _ _ (h.there d below) (marked-got (length lists + 1) d marks p.targets (omega (arith, below, h.long)))

    by : (b : Bool) → not (is_empty p.coordinates) ≡ b → lists' ≡ (if b then lists ++ p.coordinates ∷ [] else lists) → marks' ≡ (if b then marked (length lists + 1) marks p.targets else marks)
        → IsMarking all rest' lists' marks' n
    by false none ls ms = rw (ls, ms) (record { long = h.long; there = h.there; same = λ d below. left false d none below })
    by true some ls ms =
        rw (ls, ms)
        (record {
          long = length-marked (length lists + 1) marks p.targets ∙ h.long;
          there = λ d below. omega (arith, (at d below).low, length-append lists (p.coordinates ∷ []));
          same = λ d below. ap (λ c. last_coordinates d c rest') (at d below).stands ∙ left true d some below;
        })

pub marking-done : (all rest : List Placed) (lists : List (List ℤ)) (marks : List ℕ) (n : ℕ) → IsMarking all rest lists marks n → rest ≡ []
    → map (list_numbered lists) marks ≡ map (λ d. last_coordinates d [] all) (range_with_len 0 n)
unfolding last_coordinates
marking-done all rest lists marks n h e =
    let f : ℕ → List ℤ = λ d. last_coordinates d [] all in
    let long : length (map (list_numbered lists) marks) ≡ n = length-map marks (list_numbered lists) ∙ h.long in
    ext_get_or [] _ _ (long ∙ sym (length-map-range_with_len f 0 n))
    (λ d below.
    let here : d < n = omega (arith, below, long) in
    get_or-map (list_numbered lists) marks d 0 [] (omega (arith, here, h.long))
    ∙ sym (ap (last_coordinates d (list_numbered lists (get_or marks d 0))) e)
    ∙ h.same d here
    ∙ sym (get_or-map-range_with_len f 0 n d d [] here (omega arith)))
