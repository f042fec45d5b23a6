-- The targets of a text that is read by parts, and the bits that they turn.
use Rattle.std.proofs.Common.{◌≡◌, ℕ, suc, ◌+◌, ◌==◌, Bool, true, false, ◌||◌, List, [], ◌∷◌, ◌++◌, map, Option, None, Some, take, drop, refl, subst, ap, ap₂, sym, ◌∙◌, append_assoc, append-nil, inl, inr, arith}
use Rattle.std.specs.Prelude.{MatchBool, option_and_then, option_map}
use Rattle.std.specs.List.{before_first, onto_first, position_or_len}
use Rattle.std.proofs.lemmas.Bool.{cases_Bool, eqb-true, or_parts, true≢false}
use Rattle.std.proofs.lemmas.List.{take-append-drop}
use Rattle.stim_lexer.specs.Bytes.{from_first, is_blank}
use Rattle.stim_parser.specs.Pieces.{ends_here, is_star, pieces_of}
use Rattle.stim_parser.specs.Targets.{each_of}
use Rattle.dem_text.specs.declared.target.Target.{Target}
use Rattle.dem_text.specs.Meanings.{numbered}
use Rattle.dem_text.specs.Targets.{target_of, targets_in}
use Rattle.dem_text.specs.private.ErrorTexts.{IsApart}
use Rattle.dem_text.specs.private.Numbered.{numbers_of}
use Rattle.dem_text.specs.private.Turned.{turned, turned_at}

-- ---- pieces

abbrev HasPiece : List (List ℕ) → Type 0
HasPiece ps = (w : List ℕ) × (ws : List (List ℕ)) × (ps ≡ w ∷ ws)

onto_some : (b : ℕ) (ps : List (List ℕ)) → HasPiece (onto_first b ps)
onto_some b [] = (b ∷ [], [], refl)
onto_some b (p ∷ ps) = (b ∷ p, ps, refl)

some_piece : (text : List ℕ) → ends_here text ≡ false → HasPiece (pieces_of text)
unfolding pieces_of
some_piece [] h = absurd (true≢false h)
some_piece (b ∷ text) h =
    let parts = or_parts (is_blank b) (is_star b) h in
    elim (cases_Bool (ends_here text)) [
      | inl ends ↦ rw (parts.0, parts.1, ends) (b ∷ [], pieces_of text, refl)
      | inr on ↦ rw (parts.0, parts.1, on) (onto_some b (pieces_of text))
    ]

onto_both : (b : ℕ) (ps qs : List (List ℕ)) → HasPiece ps → onto_first b (ps ++ qs) ≡ onto_first b ps ++ qs
onto_both b ps qs h = rw h.2 refl

apart_same : (a later : List ℕ) → ends_here (a ++ 32 ∷ later) ≡ ends_here a
apart_same [] later = refl
apart_same (c ∷ a) later = refl

-- no piece goes over a space
pieces-both : (a later : List ℕ) → pieces_of (a ++ 32 ∷ later) ≡ pieces_of a ++ pieces_of (32 ∷ later)
unfolding pieces_of
pieces-both [] later = refl
pieces-both (c ∷ a) later =
    elim (cases_Bool (is_blank c)) [
      | inl blank ↦ rw blank (pieces-both a later)
      | inr word ↦
          elim (cases_Bool (is_star c || ends_here a)) [
            | inl ends ↦ rw (word, apart_same a later, ends) (ap (λ ps. (c ∷ []) ∷ ps) (pieces-both a later))
            | inr on ↦
                rw (word, apart_same a later, on)
                (ap (onto_first c) (pieces-both a later) ∙ onto_both c (pieces_of a) (pieces_of (32 ∷ later)) (some_piece a (or_parts (is_star c) (ends_here a) on).1))
          ]
    ]

-- ---- targets

-- two lists together
record AreBoth {Y : Type 0} (first second : Option (List Y)) (all : List Y) : Type 0 where
  us : List Y
  vs : List Y
  first_is : first ≡ Some us
  second_is : second ≡ Some vs
  all_is : all ≡ us ++ vs

record IsFirst {Y : Type 0} (one : Option Y) (more : Option (List Y)) (all : List Y) : Type 0 where
  y : Y
  ys : List Y
  one_is : one ≡ Some y
  more_is : more ≡ Some ys
  all_is : all ≡ y ∷ ys

first_of : {Y : Type 0} (one : Option Y) (more : Option (List Y)) (all : List Y) → option_and_then (λ y. option_map (λ ys. y ∷ ys) more) one ≡ Some all → IsFirst one more all
first_of None more all h = absurd cc
first_of (Some y) None all h = absurd cc
first_of (Some y) (Some ys) all h = record { y = y; ys = ys; one_is = refl; more_is = refl; all_is = cc }

joined : {Y : Type 0} (one : Option Y) (more : Option (List Y)) (y : Y) (ys : List Y) → one ≡ Some y → more ≡ Some ys → option_and_then (λ y. option_map (λ ys. y ∷ ys) more) one ≡ Some (y ∷ ys)
joined one more y ys e f = rw (e, f) refl

each-both : {X Y : Type 0} (f : X → Option Y) (xs xs' : List X) (all : List Y) → each_of f (xs ++ xs') ≡ Some all → AreBoth (each_of f xs) (each_of f xs') all
each-both f [] xs' all h = record { us = []; vs = all; first_is = refl; second_is = h; all_is = refl }
each-both f (x ∷ xs) xs' all h =
    let p = first_of (f x) (each_of f (xs ++ xs')) all h in
    let q = each-both f xs xs' p.ys p.more_is in
    record { us = p.y ∷ q.us; vs = q.vs; first_is = joined (f x) (each_of f xs) p.y q.us p.one_is q.first_is; second_is = q.second_is; all_is = p.all_is ∙ ap (λ ys. p.y ∷ ys) q.all_is }

targets-both : (a b : List ℕ) (all : List Target) → IsApart b → targets_in (a ++ b) ≡ Some all → AreBoth (targets_in a) (targets_in b) all
unfolding targets_in pieces_of
targets-both a b all (inl e) h =
    record {
      us = all;
      vs = [];
      first_is = ap (λ x. each_of target_of (pieces_of x)) (sym (append-nil a) ∙ ap (λ x. a ++ x) (sym e)) ∙ h;
      second_is = ap (λ x. each_of target_of (pieces_of x)) e;
      all_is = sym (append-nil all);
    }
targets-both a b all (inr p) h =
    let q = each-both target_of (pieces_of a) (pieces_of (32 ∷ p.0)) all (ap (each_of target_of) (sym (pieces-both a p.0)) ∙ ap (λ x. each_of target_of (pieces_of (a ++ x))) (sym p.1) ∙ h) in
    record { us = q.us; vs = q.vs; first_is = q.first_is; second_is = ap (λ x. each_of target_of (pieces_of x)) p.1 ∙ q.second_is; all_is = q.all_is }

-- ---- the bits that they turn

turned-both : (bits : List Bool) (ns ms : List ℕ) → turned bits (ns ++ ms) ≡ turned (turned bits ns) ms
turned-both bits [] ms = refl
turned-both bits (n ∷ ns) ms = turned-both (turned_at bits n) ns ms

numbers-both : (d : ℕ) (s : Target → Target) (us vs : List Target) → numbers_of d (map s (us ++ vs)) ≡ numbers_of d (map s us) ++ numbers_of d (map s vs)
numbers-both d s [] vs = refl
numbers-both d s (u ∷ us) vs =
    ap (λ ns. numbered d (s u) ++ ns) (numbers-both d s us vs) ∙ sym (append_assoc (numbered d (s u)) (numbers_of d (map s us)) (numbers_of d (map s vs)))

items-are : (b : Bool) (t : Option (List Target)) (items us : List Target) → MatchBool b (t ≡ Some items) (t ≡ None) → t ≡ Some us → items ≡ us
items-are true t items us h e = cc
items-are false t items us h e = absurd cc

-- ---- a part of a text

-- what stands behind the bytes before a space
pub apart-first : (text : List ℕ) → IsApart (from_first (λ b. b == 32) text)
apart-first [] = inl refl
apart-first (b ∷ text) =
    let next : suc (position_or_len (λ c. c == 32) text) ≡ 1 + position_or_len (λ c. c == 32) text = omega arith in
    elim (cases_Bool (b == 32)) [
      | inl here ↦ rw here (inr (text, ap (λ (c : ℕ). c ∷ text) (eqb-true b 32 here)))
      | inr other ↦ rw other (subst (λ (k : ℕ). IsApart (drop k (b ∷ text))) next (apart-first text))
    ]

pub part-whole : (text behind front after : List ℕ) (least : ℕ) → behind ≡ drop least text → front ≡ before_first (λ b. b == 32) behind → after ≡ from_first (λ b. b == 32) behind → text ≡ (take least text ++ front) ++ after
part-whole text behind front after least e f g =
    sym (take-append-drop least text)
    ∙ ap (λ bs. take least text ++ bs) (sym e ∙ sym (take-append-drop (position_or_len (λ b. b == 32) behind) behind) ∙ ap₂ (λ (us vs : List ℕ). us ++ vs) (sym f) (sym g))
    ∙ sym (append_assoc (take least text) front after)

-- of a text whose targets are to be turned, which turn these bits to those
pub record Turns (d : ℕ) (s : Target → Target) (text : List ℕ) (bits all : List Bool) : Type 0 where
  pub targets : List Target
  pub read : targets_in text ≡ Some targets
  pub turned_are : turned bits (numbers_of d (map s targets)) ≡ all

-- a part of it is turned
pub turns-part : (d : ℕ) (s : Target → Target) (text some after : List ℕ) (bits bits' all : List Bool) (b : Bool) (items : List Target) → Turns d s text bits all → text ≡ some ++ after → IsApart after
    → MatchBool b (targets_in some ≡ Some items) (targets_in some ≡ None) → bits' ≡ turned bits (numbers_of d (map s items)) → Turns d s after bits' all
turns-part d s text some after bits bits' all b items h e apart read turns =
    let both = targets-both some after h.targets apart (ap targets_in (sym e) ∙ h.read) in
    let same = items-are b (targets_in some) items both.us read both.first_is in
    record {
      targets = both.vs;
      read = both.second_is;
      turned_are =
          ap (λ (x : List Bool). turned x (numbers_of d (map s both.vs))) (turns ∙ ap (λ us. turned bits (numbers_of d (map s us))) same)
          ∙ sym (turned-both bits (numbers_of d (map s both.us)) (numbers_of d (map s both.vs)))
          ∙ ap (turned bits) (sym (numbers-both d s both.us both.vs))
          ∙ ap (λ us. turned bits (numbers_of d (map s us))) (sym both.all_is)
          ∙ h.turned_are;
    }

-- nothing is left of it
pub turns-none : (d : ℕ) (s : Target → Target) (text : List ℕ) (bits all : List Bool) → Turns d s text bits all → text ≡ [] → bits ≡ all
unfolding targets_in pieces_of
turns-none d s text bits all h e =
    let none : h.targets ≡ [] = empty h.targets (ap (λ x. each_of target_of (pieces_of x)) (sym e) ∙ h.read) in
    sym (ap (λ us. turned bits (numbers_of d (map s us))) none) ∙ h.turned_are
  where
    empty : (us : List Target) → Some [] ≡ Some us → us ≡ []
    empty us f = cc
