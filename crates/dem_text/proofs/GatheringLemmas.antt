-- A text that comes by pieces: its front is read, and what isn't read yet is held.
use Rattle.std.proofs.Common.{◌≡◌, ◌⊎◌, ℕ, ◌+◌, ◌-◌, ◌<◌, ◌≤◌, true, false, if◌then◌else◌, Option, None, Some, List, [], ◌∷◌, ◌++◌, drop, take, length, refl, ap, subst, sym, ◌∙◌, append_assoc, append-nil, length-append, inl, inr, arith}
use Rattle.std.specs.Prelude.{is_some}
use Rattle.std.specs.List.{onto_first}
use Rattle.std.proofs.lemmas.List.{drop_at, length-drop, length-take-le, take-append-drop}
use Rattle.step_model.specs.declared.fault.Fault.{Fault}
use Rattle.step_model.specs.Ends.{HandsOutSome}
use Rattle.step_model.proofs.EndsLemmas.{HandsOut-trans}
use Rattle.stim_lexer.specs.Bytes.{is_line_feed}
use Rattle.stim_lexer.specs.Lines.{lines_of}
use Rattle.stim_lexer.specs.Texts.{items_from}
use Rattle.stim_lexer.specs.Trees.{items_of}
use Rattle.stim_lexer.proofs.TextLemmas.{after, after-err}
use Rattle.dem_text.specs.declared.front.End.{End}
use Rattle.dem_text.specs.declared.front.End.TheVariants as «end»
use Rattle.dem_text.specs.declared.front.Front.{Front}
use Rattle.dem_text.specs.declared.prediction.Gathering.{Gathering}
use Rattle.dem_text.specs.Judged.{IsRefusedBy}
use Rattle.dem_text.specs.Texts.{models}
use Rattle.dem_text.specs.Trees.{Tree}
use Rattle.dem_text.specs.private.Ended.{IsAtEnd}
use Rattle.dem_text.specs.private.Gathering.{AreHanded, IsGathered, IsStanding, IsWholeFront, ReadsOnto, most_places, refusal_of}
use Rattle.dem_text.specs.private.Making.{AreRefused, HasTaken}

-- ---- lines behind whole ones

-- a text is empty, or ends with a line feed
abbrev IsWhole : List ℕ → Type 0
IsWhole text = (text ≡ []) ⊎ ((front : List ℕ) × (text ≡ front ++ 10 ∷ []))

some-onto : (b : ℕ) (lines : List (List ℕ)) → 0 < length (onto_first b lines)
some-onto b [] = omega arith
some-onto b (line ∷ lines) = omega arith

some-lines : (front : List ℕ) → 0 < length (lines_of (front ++ 10 ∷ []))
unfolding lines_of
some-lines [] = omega arith
some-lines (b ∷ front) =
    elim (is_line_feed b) as (λ c. 0 < length (if c then [] ∷ lines_of (front ++ 10 ∷ []) else onto_first b (lines_of (front ++ 10 ∷ [])))) [
      | true ↦ omega arith
      | false ↦ some-onto b (lines_of (front ++ 10 ∷ []))
    ]

onto-both : (b : ℕ) (xs ys : List (List ℕ)) → 0 < length xs → onto_first b (xs ++ ys) ≡ onto_first b xs ++ ys
onto-both b [] ys h = absurd (omega (arith, h))
onto-both b (x ∷ xs) ys h = refl

lines-feed : (front more : List ℕ) → lines_of ((front ++ 10 ∷ []) ++ more) ≡ lines_of (front ++ 10 ∷ []) ++ lines_of more
unfolding lines_of
lines-feed [] more = refl
lines-feed (b ∷ front) more =
    let here = lines_of (front ++ 10 ∷ []) in
    ap (λ ls. if is_line_feed b then [] ∷ ls else onto_first b ls) (lines-feed front more)
    ∙ elim (is_line_feed b) as (λ c. (if c then [] ∷ (here ++ lines_of more) else onto_first b (here ++ lines_of more)) ≡ (if c then [] ∷ here else onto_first b here) ++ lines_of more) [
      | true ↦ refl
      | false ↦ onto-both b here (lines_of more) (some-lines front)
    ]

lines-whole : (text more : List ℕ) → IsWhole text → lines_of (text ++ more) ≡ lines_of text ++ lines_of more
unfolding lines_of
lines-whole text more (inl none) = rw none refl
lines-whole text more (inr h) = rw h.1 (lines-feed h.0 more)

-- what a whole text ends with is whole
whole-end : (front rest : List ℕ) → IsWhole (front ++ rest) → IsWhole rest
whole-end [] rest h = h
whole-end (b ∷ front) rest (inl none) = absurd cc
whole-end (b ∷ front) rest (inr ([], e)) =
    let none : front ++ rest ≡ [] = ap (drop 1) e in whole-end front rest (inl none)
whole-end (b ∷ front) rest (inr (c ∷ before, e)) =
    let same : front ++ rest ≡ before ++ 10 ∷ [] = ap (drop 1) e in whole-end front rest (inr (before, same))

front-whole : (whole : ℕ) (text : List ℕ) → IsWholeFront whole text → IsWhole (take whole text)
front-whole whole text (inl none) = inl (ap (λ n. take n text) none)
front-whole whole text (inr h) = inr h

-- ---- lines that were taken

module _ {A : Type 0} (named handed text rest : List ℕ) (whole : ℕ) (ended : End) (old new : Front A) (h : AreHanded named handed text old) (fits : whole ≤ length text) (front_is : IsWholeFront whole text)
    (taken : HasTaken (take whole text) rest ended old new) where
  abbrev behind : List ℕ
  behind = drop whole text

  abbrev used : ℕ
  used = whole - length rest

  front-long : length taken.passed.behind.front ≡ used
  front-long =
      let all = ap length taken.passed.behind.text_is in
      let both = length-append taken.passed.behind.front rest in
      let long = length-take-le whole text fits in
      omega (arith, all, both, long)

  left-is : drop used text ≡ rest ++ behind
  left-is =
      let front = taken.passed.behind.front in
      ap (drop used)
      (sym (take-append-drop whole text)
      ∙ ap (λ (bs : List ℕ). bs ++ behind) taken.passed.behind.text_is
      ∙ append_assoc front rest behind)
      ∙ drop_at front (rest ++ behind) used front-long

  -- what is left, behind the lines that were read
  lines-left : (more : List ℕ) → lines_of (handed ++ more) ≡ (h.lines ++ taken.passed.lines) ++ (lines_of rest ++ lines_of (behind ++ more))
  lines-left more =
      let b = taken.passed.behind in
      let lines = taken.passed.lines in
      let last = lines_of (behind ++ more) in
      h.lines_are more
      ∙ ap (λ ls. h.lines ++ ls)
      (ap lines_of
      (ap (λ (bs : List ℕ). bs ++ more) (sym (take-append-drop whole text)) ∙ append_assoc (take whole text) behind more)
      ∙ lines-whole (take whole text) (behind ++ more) (front-whole whole text front_is)
      ∙ ap (λ ls. ls ++ last) b.lines_are
      ∙ append_assoc lines (lines_of rest) last)
      ∙ sym (append_assoc h.lines lines (lines_of rest ++ last))

  rest-whole : IsWhole rest
  rest-whole =
      whole-end taken.passed.behind.front rest (subst IsWhole taken.passed.behind.text_is (front-whole whole text front_is))

  handed-left : AreHanded named handed (drop used text) new
  handed-left =
      let read = taken.passed.read named most_places h.lines h.tree h.read in
      record {
        lines = h.lines ++ taken.passed.lines;
        tree = read.0;
        lines_are = λ more.
            lines-left more
            ∙ ap (λ ls. (h.lines ++ taken.passed.lines) ++ ls)
            (sym (lines-whole rest (behind ++ more) rest-whole)
            ∙ ap lines_of (sym (append_assoc rest behind more) ∙ ap (λ (bs : List ℕ). bs ++ more) (sym left-is)));
        read = read.1;
      }

  refused-left : (fault : Fault) → AreRefused new.read (lines_of rest) fault → (more : List ℕ) → IsRefusedBy (handed ++ more) fault
  refused-left fault refused more =
      let read = taken.passed.read named most_places h.lines h.tree h.read in
      let lines = h.lines ++ taken.passed.lines in
      let later = lines_of rest ++ lines_of (behind ++ more) in
      let many : 0 + length lines ≡ new.read = omega (arith, read.1.read_is) in
      ap (items_from models [] 0) (lines-left more)
      ∙ read.1.making.makes later
      ∙ ap (after (items_of read.0)) (ap (λ n. items_from models [] n later) many ∙ refused (lines_of (behind ++ more)))
      ∙ after-err (items_of read.0) fault

  long-left : new.read + length (drop used text) ≤ old.read + length text
  long-left =
      let few = taken.passed.behind.few in
      let read = taken.passed.read_is in
      let long = length-drop used text in
      let all = ap length taken.passed.behind.text_is in
      let both = length-append taken.passed.behind.front rest in
      let most = length-take-le whole text fits in
      omega (arith, few, read, long, all, both, most, front-long, fits)

stands-left : {A : Type 0} (named handed text rest : List ℕ) (whole : ℕ) (ended : End) (old new : Front A) → AreHanded named handed text old → whole ≤ length text → IsWholeFront whole text
    → HasTaken (take whole text) rest ended old new → IsStanding named handed (drop (whole - length rest) text) new (refusal_of ended)
stands-left named handed text rest whole «end».Text old new h fits front_is taken = handed-left named handed text rest whole «end».Text old new h fits front_is taken
stands-left named handed text rest whole («end».Open fault) old new h fits front_is taken =
    handed-left named handed text rest whole («end».Open fault) old new h fits front_is taken
stands-left named handed text rest whole («end».Refused fault) old new h fits front_is taken =
    refused-left named handed text rest whole («end».Refused fault) old new h fits front_is taken fault taken.ends

pub gathered-left : {A : Type 0} (named : List ℕ) (old new : Option (List ℕ)) (g g' : Gathering A) (rest : List ℕ) (whole : ℕ) (ended : End) → IsGathered named old new g → g.refused ≡ None
    → whole ≤ length g.text.items → IsWholeFront whole g.text.items → HasTaken (take whole g.text.items) rest ended g.front g'.front
    → g'.text.items ≡ drop (whole - length rest) g.text.items → g'.refused ≡ refusal_of ended → IsGathered named old new g'
gathered-left {A} named old new g g' rest whole ended h none fits front_is taken text_is refused_is =
    let stands : AreHanded named h.handed g.text.items g.front =
    subst (λ (o : Option Fault). IsStanding named h.handed g.text.items g.front o) none h.stands in
    let left = stands-left named h.handed g.text.items rest whole ended g.front g'.front stands fits front_is taken in
    let long = long-left named h.handed g.text.items rest whole ended g.front g'.front stands fits front_is taken in
    let same = ap (λ (bs : List ℕ). length bs) text_is in
    let before = h.long in
    record {
      handed = h.handed;
      handed_out = h.handed_out;
      stands = rw (text_is, refused_is) left;
      long = omega (arith, long, same, before);
    }

-- ---- a text that is refused

pub not-some : (o : Option Fault) → is_some o ≡ false → o ≡ None
not-some None h = refl
not-some (Some fault) h = absurd cc

-- ---- a piece more

stands-more : {A : Type 0} (named handed text piece : List ℕ) (front : Front A) (refused : Option Fault) → IsStanding named handed text front refused → IsStanding named (handed ++ piece) (text ++ piece) front refused
stands-more named handed text piece front None h =
    record {
      lines = h.lines;
      tree = h.tree;
      lines_are = λ more.
          ap lines_of (append_assoc handed piece more)
          ∙ h.lines_are (piece ++ more)
          ∙ ap (λ bs. h.lines ++ lines_of bs) (sym (append_assoc text piece more));
      read = h.read;
    }
stands-more named handed text piece front (Some fault) h =
    λ more. subst (λ bs. IsRefusedBy bs fault) (sym (append_assoc handed piece more)) (h (piece ++ more))

pub gathered-more : {A : Type 0} (named : List ℕ) (old mid new : Option (List ℕ)) (g g' : Gathering A) (n : ℕ) → IsGathered named old mid g → ReadsOnto mid new g.text.items g'.text.items n
    → g'.front ≡ g.front → g'.refused ≡ g.refused → IsGathered named old new g'
gathered-more {A} named old mid new g g' n h read front_is refused_is =
    let same = ap (λ (bs : List ℕ). length bs) read.text_is in
    let both = length-append g.text.items read.piece in
    let all = length-append h.handed read.piece in
    let count = ap (λ (f : Front A). f.read) front_is in
    let before = h.long in
    record {
      handed = h.handed ++ read.piece;
      handed_out = HandsOut-trans old mid new h.handed read.piece h.handed_out read.handed_out;
      stands = rw (read.text_is, front_is, refused_is) (stands-more named h.handed g.text.items read.piece g.front g.refused h.stands);
      long = omega (arith, same, both, all, count, before);
    }

-- the same of the parts of what is gathered
pub known-more : {A : Type 0} (named : List ℕ) (old mid new : Option (List ℕ)) (g : Gathering A) (text' : List ℕ) (n : ℕ) → IsGathered named old mid g → ReadsOnto mid new g.text.items text' n
    → (handed : List ℕ) × IsStanding named handed text' g.front g.refused
known-more named old mid new g text' n h read = (
  h.handed ++ read.piece,
  rw read.text_is (stands-more named h.handed g.text.items read.piece g.front g.refused h.stands),
)

pub some-more : {A : Type 0} (named : List ℕ) (old mid new : Option (List ℕ)) (g : Gathering A) (text' : List ℕ) (n : ℕ) → IsGathered named old mid g → ReadsOnto mid new g.text.items text' n → HandsOutSome old new
some-more named old mid new g text' n h read = (h.handed ++ read.piece, HandsOut-trans old mid new h.handed read.piece h.handed_out read.handed_out)

-- ---- the end

pub handed-end : {A : Type 0} (named handed text rest : List ℕ) (ended : End) (old new : Front A) → AreHanded named handed text old → HasTaken text rest ended old new
    → (tree : Tree) × IsAtEnd named most_places handed tree ended new
handed-end named handed text rest ended old new h taken =
    let read = taken.passed.read named most_places h.lines h.tree h.read in (
      read.0,
      record {
        lines = h.lines ++ taken.passed.lines;
        rest = rest;
        lines_are =
            ap lines_of (sym (append-nil handed))
            ∙ h.lines_are []
            ∙ ap (λ bs. h.lines ++ lines_of bs) (append-nil text)
            ∙ ap (λ ls. h.lines ++ ls) taken.passed.behind.lines_are
            ∙ sym (append_assoc h.lines taken.passed.lines (lines_of rest));
        read = read.1;
        ends = taken.ends;
      },
    )
