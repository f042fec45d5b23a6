-- Lines of a text read one after another, and what they make of it whatever follows.
use Rattle.std.proofs.Common.{◌≡◌, ℕ, ◌+◌, ◌<◌, ◌≤◌, true, false, List, [], ◌∷◌, ◌++◌, length, None, Some, Result, Ok, Err, refl, ap, subst, sym, ◌∙◌, append_assoc, append-nil, length-append, inl, inr, arith}
use Rattle.step_model.specs.declared.fault.Cause.{Cause}
use Rattle.step_model.specs.declared.fault.Cause.TheVariants as cause
use Rattle.step_model.specs.declared.fault.Fault.{Fault}
use Rattle.stim_lexer.specs.FirstLines.{IsFirstLine}
use Rattle.stim_lexer.specs.Judged.{left_open}
use Rattle.stim_lexer.specs.Lines.{lines_of, says_nothing}
use Rattle.stim_lexer.specs.Texts.{Reading, Accepts, Opens, Closes, Refuses, at_end, followed, items_from, line_reading, open_after, refused}
use Rattle.stim_lexer.specs.Unfinished.{Unfinished, cause_in, line_items}
use Rattle.stim_lexer.specs.Fitting.{IsWritten}
use Rattle.stim_lexer.proofs.TextLemmas.{after, after-append, after-err, after-ok}
use Rattle.stim_lexer.proofs.TreeLemmas.{lines_are_written}
use Rattle.dem_text.specs.Fitting.{Fits}
use Rattle.dem_text.proofs.FitLemmas.{reading_fits}
use Rattle.dem_text.specs.Texts.{Item, models}
use Rattle.dem_text.specs.Verdicts.{Instruction}
use Rattle.dem_text.specs.private.Keeping.{KeepsLine}
use Rattle.dem_text.specs.private.Making.{IsBehind, IsMaking}

-- ---- where a line stands

pub behind-none : (text : List ℕ) → IsBehind text text []
behind-none text = record { front = []; text_is = refl; lines_are = refl; few = omega arith }

pub behind-line : (text rest line later : List ℕ) (lines : List (List ℕ)) → IsBehind text rest lines → IsFirstLine rest line later → IsBehind text later (lines ++ line ∷ [])
behind-line text rest line later lines h first = by later first.lines first.parts first.less
  where
    more : length (lines ++ line ∷ []) ≡ length lines + 1
    more = length-append lines (line ∷ [])

    same : (later : List ℕ) → lines_of rest ≡ line ∷ lines_of later → lines_of text ≡ (lines ++ line ∷ []) ++ lines_of later
    same later e = h.lines_are ∙ ap (λ ls. lines ++ ls) e ∙ sym (append_assoc lines (line ∷ []) (lines_of later))

    by : (later : List ℕ) → lines_of rest ≡ line ∷ lines_of later → (0 < length later → rest ≡ line ++ 10 ∷ later) → length later < length rest → IsBehind text later (lines ++ line ∷ [])
    by [] e parts less =
        let few = h.few in
        let long = ap length h.text_is ∙ length-append h.front rest in
        record { front = text; text_is = sym (append-nil text); lines_are = same [] e; few = omega (arith, few, long, less, more) }
    by (b ∷ later) e parts less =
        let few = h.few in
        let whole = line ++ 10 ∷ [] in
        let at : rest ≡ whole ++ (b ∷ later) = parts (omega arith) ∙ sym (append_assoc line (10 ∷ []) (b ∷ later)) in
        let one = length-append line (10 ∷ []) in
        record {
          front = h.front ++ whole;
          text_is = h.text_is ∙ ap (λ r. h.front ++ r) at ∙ sym (append_assoc h.front whole (b ∷ later));
          lines_are = same (b ∷ later) e;
          few = omega (arith, few, more, one, length-append h.front whole);
        }

-- lines are read behind others
pub behind-both : (text rest later : List ℕ) (lines more : List (List ℕ)) → IsBehind text rest lines → IsBehind rest later more → IsBehind text later (lines ++ more)
behind-both text rest later lines more h k =
    let few = h.few in
    let fewer = k.few in
    record {
      front = h.front ++ k.front;
      text_is = h.text_is ∙ ap (λ r. h.front ++ r) k.text_is ∙ sym (append_assoc h.front k.front later);
      lines_are = h.lines_are ∙ ap (λ ls. lines ++ ls) k.lines_are ∙ sym (append_assoc lines more (lines_of later));
      few = omega (arith, few, fewer, length-append lines more, length-append h.front k.front);
    }

-- ---- one line more

passed : (opened : List ℕ) (read : ℕ) (line : List ℕ) (lines : List (List ℕ)) → says_nothing line ≡ true → items_from models opened read (line ∷ lines) ≡ items_from models opened (read + 1) lines
unfolding items_from
passed opened read line lines silent = rw silent refl

spoken : (opened : List ℕ) (read : ℕ) (line : List ℕ) (lines : List (List ℕ)) → says_nothing line ≡ false → items_from models opened read (line ∷ lines)
    ≡ followed (read + 1) (line_reading models opened (read + 1) line) (items_from models (open_after (read + 1) (line_reading models opened (read + 1) line) opened) (read + 1) lines)
unfolding items_from
spoken opened read line lines speaks = rw speaks refl

ended : (opened : List ℕ) (read : ℕ) → items_from models opened read [] ≡ at_end models opened
unfolding items_from
ended opened read = refl

followed-after : (number : ℕ) (r : Reading Instruction) (rest : Result (List Item) Fault) → None ≡ cause_in r → followed number r rest ≡ after (line_items number r) rest
followed-after number (Accepts i) rest h = refl
followed-after number (Opens turns) rest h = refl
followed-after number Closes rest h = refl
followed-after number (Refuses c) rest h = absurd (cc)

followed-refused : (number : ℕ) (r : Reading Instruction) (rest : Result (List Item) Fault) (c : Cause) → Some c ≡ cause_in r → followed number r rest ≡ Err (refused c number)
followed-refused number (Accepts i) rest c h = absurd (cc)
followed-refused number (Opens turns) rest c h = absurd (cc)
followed-refused number Closes rest c h = absurd (cc)
followed-refused number (Refuses d) rest c h = let same : c ≡ d = cc in ap (λ (x : Cause). Err (refused x number)) (sym same)

few-items : (number : ℕ) (r : Reading Instruction) → length (line_items number r) ≤ 1
few-items number (Accepts i) = omega arith
few-items number (Opens turns) = omega arith
few-items number Closes = omega arith
few-items number (Refuses c) = omega arith

pub making-none : (count : ℕ) → IsMaking count [] (record { items = []; opened = [] })
making-none count =
    let same : count + 0 ≡ count = omega arith in
    record { makes = λ more. ap (λ n. items_from models [] n more) (sym same); few = omega arith }

module _ (count : ℕ) (lines : List (List ℕ)) (u : Unfinished Instruction) (h : IsMaking count lines u) (line : List ℕ) (number : ℕ) (is : number ≡ count + length lines + 1) where
  at_line : (more : List (List ℕ)) → items_from models [] count (lines ++ line ∷ more) ≡ after u.items (items_from models u.opened (count + length lines) (line ∷ more))
  at_line more = h.makes (line ∷ more)

  long : count + length (lines ++ line ∷ []) ≡ count + length lines + 1
  long = let l = length-append lines (line ∷ []) in omega (arith, l)

  pub making-line : (u' : Unfinished Instruction) → KeepsLine number line None u u' → IsMaking count (lines ++ line ∷ []) u'
  making-line u' (inl p) =
      let few = h.few in
      let same : u' ≡ u = p.2 in
      subst (IsMaking count (lines ++ line ∷ [])) (sym same)
      (record {
        makes = λ more.
            ap (items_from models [] count) (append_assoc lines (line ∷ []) more)
            ∙ at_line more
            ∙ ap (after u.items) (passed u.opened (count + length lines) line more p.0 ∙ ap (λ n. items_from models u.opened n more) (sym long));
        few = omega (arith, few, length-append lines (line ∷ []));
      })
  making-line u' (inr p) =
      let few = h.few in
      let r = line_reading models u.opened number line in
      let one = few-items number r in
      subst (IsMaking count (lines ++ line ∷ [])) (sym p.after_is)
      (record {
        makes = λ more.
            let behind = λ (n : ℕ). items_from models (open_after number r u.opened) n more in
            ap (items_from models [] count) (append_assoc lines (line ∷ []) more)
            ∙ at_line more
            ∙ ap (after u.items)
            (spoken u.opened (count + length lines) line more p.speaks
            ∙ ap (λ n. followed n (line_reading models u.opened n line) (items_from models (open_after n (line_reading models u.opened n line) u.opened) (count + length lines + 1) more)) (sym is)
            ∙ followed-after number r (behind (count + length lines + 1)) p.refused_is
            ∙ ap (λ n. after (line_items number r) (behind n)) (sym long))
            ∙ sym (after-append u.items (line_items number r) (behind (count + length (lines ++ line ∷ []))));
        few = omega (arith, few, one, length-append lines (line ∷ []), length-append u.items (line_items number r));
      })

  pub refused-here : (c : Cause) (u' : Unfinished Instruction) → KeepsLine number line (Some c) u u' → (more : List (List ℕ)) → items_from models [] count (lines ++ line ∷ more) ≡ Err (refused c number)
  refused-here c u' (inl p) more = absurd (let none = p.1 in cc)
  refused-here c u' (inr p) more =
      let r = line_reading models u.opened number line in
      at_line more
      ∙ ap (after u.items)
      (spoken u.opened (count + length lines) line more p.speaks
      ∙ ap (λ n. followed n (line_reading models u.opened n line) (items_from models (open_after n (line_reading models u.opened n line) u.opened) (count + length lines + 1) more)) (sym is)
      ∙ followed-refused number r (items_from models (open_after number r u.opened) (count + length lines + 1) more) c p.refused_is)
      ∙ after-err u.items (refused c number)

-- ---- the end

-- a block that is left open
pub refused-open : (count : ℕ) (lines : List (List ℕ)) (u : Unfinished Instruction) (fault : Fault) → IsMaking count lines u → left_open cause.DemBlock u.opened ≡ Some fault → items_from models [] count lines ≡ Err fault
refused-open count lines u fault h e =
    ap (items_from models [] count) (sym (append-nil lines))
    ∙ h.makes []
    ∙ ap (after u.items) (ended u.opened (count + length lines) ∙ by u.opened e)
    ∙ after-err u.items fault
  where
    by : (opened : List ℕ) → left_open cause.DemBlock opened ≡ Some fault → at_end models opened ≡ Err fault
    by [] e = absurd cc
    by (line ∷ opened) e = let same : refused cause.DemBlock line ≡ fault = cc in ap (λ (f : Fault). Err f) same

-- ---- lines that are kept

-- behind lines of a text that were read, before which so many were
pub record IsKeepingOn (text rest : List ℕ) (read number : ℕ) (begun u : Unfinished Instruction) : Type 0 where
  pub lines : List (List ℕ)
  pub behind : IsBehind text rest lines
  pub number_is : number ≡ read + length lines
  pub making : (count : ℕ) (before : List (List ℕ)) → IsMaking count before begun → read ≡ count + length before → IsMaking count (before ++ lines) u

pub keeping-none : (text : List ℕ) (read : ℕ) (u : Unfinished Instruction) → IsKeepingOn text text read read u u
keeping-none text read u =
    record {
      lines = [];
      behind = behind-none text;
      number_is = omega arith;
      making = λ count before h e. subst (λ ls. IsMaking count ls u) (sym (append-nil before)) h;
    }

module _ (text rest line later : List ℕ) (read number : ℕ) (begun u u' : Unfinished Instruction) (h : IsKeepingOn text rest read number begun u) (first : IsFirstLine rest line later) where
  pub keeping-line : KeepsLine (number + 1) line None u u' → IsKeepingOn text later read (number + 1) begun u'
  keeping-line k =
      let n = h.number_is in
      record {
        lines = h.lines ++ line ∷ [];
        behind = behind-line text rest line later h.lines h.behind first;
        number_is = omega (arith, n, length-append h.lines (line ∷ []));
        making = λ count before m e.
            subst (λ ls. IsMaking count ls u') (append_assoc before h.lines (line ∷ []))
            (making-line count (before ++ h.lines) u (h.making count before m e) line (number + 1) (omega (arith, n, e, length-append before h.lines)) u' k);
      }

  pub keeping-refused : (c : Cause) → KeepsLine (number + 1) line (Some c) u u' → (count : ℕ) (before : List (List ℕ)) → IsMaking count before begun → read ≡ count + length before
      → (more : List (List ℕ)) → items_from models [] count (before ++ (lines_of text ++ more)) ≡ Err (refused c (number + 1))
  keeping-refused c k count before m e more =
      let n = h.number_is in
      ap (λ ls. items_from models [] count (before ++ ls)) (ap (λ ls. ls ++ more) (h.behind.lines_are ∙ ap (λ ls. h.lines ++ ls) first.lines) ∙ append_assoc h.lines (line ∷ lines_of later) more)
      ∙ ap (items_from models [] count) (sym (append_assoc before h.lines (line ∷ (lines_of later ++ more))))
      ∙ refused-here count (before ++ h.lines) u (h.making count before m e) line (number + 1) (omega (arith, n, e, length-append before h.lines)) c u' k (lines_of later ++ more)

-- where all lines of a text were read, and a block is open
pub keeping-open : (text rest : List ℕ) (read number : ℕ) (begun u : Unfinished Instruction) (fault : Fault) → IsKeepingOn text rest read number begun u → rest ≡ [] → left_open cause.DemBlock u.opened ≡ Some fault
    → (count : ℕ) (before : List (List ℕ)) → IsMaking count before begun → read ≡ count + length before → items_from models [] count (before ++ lines_of text) ≡ Err fault
unfolding lines_of
keeping-open text rest read number begun u fault h none open_is count before m e =
    let all : lines_of text ≡ h.lines = h.behind.lines_are ∙ ap (λ r. h.lines ++ lines_of r) none ∙ append-nil h.lines in
    ap (λ ls. items_from models [] count (before ++ ls)) all ∙ refused-open count (before ++ h.lines) u fault (h.making count before m e) open_is

-- a block is open where one is left open
pub some-open : (opened : List ℕ) (fault : Fault) → left_open cause.DemBlock opened ≡ Some fault → length opened ≡ 0 → ⊥
some-open [] fault e none = absurd cc
some-open (line ∷ opened) fault e none = absurd (omega arith)

-- the items of lines that leave no block open are those of a tree that fits
pub making-written : (count : ℕ) (lines : List (List ℕ)) (items : List Item) → IsMaking count lines (record { items = items; opened = [] }) → IsWritten Fits items
making-written count lines items h =
    lines_are_written Fits models reading_fits count lines items
    (ap (items_from models [] count) (sym (append-nil lines))
    ∙ h.makes []
    ∙ ap (after items) (ended [] (count + length lines))
    ∙ after-ok items []
    ∙ ap (λ (is : List Item). Ok is) (append-nil items))
