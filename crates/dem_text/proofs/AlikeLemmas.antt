-- An error line that begins as one before it, and whose targets were counted from their bytes, is taken.
use Rattle.std.proofs.Common.{◌≡◌, ℕ, Bor, true, false, List, [], ◌∷◌, ◌++◌, ◌<◌, Option, Some, length, length-append, refl, ap, ap₂, subst, sym, ◌∙◌, append_assoc, append-nil, ◌⊎◌, inl, inr, arith}
use Rattle.std.specs.Prelude.{codes, unwrap_or}
use Rattle.std.specs.List.{before_first, list_all, list_any}
use Rattle.stim_lexer.specs.Cut.{Cut}
use Rattle.stim_parser.specs.declared.forms.ArgumentForm.TheVariants.{OneProbability}
use Rattle.stim_parser.specs.Arguments.{arguments_in}
use Rattle.stim_lexer.specs.Texts.{Accepts, line_reading}
use Rattle.stim_parser.specs.Judging.{judged, reading_of, refusal_of}
use Rattle.stim_parser.specs.Limits.{has_wrong_arguments, has_wrong_probability}
use Rattle.stim_parser.specs.Probabilities.{AreProbabilities}
use Rattle.dem_text.specs.declared.operation.Operation.TheVariants.{PauliError}
use Rattle.dem_text.specs.declared.target.Target.{Target}
use Rattle.dem_text.specs.Instructions.{keyword_named}
use Rattle.dem_text.specs.Limits.{are_of_form, has_target_beyond, is_effect}
use Rattle.dem_text.specs.Targets.{targets_in}
use Rattle.dem_text.specs.Verdicts.{model_table}
use Rattle.dem_text.specs.declared.brief.Extent.{Extent}
use Rattle.dem_text.specs.private.ErrorTexts.{AreListed, BeginsWithExtent, BeginsWithTargets, IsExtent, is_quiet}
use Rattle.stim_lexer.specs.FirstLines.{IsFirstLine}
use Rattle.stim_lexer.specs.Lines.{says_nothing}
use Rattle.dem_text.specs.private.Lines.{BeginsWithError, BeginsWithHead, IsErrorLine, IsReading, SaysFirst, instruction_cut, read_targets}
use Rattle.dem_text.specs.Texts.{models}
use Rattle.stim_lexer.specs.declared.said.Said.TheVariants as said
use Rattle.dem_text.specs.private.Tables.{IsKnown}
use Rattle.stim_lexer.specs.Bytes.{from_first, is_close_parenthesis, is_line_feed}
use Rattle.stim_lexer.proofs.ScanLemmas.{lines_of-cut}
use Rattle.stim_parser.proofs.ByteLemmas.{all-where, none-where}
use Rattle.stim_parser.proofs.CutLemmas.{before_first-append, before_first-none, from_first-append}
use Rattle.stim_parser.proofs.LineCutLemmas.{IsCut, arguments_cut, cut_with, is_plain_byte}

abbrev cut_line : List ℕ → List ℕ → Cut
cut_line arguments text = cut_with (codes "error") false arguments text

quiet_is_plain : (b : ℕ) → is_quiet b ≡ true → is_plain_byte b ≡ true
quiet_is_plain b h = grind arith

quiet_not_closing : (b : ℕ) → is_quiet b ≡ true → is_close_parenthesis b ≡ false
quiet_not_closing b h = grind arith

error_cut : (arguments targets : List ℕ) → list_all is_quiet arguments ≡ true → list_all is_quiet targets ≡ true → IsCut (codes "error(" ++ (arguments ++ 41 ∷ targets)) (cut_line arguments targets)
error_cut arguments targets quiet h =
    arguments_cut (codes "error") arguments targets (refl, refl)
    (all-where is_plain_byte is_quiet arguments quiet_is_plain quiet)
    (none-where is_close_parenthesis is_quiet arguments quiet_not_closing quiet)
    (all-where is_plain_byte is_quiet targets quiet_is_plain h)

reading_found : (depth number : ℕ) (arguments text : List ℕ) (targets : List Target) → AreProbabilities OneProbability (arguments_in arguments) → targets_in text ≡ Some targets
    → list_all is_effect targets ≡ true → has_target_beyond targets ≡ false → reading_of model_table depth number (cut_line arguments text) ≡ Accepts (instruction_cut number PauliError (cut_line arguments text))
unfolding reading_of judged refusal_of keyword_named are_of_form
reading_found depth number arguments text targets right read effects within =
    let count : has_wrong_arguments OneProbability (arguments_in arguments) ≡ false = right.1 in
    let probability : has_wrong_probability OneProbability (arguments_in arguments) ≡ false = right.2 in
    rw (read, count, probability, effects, within) refl

known_found : (number : ℕ) (arguments text : List ℕ) (targets : List Target) (extent : Extent) → has_target_beyond targets ≡ false → IsExtent targets extent → read_targets text ≡ targets
    → IsKnown (instruction_cut number PauliError (cut_line arguments text)) extent []
known_found number arguments text targets extent within h read =
    record {
      extent_is = rw read (both extent _ _ h.detectors h.observables);
      numbers_are = refl;
      within = ap has_target_beyond read ∙ within;
      few = omega arith;
      small = λ k d below. absurd (omega (arith, below));
    }
  where
    both : (e : Extent) (d o : ℕ) → e.detectors ≡ d → e.observables ≡ o → e ≡ record { detectors = d; observables = o }
    both e d o f g = ap₂ (λ (x y : ℕ). record { detectors = x; observables = y }) f g

-- the targets of a text that are listed
list_is : (text : List ℕ) (targets : List Target) → AreListed text targets → read_targets text ≡ targets
list_is text targets h = ap (λ (found : Option (List Target)). unwrap_or found []) h.read

module _ (arguments text : List ℕ) (targets : List Target) (quiet : list_all is_quiet arguments ≡ true) (right : AreProbabilities OneProbability (arguments_in arguments)) (h : AreListed text targets) where
  abbrev line : List ℕ
  line = codes "error(" ++ (arguments ++ 41 ∷ text)

  cut : IsCut line (cut_line arguments text)
  cut = error_cut arguments text quiet h.quiet

  taken : (number : ℕ) (opened : List ℕ) → line_reading models opened number line ≡ Accepts (instruction_cut number PauliError (cut_line arguments text))
  taken number opened =
      let good = cut.good in
      rw (good, cut.cut_is) (reading_found (length opened) number arguments text targets right h.read h.effects h.within)

  error_line : (extent : Extent) → IsExtent targets extent → IsErrorLine line extent
  error_line extent x =
      record {
        speaks = record { speaks = cut.speaks; good = cut.good };
        known = λ number. subst (λ (c : Cut). IsKnown (instruction_cut number PauliError c) extent []) (sym cut.cut_is) (known_found number arguments text targets extent h.within x (list_is text targets h));
        listed = (targets, ap (λ (c : Cut). targets_in c.targets) cut.cut_is ∙ h.read);
        taken = λ number opened. taken number opened ∙ ap (λ (c : Cut). Accepts (instruction_cut number PauliError c)) (sym cut.cut_is);
      }

  said_of : (number depth : ℕ) → IsReading depth number line (Accepts (record { line = number; operation = PauliError; arguments = arguments_in arguments; targets = targets }))
  said_of number depth opened same = sym (taken number opened ∙ ap (λ (ts : List Target). Accepts (record { line = number; operation = PauliError; arguments = arguments_in arguments; targets = ts })) (list_is text targets h))

-- the first line of a text that has no line feed, or one after it
first_of : (text line after : List ℕ) → 0 < length line → list_any is_line_feed line ≡ false → ((text ≡ line) × (after ≡ [])) ⊎ (text ≡ line ++ 10 ∷ after) → IsFirstLine text line after
first_of text line after some one (inl e) =
    let cut : before_first is_line_feed line ≡ line = before_first-none is_line_feed line one in
    let past : from_first is_line_feed line ≡ [] = ap (λ xs. from_first is_line_feed xs) (sym (append-nil line)) ∙ from_first-append is_line_feed line [] one in
    rw (e.0, e.1)
    (record {
      lines = lines_of-cut line line [] [] some (sym cut) (sym past) refl;
      cut = sym cut;
      one = one;
      parts = λ more. absurd (omega (arith, more));
      less = some;
    })
first_of text line after some one (inr e) =
    let cut : before_first is_line_feed (line ++ 10 ∷ after) ≡ line = before_first-append is_line_feed line (10 ∷ after) one ∙ append-nil line in
    let long = length-append line (10 ∷ after) in
    rw e
    (record {
      lines = lines_of-cut (line ++ 10 ∷ after) line (10 ∷ after) after (omega (arith, long)) (sym cut) (sym (from_first-append is_line_feed line (10 ∷ after) one)) refl;
      cut = sym cut;
      one = one;
      parts = λ more. refl;
      less = omega (arith, long);
    })

-- a line of no bytes
pub empty-first : (text after : List ℕ) → text ≡ 10 ∷ after → IsFirstLine text [] after
empty-first text after e =
    rw e
    (record {
      lines = lines_of-cut (10 ∷ after) [] (10 ∷ after) after (omega arith) refl refl refl;
      cut = refl;
      one = refl;
      parts = λ more. refl;
      less = omega arith;
    })

pub empty-silent : says_nothing [] ≡ true
unfolding says_nothing
empty-silent = refl

-- the line that begins so
begins_with : (text arguments rest front after : List ℕ) (targets : List Target) → BeginsWithHead text arguments rest → AreListed front targets → ((rest ≡ front) × (after ≡ [])) ⊎ (rest ≡ front ++ 10 ∷ after)
    → IsFirstLine text (codes "error(" ++ (arguments ++ 41 ∷ front)) after
begins_with text arguments rest front after targets head listed parts =
    first_of text (codes "error(" ++ (arguments ++ 41 ∷ front)) after (omega arith) (error_cut arguments front head.quiet listed.quiet).one (by parts)
  where
    by : ((rest ≡ front) × (after ≡ [])) ⊎ (rest ≡ front ++ 10 ∷ after)
        → ((text ≡ codes "error(" ++ (arguments ++ 41 ∷ front)) × (after ≡ [])) ⊎ (text ≡ (codes "error(" ++ (arguments ++ 41 ∷ front)) ++ 10 ∷ after)
    by (inl p) = inl (head.text_is ∙ ap (λ r. codes "error(" ++ (arguments ++ 41 ∷ r)) p.0, p.1)
    by (inr p) = inr (head.text_is ∙ ap (λ r. codes "error(" ++ (arguments ++ 41 ∷ r)) p ∙ ap (λ r. codes "error(" ++ r) (sym (append_assoc arguments (41 ∷ front) (10 ∷ after))))

pub begins_with_error : (text arguments rest after : List ℕ) (extent : Extent) → BeginsWithHead text arguments rest → BeginsWithExtent rest extent after → BeginsWithError text extent after
begins_with_error text arguments rest after extent head h =
    let b = h.begins in
    record {
      line = codes "error(" ++ (arguments ++ 41 ∷ b.front);
      first = begins_with text arguments rest b.front after h.targets head b.listed b.parts;
      error = error_line arguments b.front h.targets head.quiet head.right b.listed extent h.extent_is;
    }

pub begins_with_said : (text rest after : List ℕ) (arguments : Bor (List ℕ)) (targets : List Target) (depth number : ℕ) → BeginsWithHead text arguments.now rest → BeginsWithTargets rest targets after
    → SaysFirst depth number text targets (Some (said.Accepts PauliError arguments)) after
begins_with_said text rest after arguments targets depth number head b =
    record {
      line = codes "error(" ++ (arguments.now ++ 41 ∷ b.front);
      first = begins_with text arguments.now rest b.front after targets head b.listed b.parts;
      says = ((error_cut arguments.now b.front head.quiet b.listed.quiet).speaks, said_of arguments.now b.front targets head.quiet head.right b.listed number depth);
    }
