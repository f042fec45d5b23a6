use Rattle.std.proofs.Common.{◌≡◌, ◌⊎◌, ℕ, ◌+◌, Bool, true, false, List, [], ◌++◌, length, Option, ap₂, subst, sym, ◌∙◌, inl, inr}
use Rattle.std.proofs.lemmas.Bool.{true≢false}
use Rattle.step_model.specs.declared.fault.Cause.{Cause}
use Rattle.stim_lexer.specs.Unfinished.{Unfinished}
use Rattle.dem_text.specs.Texts.{Item}
use Rattle.dem_text.specs.Verdicts.{Instruction}
use Rattle.dem_text.specs.private.Keeping.{KeepsLine}
use Rattle.dem_text.specs.private.Making.{HasKept, IsMaking}
use Rattle.dem_text.proofs.MakingLemmas.{IsKeepingOn, keeping-line, keeping-none, keeping-open, keeping-refused, some-open}
use Rattle.dem_text.proofs.kept.keep_lines.Goals as goal

pub loop-number-init : goal.loop-number-init
loop-number-init g c = record { kept = c.requires.kept; going = keeping-none c.args.text.now c.args.read c.args.keeping.builder.text }

pub returns-in-Some : goal.returns-in-Some
returns-in-Some g c =
    let u = c.loop-number.keeping.builder.text in
    let u' = c.keep_line.new.keeping.builder.text in
    let first = c.in_ok-refused.ensures.line in
    keeping-refused c.args.text.now c.loop-number.rest.now first.line c.in_ok-refused.after.now c.args.read c.loop-number.number c.args.keeping.builder.text u u' c.loop-number.invariant.going first.first c.in-Some.cause
    (subst (λ (o : Option Cause). KeepsLine (c.loop-number.number + 1) first.line o u u') c.in-Some.is first.keeps)

pub loop-number-preserved : goal.loop-number-preserved
loop-number-preserved g c =
    let u = c.loop-number.keeping.builder.text in
    let u' = c.keep_line.new.keeping.builder.text in
    let first = c.in_ok-refused.ensures.line in
    record {
      kept = c.in_ok-refused.ensures.kept;
      going =
          keeping-line c.args.text.now c.loop-number.rest.now first.line c.in_ok-refused.after.now c.args.read c.loop-number.number c.args.keeping.builder.text u u' c.loop-number.invariant.going first.first
          (subst (λ (o : Option Cause). KeepsLine (c.loop-number.number + 1) first.line o u u') c.in_default.is first.keeps);
    }

-- what is kept where no block is open
kept : (text rest : List ℕ) (read number : ℕ) (begun u : Unfinished Instruction) (items : List Item) → IsKeepingOn text rest read number begun u → u.opened ≡ [] → items ≡ u.items
    → (count : ℕ) (before : List (List ℕ)) → IsMaking count before begun → read ≡ count + length before → HasKept count before text read items rest number
kept text rest read number begun u items h none same count before m e =
    record {
      lines = h.lines;
      behind = h.behind;
      read_is = h.number_is;
      making =
          subst (IsMaking count (before ++ h.lines)) (ap₂ (λ (is : List Item) (os : List ℕ). record { items = is; opened = os }) (sym same) none)
          (h.making count before m e);
    }

whole_read : (rest : List ℕ) (whole : Bool) (depth : ℕ) → (rest ≡ []) ⊎ ((whole ≡ false) × (depth ≡ 0)) → whole ≡ true → rest ≡ []
whole_read rest whole depth (inl none) all = none
whole_read rest whole depth (inr p) all = absurd (true≢false (sym all ∙ p.0))

all_read : (rest : List ℕ) (whole : Bool) (depth : ℕ) → (rest ≡ []) ⊎ ((whole ≡ false) × (depth ≡ 0)) → (depth ≡ 0 → ⊥) → rest ≡ []
all_read rest whole depth (inl none) some = none
all_read rest whole depth (inr p) some = absurd (some p.1)

pub returns-in-Ok : goal.returns-in-Ok
returns-in-Ok g c count before m e = (
  kept c.args.text.now c.loop-number.rest.now c.args.read c.loop-number.number c.args.keeping.builder.text c.loop-number.keeping.builder.text c.in-Ok.kept c.loop-number.invariant.going c.in-Ok.ensures.opened c.in-Ok.ensures.items count before m e,
  whole_read c.loop-number.rest.now c.args.whole c.depth.result (c.goes_on.ensures.ended c.loop-number-test.false),
)

pub returns-in-Err : goal.returns-in-Err
returns-in-Err g c =
    let opened = c.loop-number.keeping.builder.text.opened in
    let none = all_read c.loop-number.rest.now c.args.whole c.depth.result (c.goes_on.ensures.ended c.loop-number-test.false) (λ e. some-open opened c.in-Err.fault c.in-Err.ensures.err (sym c.depth.ensures ∙ e)) in
    keeping-open c.args.text.now c.loop-number.rest.now c.args.read c.loop-number.number c.args.keeping.builder.text c.loop-number.keeping.builder.text c.in-Err.fault c.loop-number.invariant.going none c.in-Err.ensures.err
