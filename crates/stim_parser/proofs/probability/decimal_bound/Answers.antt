use Rattle.std.proofs.Common.{◌≡◌, ◌+◌, ◌∙◌, sym, ap, Bool, true, false, length, refl, arith}
use Rattle.std.specs.Prelude.{if◌then◌else◌}
use Rattle.std.proofs.lemmas.Bool.{eq-eqb, ne_eqb}
use Rattle.stim_parser.specs.private.Decimals.{decimal_in}
use Rattle.stim_parser.proofs.SignificantLemmas.{bound-read}
use Rattle.stim_parser.proofs.probability.decimal_bound.Goals as goal
use Rattle.stim_parser.proofs.probability.decimal_bound.Goals.{then-parts, else-parts}

pub returns-then-read-eq0-clause-value : goal.returns-then-read-eq0-clause-value
returns-then-read-eq0-clause-value c =
    let read = c.significant_of-read in
    sym (bound-read (decimal_in c.args.parts) read.result _ _ read.ensures.value refl refl
    ∙ rw (eq-eqb read.result.length 0 c.if-read-eq0.true) refl)

pub returns-clause-value : goal.returns-clause-value
returns-clause-value c =
    let read = c.significant_of-read in
    let parts = c.args.parts in
    let negative_up : (b : Bool) → parts.negative ≡ b → read.result.zeros + (if parts.negative then 0 else parts.exponent) ≡ read.result.zeros + (if b then 0 else parts.exponent) =
    λ b e. ap (λ n. read.result.zeros + (if n then 0 else parts.exponent)) e in
    let negative_down : (b : Bool) → parts.negative ≡ b → length parts.fraction.now + (if parts.negative then parts.exponent else 0) ≡ length parts.fraction.now + (if b then parts.exponent else 0) =
    λ b e. ap (λ n. length parts.fraction.now + (if n then parts.exponent else 0)) e in
    let up : c.if-parts.up ≡ read.result.zeros + (if parts.negative then 0 else parts.exponent) =
    elim c.if-parts.branch [
      | then-parts w ↦ let e = negative_up true w.if-parts.true in omega (arith, w.up-is, e)
      | else-parts w ↦ let e = negative_up false w.if-parts.false in omega (arith, w.up-is, e)
    ] in
    let down : c.if-parts.down ≡ length parts.fraction.now + (if parts.negative then parts.exponent else 0) =
    elim c.if-parts.branch [
      | then-parts w ↦ let e = negative_down true w.if-parts.true in omega (arith, w.down-is, e)
      | else-parts w ↦ let e = negative_down false w.if-parts.false in omega (arith, w.down-is, e)
    ] in
    c.scaled_bound.ensures.value
    ∙ sym (bound-read (decimal_in parts) read.result _ _ read.ensures.value up down
    ∙ rw (ne_eqb read.result.length 0 c.if-read-eq0.false) refl)
