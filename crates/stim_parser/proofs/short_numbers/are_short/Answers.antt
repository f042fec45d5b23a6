use Rattle.std.proofs.Common.{◌≤◌, map, length, subst, sym, ap, ◌∙◌, arith}
use Rattle.std.specs.List.{slice_split}
use Rattle.std.proofs.lemmas.Bool.{eqb-true}
use Rattle.std.proofs.lemmas.List.{nil_from_length}
use Rattle.stim_parser.specs.Arguments.{is_comma, trimmed}
use Rattle.stim_parser.specs.private.ShortNumbers.{AreShort}
use Rattle.stim_parser.proofs.ShortNumberLemmas.{arguments-none, arguments-some, cuts-first, cuts-last, short-last, short-more}
use Rattle.stim_parser.proofs.short_numbers.are_short.Goals as goal
use Rattle.stim_parser.proofs.short_numbers.are_short.Goals.{Then-is_empty}

pub returns-then-not-has_argument-clause-short : goal.returns-then-not-has_argument-clause-short
returns-then-not-has_argument-clause-short c =
    λ _. subst AreShort (sym (arguments-none c.args.text.now (sym c.has_argument.ensures ∙ c.if-not-has_argument.true))) tt

pub returns-then-not-has_argument-clause-few : goal.returns-then-not-has_argument-clause-few
returns-then-not-has_argument-clause-few c =
    λ _. omega (arith, ap length (arguments-none c.args.text.now (sym c.has_argument.ensures ∙ c.if-not-has_argument.true)))

done : (c : Then-is_empty) → AreShort (map trimmed (slice_split is_comma c.args.text.now)) × (length (map trimmed (slice_split is_comma c.args.text.now)) ≤ 16)
done c =
    let behind = c.in-Some.behind.now in
    let ended = nil_from_length behind (eqb-true (length behind) 0 (sym c.is_empty.ensures ∙ c.if-is_empty.true)) in
    short-last (map trimmed (slice_split is_comma c.args.text.now)) c.loop-read.rest.now c.loop-read.read c.loop-read.invariant
    (cuts-last c.loop-read.rest.now behind c.in-Some.ensures ended) c.loop-read-test.true

pub returns-then-is_empty-clause-short : goal.returns-then-is_empty-clause-short
returns-then-is_empty-clause-short c =
    λ _. subst AreShort (sym (arguments-some c.args.text.now (sym c.has_argument.ensures ∙ c.if-not-has_argument.false))) (done (goal.at.returns-then-is_empty-clause-short c).Then-is_empty).0

pub returns-then-is_empty-clause-few : goal.returns-then-is_empty-clause-few
returns-then-is_empty-clause-few c =
    λ _. omega (arith, ap length (arguments-some c.args.text.now (sym c.has_argument.ensures ∙ c.if-not-has_argument.false)), (done (goal.at.returns-then-is_empty-clause-few c).Then-is_empty).1)

pub loop-read-preserved : goal.loop-read-preserved
loop-read-preserved c =
    short-more (map trimmed (slice_split is_comma c.args.text.now)) _ c.loop-read.rest.now c.loop-read.read c.loop-read.invariant
    (cuts-first c.loop-read.rest.now c.in-Some.behind.now _ c.in-Some.ensures c.in-Some-behind_comma.ensures)
