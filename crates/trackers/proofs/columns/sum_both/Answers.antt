use Rattle.std.proofs.Common.{length, map, sym, ap, ◌∙◌}
use Rattle.std.proofs.lemmas.List.{length-map}
use Rattle.std.proofs.lemmas.Option.{IfSome_then}
use Rattle.pauli_word.specs.declared.letter.Letter.TheVariants.{Y}
use Rattle.pauli_word.specs.Letters.{letters_clash}
use Rattle.trackers.proofs.LengthLemmas.{same_long}
use Rattle.trackers.proofs.LoneTerms.{pair_hit}
use Rattle.trackers.proofs.columns.sum_both.Goals as goal

pub returns-then-is_y-2-clause-sum : goal.returns-then-is_y-2-clause-sum
returns-then-is_y-2-clause-sum g c =
    let first = c.args.first.now in
    let second = c.args.second.now in
    let p = map (letters_clash Y) c.index-columns-first.result in
    let q = map (letters_clash Y) c.index-columns-second.result in
    IfSome_then c.sum_clashing_y.result c.sum_clashing_y.ensures.sum
    (λ len h. h
    ∙ pair_hit c.args.columns.now first second _ _ _ _ p q c.requires.first_in_range c.requires.second_in_range c.requires.same c.index-columns-first.is c.index-columns-second.is
    (ap (λ letter. map (letters_clash letter) c.index-columns-first.result) (sym (c.is_y.ensures c.if-is_y.true)))
    (ap (λ letter. map (letters_clash letter) c.index-columns-second.result) (sym (c.is_y-then-is_y.ensures c.if-is_y-2.true))))

pub returns-in-Some-Some-clause-sum : goal.returns-in-Some-Some-clause-sum
returns-in-Some-Some-clause-sum g c =
    let first = c.args.first.now in
    let second = c.args.second.now in
    let p = g.S.TargetSet.bits c.in-Some-Some.one.now in
    let q = g.S.TargetSet.bits c.in-Some-Some.other.now in
    IfSome_then c.sum_few.result c.sum_few.ensures.sum
    (λ len h. h
    ∙ pair_hit c.args.columns.now first second _ _ _ _ p q c.requires.first_in_range c.requires.second_in_range c.requires.same c.index-columns-first.is c.index-columns-second.is c.in-Some-Some.ensures c.in-Some-Some.ensures')

-- both columns have a letter for each target
pub sum_clashing_y-requires : goal.sum_clashing_y-requires
sum_clashing_y-requires g c =
    same_long c.args.columns.now _ _ _ _ _ _ c.requires.first_in_range c.requires.second_in_range c.requires.same c.index-columns-first.is c.index-columns-second.is

pub sum_few-requires : goal.sum_few-requires
sum_few-requires g c =
    ap length c.in-Some-Some.ensures ∙ length-map c.index-columns-first.result (letters_clash c.args.first.now.letter)
    ∙ (same_long c.args.columns.now _ _ _ _ _ _ c.requires.first_in_range c.requires.second_in_range c.requires.same c.index-columns-first.is c.index-columns-second.is
    ∙ sym (ap length c.in-Some-Some.ensures' ∙ length-map c.index-columns-second.result (letters_clash c.args.second.now.letter)))
