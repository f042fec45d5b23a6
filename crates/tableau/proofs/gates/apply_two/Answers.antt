use Rattle.std.proofs.Common.{length, drop, get_or, set, ap, sym, subst, ◌∙◌}
use Rattle.std.proofs.lemmas.List.{get_or_default}
use Rattle.pauli_word.specs.Groups.{identity_word}
use Rattle.tableau.specs.private.ControlledSteps.{CanControl, after_controlled}
use Rattle.tableau.specs.private.Encoding.{Pair}
use Rattle.tableau.specs.private.EncodingSteps.{after_two}
use Rattle.tableau.proofs.ControlledRows.{controlled_rows, written_back}
use Rattle.tableau.proofs.PairWords.{exchanged}
use Rattle.tableau.proofs.gates.apply_two.Goals as goal

pub apply_controlled-requires-clause-rows : goal.apply_controlled-requires-clause-rows
apply_controlled-requires-clause-rows g c =
    subst (CanControl c.args.a c.args.b) (sym c.as_mut_slice-in-Some.ensures.value)
    (record { first_inside = c.requires.first_inside; second_inside = c.requires.second_inside; differ = c.requires.differ; tableau = c.requires.tableau })

pub returns-in-Some-clause-first : goal.returns-in-Some-clause-first
returns-in-Some-clause-first g c = c.requires.first

pub returns-in-Some-clause-second : goal.returns-in-Some-clause-second
returns-in-Some-clause-second g c = c.requires.second

pub returns-in-Some-clause-rows : goal.returns-in-Some-clause-rows
returns-in-Some-clause-rows g c =
    let rows = c.args.rows.now.items in
    let new = c.apply_controlled.new.rows in
    written_back new (drop (length new) rows) c.args.rows.now.len (c.apply_controlled.auto.rows ∙ c.as_mut_slice-in-Some.ensures.len)
    ∙ (c.apply_controlled.ensures
    ∙ (ap (after_controlled c.in-Some.letters.0 c.in-Some.letters.1 c.args.a c.args.b) c.as_mut_slice-in-Some.ensures.value
    ∙ controlled_rows rows c.requires.tableau c.args.gate c.in-Some.letters.0 c.in-Some.letters.1 c.in-Some.ensures
    c.args.a c.args.b c.requires.first_inside c.requires.second_inside c.requires.differ))

pub returns-in-Swap-clause-rows : goal.returns-in-Swap-clause-rows
returns-in-Swap-clause-rows g c =
    let rows = c.args.rows.now.items in
    let new = c.swap.new.self in
    let a = c.args.a in
    let b = c.args.b in
    let none : Pair = (identity_word (length rows), identity_word (length rows)) in
    written_back new (drop (length new) rows) c.args.rows.now.len (c.swap.ensures.len ∙ c.as_mut_slice.ensures.len)
    ∙ (c.swap.ensures.by_index.3 none
    ∙ (ap (λ l. set (set l a (get_or l b none)) b (get_or l a none)) c.as_mut_slice.ensures.value
    ∙ (exchanged rows c.requires.tableau a b c.requires.first_inside c.requires.second_inside c.requires.differ (get_or rows a none) (get_or rows b none)
    (get_or_default rows a none (get_or rows a none) c.requires.first_inside) (get_or_default rows b none (get_or rows b none) c.requires.second_inside)
    ∙ sym (ap (λ g. after_two (length rows) g a b rows) c.in-Swap.is))))
