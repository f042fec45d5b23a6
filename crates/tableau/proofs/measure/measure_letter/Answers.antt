use Rattle.std.proofs.Common.{◌≡◌, ◌<◌, length, get_or, refl, ap, sym, subst, ◌∙◌}
use Rattle.pauli_word.specs.declared.letter.Letter.TheVariants.{Z}
use Rattle.pauli_word.specs.Words.{lone_letter, product, with_sign_changed}
use Rattle.pauli_word.proofs.LoneLetters.{length-lone_letter}
use Rattle.pauli_word.proofs.LowestLetters.{lowest-clash}
use Rattle.tableau.specs.declared.waiting_turns.Origin.{Origin}
use Rattle.tableau.specs.private.Encoding.{HasLength, pair_at}
use Rattle.tableau.specs.private.EncodingSteps.{lone, TurnsAt}
use Rattle.tableau.proofs.PairWords.{pair_long}
use Rattle.tableau.proofs.RowClashes.{turns_told}
use Rattle.tableau.proofs.Turns.{product_size}
use Rattle.tableau.proofs.WaitingLaws.{measured_alone}
use Rattle.tableau.proofs.measure.measure_letter.Given.{Over}
use Rattle.tableau.proofs.measure.measure_letter.Goals as goal
use Rattle.tableau.proofs.measure.measure_letter.Goals.{In-Some, After-set_turn}

inside : (g : Over) (c : In-Some g) → c.in-Some.pivot < length c.args.code.now.0.letters
inside g c = (lowest-clash c.args.code.now.0.letters c.in-Some.pivot (sym c.lowest_x_or_y.ensures ∙ c.in-Some.is)).0

-- the turn is as long as the rows
long : (g : Over) (c : After-set_turn g) → length c.set_turn.new.code.1.letters ≡ length c.args.rows.now.items
long g c =
    let m = length c.args.code.now.0.letters in
    ap (λ w. length w.letters) c.set_turn.ensures.second
    ∙ (product_size m (lone m c.in-Some.pivot Z) (with_sign_changed c.args.coin c.args.code.now.0) (length-lone_letter m c.in-Some.pivot Z) refl ∙ c.requires.code.x)

pub set_turn-requires-clause-inside : goal.set_turn-requires-clause-inside
set_turn-requires-clause-inside g c = inside g (goal.at.set_turn-requires-clause-inside g c).In-Some

pub turn_rows_by_letter-requires-clause-inside : goal.turn_rows_by_letter-requires-clause-inside
turn_rows_by_letter-requires-clause-inside g c =
    let at = goal.at.turn_rows_by_letter-requires-clause-inside g c in
    subst (λ m. c.in-Some.pivot < m) (c.requires.code.x ∙ sym (long g at.After-set_turn)) (inside g at.In-Some)

pub turn_rows_by_letter-requires-clause-sizes : goal.turn_rows_by_letter-requires-clause-sizes
turn_rows_by_letter-requires-clause-sizes g c k d h =
    subst (λ m. HasLength m (get_or c.args.rows.now.items k d)) (sym (long g (goal.at.turn_rows_by_letter-requires-clause-sizes g c).After-set_turn))
    (pair_long c.args.rows.now.items c.requires.tableau k d h)

pub turn_rows_by_letter-requires-clause-clashes : goal.turn_rows_by_letter-requires-clause-clashes
turn_rows_by_letter-requires-clause-clashes g c =
    let at = goal.at.turn_rows_by_letter-requires-clause-clashes g c in
    λ i h.
    let n = length c.args.rows.now.items in
    let origin : Origin = record { pivot = c.in-Some.pivot; qubit = c.args.qubit; letter = c.args.letter } in
    subst (λ b. TurnsAt b c.in-Some.pivot c.set_turn.new.code.1 (pair_at (length c.set_turn.new.code.1.letters) c.args.rows.now.items i)) (measured_alone n i origin c.requires.inside)
    (turns_told c.args.rows.now.items c.requires.tableau (lone_letter n c.args.qubit c.args.letter) (length-lone_letter n c.args.qubit c.args.letter) c.args.code.now.0 c.requires.of_letter
    c.in-Some.pivot (subst (λ m. c.in-Some.pivot < m) c.requires.code.x (inside g at.In-Some)) c.args.coin c.set_turn.new.code.1
    (c.set_turn.ensures.second ∙ ap (λ m. product (lone m c.in-Some.pivot Z) (with_sign_changed c.args.coin c.args.code.now.0)) c.requires.code.x)
    (length c.set_turn.new.code.1.letters) (long g at.After-set_turn) i h)

pub returns-clause-code : goal.returns-clause-code
returns-clause-code g c =
    record {
      x = ap (λ w. length w.letters) c.set_turn.ensures.first ∙ c.requires.code.x;
      z = long g (goal.at.returns-clause-code g c).After-set_turn;
    }
