use Rattle.std.proofs.Common.{ℕ, length, get_or, sym, ap, subst, ◌∙◌}
use Rattle.gate_table.specs.WordImages.{image_at}
use Rattle.pauli_word.specs.declared.letter.Letter.{Letter}
use Rattle.pauli_word.specs.declared.letter.Letter.TheVariants.{Z}
use Rattle.pauli_word.specs.Words.{Signed, letter_at, with_sign_changed}
use Rattle.pauli_word.proofs.LowestLetters.{lowest-clash}
use Rattle.tableau.specs.private.CliffordMaps.{twisted}
use Rattle.tableau.specs.private.Encoding.{HasLength}
use Rattle.tableau.specs.private.EncodingSteps.{IsPivot, collapsed_at, lone, mapped, outcome_at, turning_gate}
use Rattle.tableau.proofs.PairWords.{pair_long}
use Rattle.tableau.proofs.RowClashes.{clashes_told}
use Rattle.tableau.proofs.TwistRows.{turned_size}
use Rattle.tableau.proofs.collapse.collapse_code.Goals as goal

pub letter-letter-requires : goal.letter-letter-requires
letter-letter-requires g c = (lowest-clash c.args.code.now.0.letters c.in-Some.qubit (sym c.lowest_x_or_y.ensures ∙ c.in-Some.is)).0

pub set_pivot-requires-clause-inside : goal.set_pivot-requires-clause-inside
set_pivot-requires-clause-inside g c = (lowest-clash c.args.code.now.0.letters c.in-Some.qubit (sym c.lowest_x_or_y.ensures ∙ c.in-Some.is)).0

pub turn_rows-requires-clause-sizes : goal.turn_rows-requires-clause-sizes
turn_rows-requires-clause-sizes g c k d h =
    subst (λ m. HasLength m (get_or c.args.rows.now.items k d)) (sym (c.set_pivot.ensures.pivot.rest_size ∙ c.requires.code.x))
    (pair_long c.args.rows.now.items c.requires.tableau k d h)

pub turn_rows-requires-clause-clashes : goal.turn_rows-requires-clause-clashes
turn_rows-requires-clause-clashes g c =
    clashes_told c.args.rows.now.items c.requires.tableau c.args.word.now.letters c.requires.word c.args.code.now.0 c.requires.of_word
    c.in-Some.qubit (lowest-clash c.args.code.now.0.letters c.in-Some.qubit (sym c.lowest_x_or_y.ensures ∙ c.in-Some.is)).0
    c.letter-letter.result c.letter-letter.ensures c.args.coin c.set_pivot.new.code.0 c.set_pivot.ensures.rest
    (length c.set_pivot.new.code.0.letters) (c.set_pivot.ensures.pivot.rest_size ∙ c.requires.code.x)

pub returns-in-Some-clause-code : goal.returns-in-Some-clause-code
returns-in-Some-clause-code g c =
    record {
      x = c.set_pivot.ensures.pivot.rest_size ∙ c.requires.code.x;
      z = turned_size (length c.args.code.now.0.letters) c.in-Some.qubit c.set_pivot.new.code c.set_pivot.ensures.pivot ∙ c.requires.code.x;
    }

pub set_pivot-requires-clause-size : goal.set_pivot-requires-clause-size
set_pivot-requires-clause-size g c = subst (λ m. HasLength m c.args.code.now) (sym c.requires.code.x) c.requires.code

pub turn_rows-requires-clause-word : goal.turn_rows-requires-clause-word
turn_rows-requires-clause-word g c = c.requires.word

pub turn_rows-requires-clause-pivot : goal.turn_rows-requires-clause-pivot
turn_rows-requires-clause-pivot g c =
    let pivot = c.set_pivot.ensures.pivot in
    subst (λ m. IsPivot m c.in-Some.qubit c.set_pivot.new.code) (sym pivot.rest_size) pivot

pub returns-in-Some-clause-row : goal.returns-in-Some-clause-row
returns-in-Some-clause-row g c = sym (sym c.lowest_x_or_y.ensures ∙ c.in-Some.is)

pub returns-in-Some-clause-outcome : goal.returns-in-Some-clause-outcome
returns-in-Some-clause-outcome g c =
    sym (ap (λ o. outcome_at o c.args.code.now.0 c.args.coin) (sym c.lowest_x_or_y.ensures ∙ c.in-Some.is))

pub returns-in-None-clause-rows : goal.returns-in-None-clause-rows
returns-in-None-clause-rows g c =
    let rows = c.args.rows.now.items in
    let changed = with_sign_changed c.args.coin c.args.code.now.0 in
    sym (ap (λ o. collapsed_at (length rows) o changed rows) (sym c.lowest_x_or_y.ensures ∙ c.in-None.is))

pub returns-in-None-clause-row : goal.returns-in-None-clause-row
returns-in-None-clause-row g c = sym (sym c.lowest_x_or_y.ensures ∙ c.in-None.is)

pub returns-in-None-clause-outcome : goal.returns-in-None-clause-outcome
returns-in-None-clause-outcome g c =
    c.sign.ensures ∙ sym (ap (λ o. outcome_at o c.args.code.now.0 c.args.coin) (sym c.lowest_x_or_y.ensures ∙ c.in-None.is))

pub returns-in-Some-clause-rows : goal.returns-in-Some-clause-rows
returns-in-Some-clause-rows g c =
    let rows = c.args.rows.now.items in
    let old = c.args.code.now.0 in
    let new = c.set_pivot.new.code.0 in
    let k = c.in-Some.qubit in
    c.turn_rows.ensures
    ∙ ap (λ (a : Letter). mapped (λ v. image_at (turning_gate a) k (twisted (lone (length new.letters) k Z) new v)) rows) c.letter-letter.ensures
    ∙ ap (λ (n : ℕ). mapped (λ v. image_at (turning_gate (letter_at old.letters k)) k (twisted (lone n k Z) new v)) rows) (c.set_pivot.ensures.pivot.rest_size ∙ c.requires.code.x)
    ∙ ap (λ (y : Signed). mapped (λ v. image_at (turning_gate (letter_at old.letters k)) k (twisted (lone (length rows) k Z) y v)) rows) c.set_pivot.ensures.rest
    ∙ sym (ap (λ o. collapsed_at (length rows) o (with_sign_changed c.args.coin old) rows) (sym c.lowest_x_or_y.ensures ∙ c.in-Some.is))
