-- The pair of the qubit is copied and turned, and the letter's code is made of the copy.
use Rattle.std.proofs.Common.{◌≡◌, ◌<◌, length, get_or, refl, ap, sym, subst, ◌∙◌}
use Rattle.pauli_word.specs.declared.letter.Letter.TheVariants.{Z}
use Rattle.pauli_word.specs.Words.{product, with_sign_changed}
use Rattle.pauli_word.proofs.LoneLetters.{length-lone_letter}
use Rattle.pauli_word.proofs.LowestLetters.{lowest-clash}
use Rattle.tableau.specs.private.Encoding.{HasLength}
use Rattle.tableau.specs.private.EncodingSteps.{lone}
use Rattle.tableau.specs.Rows.{row_count}
use Rattle.tableau.proofs.KeptRows.{inside, kept_size}
use Rattle.tableau.proofs.PairWords.{pair_size}
use Rattle.tableau.proofs.Turns.{product_size}
use Rattle.tableau.proofs.WaitingMeasurements.{code_size, decided, random, ready_read, turned_long}
use Rattle.tableau.proofs.tableau.Tableau.measure_after.Given.{Over}
use Rattle.tableau.proofs.tableau.Tableau.measure_after.Goals as goal
use Rattle.tableau.proofs.tableau.Tableau.measure_after.Goals.{After-index, After-replace, After-turn_pair_by_all, After-set_word, After-set_turn}

here : (g : Over) (c : After-index g) → c.args.qubit < length c.self.inside.rows.items
here g c = inside c.self.inside.rows.items c.args.self.now c.self.invariant.0 c.self.view_is c.args.qubit c.requires.inside

long : (g : Over) (c : After-index g) → HasLength (length c.self.inside.rows.items) c.index.result.now
long g c = pair_size c.self.inside.rows.items c.self.invariant.0 c.args.qubit c.index.result.now (here g c) c.index.ensures

copied : (g : Over) (c : After-replace g) → c.replace.new.pair ≡ get_or c.self.inside.rows.items c.args.qubit c.replace.new.pair
copied g c = subst (λ r. r ≡ get_or c.self.inside.rows.items c.args.qubit r) (sym c.replace.ensures) c.index.ensures

pub index-requires : goal.index-requires
index-requires g c = subst (λ m. c.args.qubit < m) (sym (c.self.inside.rows.ok.0)) (inside c.self.inside.rows.items c.args.self.now c.self.invariant.0 c.self.view_is c.args.qubit c.requires.inside)

pub replace-requires-clause-x : goal.replace-requires-clause-x
replace-requires-clause-x g c = c.self.invariant.2.x ∙ sym (long g (goal.at.replace-requires-clause-x g c).After-index).x

pub replace-requires-clause-z : goal.replace-requires-clause-z
replace-requires-clause-z g c = c.self.invariant.2.z ∙ sym (long g (goal.at.replace-requires-clause-z g c).After-index).z

pub turn_pair_by_all-requires : goal.turn_pair_by_all-requires
turn_pair_by_all-requires g c =
    let at = goal.at.turn_pair_by_all-requires g c in
    ready_read c.self.inside.rows.items c.args.self.now c.self.invariant.0 c.self.view_is c.args.turns.now c.requires.turns c.args.qubit (here g at.After-index) c.replace.new.pair (copied g at.After-replace)

-- the copy, turned
turned_copy : (g : Over) (c : After-turn_pair_by_all g) → HasLength (length c.self.inside.rows.items) c.turn_pair_by_all.new.pair
turned_copy g c =
    turned_long c.self.inside.rows.items c.args.self.now c.self.invariant.0 c.self.view_is c.args.turns.now c.requires.turns c.args.qubit (inside c.self.inside.rows.items c.args.self.now c.self.invariant.0 c.self.view_is c.args.qubit c.requires.inside)
    c.replace.new.pair (subst (λ r. r ≡ get_or c.self.inside.rows.items c.args.qubit r) (sym c.replace.ensures) c.index.ensures) c.turn_pair_by_all.new.pair c.turn_pair_by_all.ensures

pub set_word-requires : goal.set_word-requires
set_word-requires g c =
    subst (λ m. HasLength m c.turn_pair_by_all.new.pair) (sym c.self.invariant.1.x) (turned_copy g (goal.at.set_word-requires g c).After-turn_pair_by_all)

code_long : (g : Over) (c : After-set_word g) → length c.set_word.new.word.letters ≡ length c.self.inside.rows.items
code_long g c =
    code_size c.self.inside.rows.items c.args.self.now c.self.invariant.0 c.self.view_is c.args.turns.now c.requires.turns c.args.qubit (inside c.self.inside.rows.items c.args.self.now c.self.invariant.0 c.self.view_is c.args.qubit c.requires.inside) c.args.letter c.args.coin
    c.replace.new.pair (subst (λ r. r ≡ get_or c.self.inside.rows.items c.args.qubit r) (sym c.replace.ensures) c.index.ensures) c.turn_pair_by_all.new.pair c.turn_pair_by_all.ensures (length c.self.inside.first.0.letters) c.self.invariant.1.x c.set_word.new.word c.set_word.ensures

pub invariant_of-self : goal.invariant_of-self
invariant_of-self g c =
    let at = goal.at.invariant_of-self g c in
    (c.self.invariant.0, record { x = code_long g at.After-set_word; z = c.self.invariant.1.z }, turned_copy g at.After-turn_pair_by_all)

pub set_turn-requires-clause-inside : goal.set_turn-requires-clause-inside
set_turn-requires-clause-inside g c = (lowest-clash c.set_word.new.word.letters c.in-Some.pivot (sym c.lowest_x_or_y.ensures ∙ c.in-Some.is)).0

pub set_turn-requires-clause-size : goal.set_turn-requires-clause-size
set_turn-requires-clause-size g c = record { x = refl; z = c.self.invariant.1.z ∙ sym (code_long g (goal.at.set_turn-requires-clause-size g c).After-set_word) }

-- the turn
turn_is : (g : Over) (c : After-set_turn g) → length c.set_word.new.word.letters ≡ length c.self.inside.rows.items → c.set_turn.new.code.1 ≡ product (lone (length c.self.inside.rows.items) c.in-Some.pivot Z) (with_sign_changed c.args.coin c.set_word.new.word)
turn_is g c code = c.set_turn.ensures.second ∙ ap (λ m. product (lone m c.in-Some.pivot Z) (with_sign_changed c.args.coin c.set_word.new.word)) code

turn_long : (g : Over) (c : After-set_turn g) → length c.set_word.new.word.letters ≡ length c.self.inside.rows.items → length c.set_turn.new.code.1.letters ≡ length c.self.inside.rows.items
turn_long g c code =
    ap (λ w. length w.letters) (turn_is g c code)
    ∙ product_size (length c.self.inside.rows.items) (lone (length c.self.inside.rows.items) c.in-Some.pivot Z) (with_sign_changed c.args.coin c.set_word.new.word)
    (length-lone_letter (length c.self.inside.rows.items) c.in-Some.pivot Z) code

here_count : (g : Over) (c : After-index g) → length c.self.inside.rows.items ≡ row_count c.args.self.now
here_count g c = kept_size c.self.inside.rows.items c.args.self.now c.self.invariant.0 c.self.view_is

pub copy_from-requires : goal.copy_from-requires
copy_from-requires g c =
    let at = goal.at.copy_from-requires g c in
    c.requires.size ∙ sym (turn_long g at.After-set_turn (code_long g at.After-set_word) ∙ here_count g at.After-index)

pub invariant_of-self-in-Some : goal.invariant_of-self-in-Some
invariant_of-self-in-Some g c =
    let at = goal.at.invariant_of-self-in-Some g c in (
      c.self.invariant.0,
      record { x = ap (λ w. length w.letters) c.set_turn.ensures.first ∙ code_long g at.After-set_word; z = turn_long g at.After-set_turn (code_long g at.After-set_word) },
      turned_copy g at.After-turn_pair_by_all,
    )

pub returns-in-None-clause-measures : goal.returns-in-None-clause-measures
returns-in-None-clause-measures g c =
    let at = goal.at.returns-in-None-clause-measures g c in
    decided c.self.inside.rows.items c.args.self.now c.self.invariant.0 c.self.view_is c.args.turns.now c.requires.turns c.args.qubit (here g at.After-index) c.args.letter c.args.coin
    c.replace.new.pair (copied g at.After-replace) c.turn_pair_by_all.new.pair c.turn_pair_by_all.ensures (length c.self.inside.first.0.letters) c.self.invariant.1.x c.set_word.new.word c.set_word.ensures
    (sym c.lowest_x_or_y.ensures ∙ c.in-None.is) c.sign.result c.sign.ensures

pub returns-in-Some-clause-size : goal.returns-in-Some-clause-size
returns-in-Some-clause-size g c =
    let at = goal.at.returns-in-Some-clause-size g c in
    ap (λ w. length w.letters) c.copy_from.ensures ∙ (turn_long g at.After-set_turn (code_long g at.After-set_word) ∙ here_count g at.After-index)

pub returns-in-Some-clause-measures : goal.returns-in-Some-clause-measures
returns-in-Some-clause-measures g c =
    let at = goal.at.returns-in-Some-clause-measures g c in
    random c.self.inside.rows.items c.args.self.now c.self.invariant.0 c.self.view_is c.args.turns.now c.requires.turns c.args.qubit (here g at.After-index) c.args.letter c.args.coin
    c.replace.new.pair (copied g at.After-replace) c.turn_pair_by_all.new.pair c.turn_pair_by_all.ensures (length c.self.inside.first.0.letters) c.self.invariant.1.x c.set_word.new.word c.set_word.ensures
    c.in-Some.pivot (sym c.lowest_x_or_y.ensures ∙ c.in-Some.is) (c.copy_from.new.self, record { pivot = c.in-Some.pivot; qubit = c.args.qubit; letter = c.args.letter })
    (c.copy_from.ensures ∙ turn_is g at.After-set_turn (code_long g at.After-set_word)) refl
