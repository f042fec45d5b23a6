use Rattle.std.proofs.Common.{length, ap, sym, ◌∙◌}
use Rattle.pauli_word.specs.Parity.{exclusive_or}
use Rattle.tableau.proofs.LettersPut.{letter_put}
use Rattle.tableau.proofs.PivotLetters.{letter_kept, letter_turned}
use Rattle.tableau.proofs.TwistRows.{turned_size, across_commuting, across_clashing, along_clashing, along_commuting, multiplied_size, multiplied_turned_size}
use Rattle.tableau.proofs.collapse.twist.Goals as goal

pub times-requires-else-anticommutes : goal.times-requires-else-anticommutes
times-requires-else-anticommutes g c = c.requires.size ∙ sym (turned_size (length c.args.code.now.0.letters) c.args.qubit c.args.code.now c.requires.pivot)

pub returns-then-anticommutes-clause-twisted : goal.returns-then-anticommutes-clause-twisted
returns-then-anticommutes-clause-twisted g c =
    let clash = c.requires.clashes ∙ ap (exclusive_or c.args.clashes) (sym c.clashes.ensures) in
    letter_put c.times.new.self c.args.qubit c.args.here
    (letter_kept (length c.args.code.now.0.letters) c.args.qubit c.args.code.now c.requires.pivot c.args.row.now c.times.new.self c.requires.size c.times.ensures.product c.args.here c.requires.here)
    ∙ (c.times.ensures.product ∙ across_clashing (length c.args.code.now.0.letters) c.args.qubit c.args.code.now c.requires.pivot c.args.row.now c.requires.size c.args.clashes c.clashes.result clash c.if-anticommutes.true c.args.here c.requires.here c.in-X.is)

pub returns-then-anticommutes-clause-size : goal.returns-then-anticommutes-clause-size
returns-then-anticommutes-clause-size g c = ap (λ t. length t.letters) c.times.ensures.product ∙ multiplied_size (length c.args.code.now.0.letters) c.args.qubit c.args.code.now c.requires.pivot c.args.row.now c.requires.size

pub returns-else-anticommutes-clause-twisted : goal.returns-else-anticommutes-clause-twisted
returns-else-anticommutes-clause-twisted g c =
    let clash = c.requires.clashes ∙ ap (exclusive_or c.args.clashes) (sym c.clashes.ensures) in
    letter_put c.times-else-anticommutes.new.self c.args.qubit c.times-else-anticommutes-2.result
    (letter_turned (length c.args.code.now.0.letters) c.args.qubit c.args.code.now c.requires.pivot c.args.row.now c.times-else-anticommutes.new.self c.requires.size
    (turned_size (length c.args.code.now.0.letters) c.args.qubit c.args.code.now c.requires.pivot) c.times-else-anticommutes.ensures.product c.args.here c.requires.here c.times-else-anticommutes-2.result c.times-else-anticommutes-2.ensures)
    ∙ (c.times-else-anticommutes.ensures.product ∙ across_commuting (length c.args.code.now.0.letters) c.args.qubit c.args.code.now c.requires.pivot c.args.row.now c.requires.size c.args.clashes c.clashes.result clash c.if-anticommutes.false c.args.here c.requires.here c.in-X.is)

pub returns-else-anticommutes-clause-size : goal.returns-else-anticommutes-clause-size
returns-else-anticommutes-clause-size g c = ap (λ t. length t.letters) c.times-else-anticommutes.ensures.product ∙ multiplied_turned_size (length c.args.code.now.0.letters) c.args.qubit c.args.code.now c.requires.pivot c.args.row.now c.requires.size

pub returns-then-anticommutes-2-clause-twisted : goal.returns-then-anticommutes-2-clause-twisted
returns-then-anticommutes-2-clause-twisted g c =
    let clash = c.requires.clashes ∙ ap (exclusive_or c.args.clashes) (sym c.clashes.ensures) in
    along_clashing (length c.args.code.now.0.letters) c.args.qubit c.args.code.now c.requires.pivot c.args.row.now c.requires.size c.args.clashes c.clashes.result clash c.if-anticommutes-2.true c.args.here c.requires.here c.in_default.not-X c.in_default.not-Y c.times-then-anticommutes-2.result c.times-then-anticommutes-2.ensures

pub returns-else-anticommutes-2-clause-twisted : goal.returns-else-anticommutes-2-clause-twisted
returns-else-anticommutes-2-clause-twisted g c =
    let clash = c.requires.clashes ∙ ap (exclusive_or c.args.clashes) (sym c.clashes.ensures) in
    letter_put c.args.row.now c.args.qubit c.args.here c.requires.here
    ∙ along_commuting (length c.args.code.now.0.letters) c.args.qubit c.args.code.now c.requires.pivot c.args.row.now c.requires.size c.args.clashes c.clashes.result clash c.if-anticommutes-2.false c.args.here c.requires.here c.in_default.not-X c.in_default.not-Y
