-- The letter is read from the pair of its qubit, by its bits.
use Rattle.std.proofs.Common.{◌≡◌, ◌<◌, Bool, true, false, length, refl, ap, sym, subst, ◌∙◌}
use Rattle.pauli_word.specs.Bits.{letter_of}
use Rattle.pauli_word.specs.declared.letter.Letter.TheVariants.{X, Z}
use Rattle.pauli_word.specs.Letters.{letters_clash}
use Rattle.pauli_word.specs.Words.{letter_at}
use Rattle.tableau.proofs.DecodeLoop.{stabilizer_read}
use Rattle.tableau.proofs.KeptRows.{inside, stabilizer_letters}
use Rattle.tableau.proofs.PairWords.{pair_size}
use Rattle.tableau.proofs.tableau.Tableau.stabilizer_clashes.Goals as goal

pub index-requires : goal.index-requires
index-requires g c = subst (λ m. c.args.qubit < m) (sym c.self.inside.rows.ok.0) (inside c.self.inside.rows.items c.args.self.now c.self.invariant.0 c.self.view_is c.args.qubit c.requires.qubit)

pub stabilizer_clashes-requires-clause-x : goal.stabilizer_clashes-requires-clause-x
stabilizer_clashes-requires-clause-x g c =
    let rows = c.self.inside.rows.items in
    let at : c.args.qubit < length rows = inside rows c.args.self.now c.self.invariant.0 c.self.view_is c.args.qubit c.requires.qubit in
    subst (λ m. c.args.row < m) (sym (pair_size rows c.self.invariant.0 c.args.qubit c.index.result.now at c.index.ensures).x)
    (inside rows c.args.self.now c.self.invariant.0 c.self.view_is c.args.row c.requires.row)

pub stabilizer_clashes-requires-clause-z : goal.stabilizer_clashes-requires-clause-z
stabilizer_clashes-requires-clause-z g c =
    let rows = c.self.inside.rows.items in
    let at : c.args.qubit < length rows = inside rows c.args.self.now c.self.invariant.0 c.self.view_is c.args.qubit c.requires.qubit in
    subst (λ m. c.args.row < m) (sym (pair_size rows c.self.invariant.0 c.args.qubit c.index.result.now at c.index.ensures).z)
    (inside rows c.args.self.now c.self.invariant.0 c.self.view_is c.args.row c.requires.row)

clashes_with_Z : (x z : Bool) → letters_clash (letter_of x z) Z ≡ x
clashes_with_Z false false = refl
clashes_with_Z true false = refl
clashes_with_Z true true = refl
clashes_with_Z false true = refl

clashes_with_X : (x z : Bool) → letters_clash (letter_of x z) X ≡ z
clashes_with_X false false = refl
clashes_with_X true false = refl
clashes_with_X true true = refl
clashes_with_X false true = refl

pub returns : goal.returns
returns g c =
    let rows = c.self.inside.rows.items in
    let at : c.args.qubit < length rows = inside rows c.args.self.now c.self.invariant.0 c.self.view_is c.args.qubit c.requires.qubit in
    let row : c.args.row < length rows = inside rows c.args.self.now c.self.invariant.0 c.self.view_is c.args.row c.requires.row in
    let x = c.stabilizer_clashes.result.0 in
    let z = c.stabilizer_clashes.result.1 in
    let letter =
    ap (λ letters. letter_at letters c.args.qubit) (stabilizer_letters rows c.args.self.now c.self.invariant.0 c.self.view_is c.args.row row)
    ∙ stabilizer_read rows c.self.invariant.0 c.args.row row c.args.qubit c.index.result.now (letter_of x z) at c.index.ensures c.stabilizer_clashes.ensures in
    record {
      z = sym (ap (λ l. letters_clash l Z) letter ∙ clashes_with_Z x z);
      x = sym (ap (λ l. letters_clash l X) letter ∙ clashes_with_X x z);
    }
