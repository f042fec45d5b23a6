-- The gate takes the images of the letters at both qubits; the rows are put together from these products, and the others stay.
use Rattle.std.proofs.Common.{◌<◌, length, set, ap₂, sym, subst, ◌∙◌, get_or-set_other}
use Rattle.pauli_word.specs.declared.letter.Letter.TheVariants.{I, X, Z}
use Rattle.tableau.specs.private.Encoding.{HasLength}
use Rattle.tableau.proofs.NewSizes.{two_size}
use Rattle.tableau.proofs.PairWords.{pair_size, first_made, second_made, two_commute}
use Rattle.tableau.proofs.gates.make_anew.Given.{Over}
use Rattle.tableau.proofs.gates.make_anew.Goals as goal
use Rattle.tableau.proofs.gates.make_anew.Goals.{After-index_mut-2, After-set_products-2}

pub index-requires : goal.index-requires
index-requires g c = subst (λ m. c.args.a < m) (sym c.args.rows.now.ok.0) c.requires.first_inside

pub index-requires-2 : goal.index-requires-2
index-requires-2 g c = subst (λ m. c.args.b < m) (sym c.args.rows.now.ok.0) c.requires.second_inside

pub index-requires-3 : goal.index-requires-3
index-requires-3 g c = subst (λ m. c.args.a < m) (sym c.args.rows.now.ok.0) c.requires.first_inside

pub index-requires-4 : goal.index-requires-4
index-requires-4 g c = subst (λ m. c.args.b < m) (sym c.args.rows.now.ok.0) c.requires.second_inside

pub index_mut-requires : goal.index_mut-requires
index_mut-requires g c = subst (λ m. c.args.a < m) (sym c.args.rows.now.ok.0) c.requires.first_inside

pub set_products-requires-clause-arity : goal.set_products-requires-clause-arity
set_products-requires-clause-arity g c = c.requires.arity

pub set_products-requires-clause-new : goal.set_products-requires-clause-new
set_products-requires-clause-new g c = subst (λ m. HasLength m c.args.first.now) (sym c.requires.first.x) c.requires.first

pub set_products-requires-2-clause-arity : goal.set_products-requires-2-clause-arity
set_products-requires-2-clause-arity g c = c.requires.arity

pub set_products-requires-2-clause-new : goal.set_products-requires-2-clause-new
set_products-requires-2-clause-new g c = subst (λ m. HasLength m c.args.second.now) (sym c.requires.second.x) c.requires.second

pub set_products-requires-clause-first : goal.set_products-requires-clause-first
set_products-requires-clause-first g c =
    subst (λ m. HasLength m c.index.result.now) (sym c.requires.first.x)
    (pair_size c.args.rows.now.items c.requires.tableau c.args.a c.index.result.now c.requires.first_inside c.index.ensures)

pub set_products-requires-clause-second : goal.set_products-requires-clause-second
set_products-requires-clause-second g c =
    subst (λ m. HasLength m c.index-2.result.now) (sym c.requires.first.x)
    (pair_size c.args.rows.now.items c.requires.tableau c.args.b c.index-2.result.now c.requires.second_inside c.index-2.ensures)

pub set_products-requires-clause-commuting : goal.set_products-requires-clause-commuting
set_products-requires-clause-commuting g c = two_commute c.args.rows.now.items c.requires.tableau c.args.gate c.args.a c.args.b c.requires.first_inside c.requires.second_inside c.requires.differ c.index.result.now c.index-2.result.now c.index.ensures c.index-2.ensures (length c.args.first.now.0.letters) c.requires.first.x

pub set_products-requires-2-clause-first : goal.set_products-requires-2-clause-first
set_products-requires-2-clause-first g c =
    subst (λ m. HasLength m c.index-3.result.now) (sym c.requires.second.x)
    (pair_size c.args.rows.now.items c.requires.tableau c.args.a c.index-3.result.now c.requires.first_inside c.index-3.ensures)

pub set_products-requires-2-clause-second : goal.set_products-requires-2-clause-second
set_products-requires-2-clause-second g c =
    subst (λ m. HasLength m c.index-4.result.now) (sym c.requires.second.x)
    (pair_size c.args.rows.now.items c.requires.tableau c.args.b c.index-4.result.now c.requires.second_inside c.index-4.ensures)

pub set_products-requires-2-clause-commuting : goal.set_products-requires-2-clause-commuting
set_products-requires-2-clause-commuting g c = two_commute c.args.rows.now.items c.requires.tableau c.args.gate c.args.a c.args.b c.requires.first_inside c.requires.second_inside c.requires.differ c.index-3.result.now c.index-4.result.now c.index-3.ensures c.index-4.ensures (length c.args.second.now.0.letters) c.requires.second.x

-- the pairs made are as long as the rows
first_long : (g : Over) (c : After-set_products-2 g) → HasLength (length c.args.rows.now.items) c.set_products.new.new
first_long g c =
    two_size (length c.args.rows.now.items) (length c.args.first.now.0.letters) c.args.gate c.index.result.now c.index-2.result.now c.set_products.new.new (X, I) (Z, I) c.requires.first.x
    (pair_size c.args.rows.now.items c.requires.tableau c.args.a c.index.result.now c.requires.first_inside c.index.ensures)
    (pair_size c.args.rows.now.items c.requires.tableau c.args.b c.index-2.result.now c.requires.second_inside c.index-2.ensures) c.set_products.ensures

second_long : (g : Over) (c : After-set_products-2 g) → HasLength (length c.args.rows.now.items) c.set_products-2.new.new
second_long g c =
    two_size (length c.args.rows.now.items) (length c.args.second.now.0.letters) c.args.gate c.index-3.result.now c.index-4.result.now c.set_products-2.new.new (I, X) (I, Z) c.requires.second.x
    (pair_size c.args.rows.now.items c.requires.tableau c.args.a c.index-3.result.now c.requires.first_inside c.index-3.ensures)
    (pair_size c.args.rows.now.items c.requires.tableau c.args.b c.index-4.result.now c.requires.second_inside c.index-4.ensures) c.set_products-2.ensures

pub replace-requires-clause-x : goal.replace-requires-clause-x
replace-requires-clause-x g c =
    (pair_size c.args.rows.now.items c.requires.tableau c.args.a c.index_mut.result.now c.requires.first_inside c.index_mut.ensures.value).x
    ∙ sym (first_long g (goal.at.replace-requires-clause-x g c).After-set_products-2).x

pub replace-requires-clause-z : goal.replace-requires-clause-z
replace-requires-clause-z g c =
    (pair_size c.args.rows.now.items c.requires.tableau c.args.a c.index_mut.result.now c.requires.first_inside c.index_mut.ensures.value).z
    ∙ sym (first_long g (goal.at.replace-requires-clause-z g c).After-set_products-2).z

-- the second row, as it was before the first was replaced
second_there : (g : Over) (c : After-index_mut-2 g) → HasLength (length c.args.rows.now.items) c.index_mut-2.result.now
second_there g c =
    pair_size c.args.rows.now.items c.requires.tableau c.args.b c.index_mut-2.result.now c.requires.second_inside
    (c.index_mut-2.ensures.value ∙ get_or-set_other c.args.rows.now.items c.args.a c.args.b c.replace.new.pair c.index_mut-2.result.now (λ e. c.requires.differ (sym e)))

pub replace-requires-2-clause-x : goal.replace-requires-2-clause-x
replace-requires-2-clause-x g c =
    let at = goal.at.replace-requires-2-clause-x g c in
    (second_there g at.After-index_mut-2).x ∙ sym (second_long g at.After-set_products-2).x

pub replace-requires-2-clause-z : goal.replace-requires-2-clause-z
replace-requires-2-clause-z g c =
    let at = goal.at.replace-requires-2-clause-z g c in
    (second_there g at.After-index_mut-2).z ∙ sym (second_long g at.After-set_products-2).z

pub returns-clause-rows : goal.returns-clause-rows
returns-clause-rows g c =
    ap₂ (λ x y. set (set c.args.rows.now.items c.args.a x) c.args.b y)
    (c.replace.ensures ∙ first_made c.args.rows.now.items c.requires.tableau c.args.gate c.args.a c.args.b c.requires.first_inside c.requires.second_inside c.requires.differ c.index.result.now c.index-2.result.now c.index.ensures c.index-2.ensures (length c.args.first.now.0.letters) c.requires.first.x c.set_products.new.new c.set_products.ensures)
    (c.replace-2.ensures ∙ second_made c.args.rows.now.items c.requires.tableau c.args.gate c.args.a c.args.b c.requires.first_inside c.requires.second_inside c.requires.differ c.index-3.result.now c.index-4.result.now c.index-3.ensures c.index-4.ensures (length c.args.second.now.0.letters) c.requires.second.x c.set_products-2.new.new c.set_products-2.ensures)

pub returns-clause-first : goal.returns-clause-first
returns-clause-first g c = first_long g (goal.at.returns-clause-first g c).After-set_products-2

pub returns-clause-second : goal.returns-clause-second
returns-clause-second g c = second_long g (goal.at.returns-clause-second g c).After-set_products-2
