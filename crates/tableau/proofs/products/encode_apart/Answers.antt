-- Each factor is at a qubit where the product so far has I, so its code is multiplied to that product's.
use Rattle.std.proofs.Common.{◌∷◌, ◌+◌, ◌<◌, false, length, ap, sym, ◌∙◌, subst, arith}
use Rattle.pauli_word.specs.Words.{signed}
use Rattle.tableau.proofs.FirstFactors.{Factor}
use Rattle.tableau.proofs.ProductCodes.{IsCodeSoFar, first_within, rest_within, first_coded, more_size, more_commutes, more_coded, all_coded}
use Rattle.tableau.proofs.products.encode_apart.Given.{Over}
use Rattle.tableau.proofs.products.encode_apart.Goals as goal
use Rattle.tableau.proofs.products.encode_apart.Goals.{In-Some-take_first}

pub set_code-requires-clause-inside : goal.set_code-requires-clause-inside
set_code-requires-clause-inside g c =
    first_within (length c.args.rows.now.items) (g.F.Factors.factors c.args.factors) (c.in-Some.first, c.in-Some.letter) _ c.in-Some.ensures c.requires.within

pub loop-count-init : goal.loop-count-init
loop-count-init g c =
    let rows = c.args.rows.now.items in
    let n = length rows in
    let all = g.F.Factors.factors c.args.factors in
    let rest = g.F.Factors.factors c.take_first.new.self in
    let first : Factor = (c.in-Some.first, c.in-Some.letter) in
    record {
      within = rest_within n all first rest c.in-Some.ensures c.requires.within;
      long = c.set_code.ensures.code;
      coded = subst (λ fs. IsCodeSoFar n rows c.set_code.new.code.0 rest fs 1 c.in-Some.first c.in-Some.first) (sym c.in-Some.ensures) (first_coded n rows c.set_code.new.code.0 first rest c.set_code.ensures.of_letter);
    }

inside : (g : Over) (c : In-Some-take_first g) → c.in-Some-take_first.qubit < length c.args.rows.now.items
inside g c =
    first_within (length c.args.rows.now.items) (g.F.Factors.factors c.loop-count.left) (c.in-Some-take_first.qubit, c.in-Some-take_first.letter) _ c.in-Some-take_first.ensures c.loop-count.invariant.within

-- the code so far, where a factor is taken from those left
before : (g : Over) (c : In-Some-take_first g) → IsCodeSoFar (length c.args.rows.now.items) c.args.rows.now.items c.loop-count.code.0 ((c.in-Some-take_first.qubit, c.in-Some-take_first.letter) ∷ g.F.Factors.factors c.take_first-in-loop-count.new.self) (g.F.Factors.factors c.args.factors) c.loop-count.count c.loop-count.lowest c.loop-count.highest
before g c =
    let rows = c.args.rows.now.items in
    subst (λ left. IsCodeSoFar (length rows) rows c.loop-count.code.0 left (g.F.Factors.factors c.args.factors) c.loop-count.count c.loop-count.lowest c.loop-count.highest) c.in-Some-take_first.ensures c.loop-count.invariant.coded

pub is_apart-requires : goal.is_apart-requires
is_apart-requires g c = c.loop-count.invariant.coded.between

pub index-requires : goal.index-requires
index-requires g c = subst (λ m. c.in-Some-take_first.qubit < m) (sym c.args.rows.now.ok.0) (inside g (goal.at.index-requires g c).In-Some-take_first)

pub multiply-requires-clause-size : goal.multiply-requires-clause-size
multiply-requires-clause-size g c =
    let at = goal.at.multiply-requires-clause-size g c in
    more_size c.args.rows.now.items c.requires.tableau c.loop-count.code.0 (g.F.Factors.factors c.args.factors) c.loop-count.count c.loop-count.lowest c.loop-count.highest (c.in-Some-take_first.qubit, c.in-Some-take_first.letter) _
    (before g at.In-Some-take_first) (inside g at.In-Some-take_first) (c.is_apart.ensures c.if-not-is_apart.false) c.index.result.now c.index.ensures

pub multiply-requires-clause-commuting : goal.multiply-requires-clause-commuting
multiply-requires-clause-commuting g c is_Y =
    let at = goal.at.multiply-requires-clause-commuting g c in
    more_commutes c.args.rows.now.items c.requires.tableau c.loop-count.code.0 (g.F.Factors.factors c.args.factors) c.loop-count.count c.loop-count.lowest c.loop-count.highest (c.in-Some-take_first.qubit, c.in-Some-take_first.letter) _
    (before g at.In-Some-take_first) (inside g at.In-Some-take_first) (c.is_apart.ensures c.if-not-is_apart.false) c.index.result.now c.index.ensures

pub loop-count-preserved : goal.loop-count-preserved
loop-count-preserved g c =
    let at = goal.at.loop-count-preserved g c in
    let rows = c.args.rows.now.items in
    let n = length rows in
    let factor : Factor = (c.in-Some-take_first.qubit, c.in-Some-take_first.letter) in
    let coded : IsCodeSoFar n rows c.multiply.new.word (g.F.Factors.factors c.take_first-in-loop-count.new.self) (g.F.Factors.factors c.args.factors) (c.loop-count.count + 1) c.min-lowest.result c.max-highest.result =
    more_coded c.args.rows.now.items c.requires.tableau c.loop-count.code.0 (g.F.Factors.factors c.args.factors) c.loop-count.count c.loop-count.lowest c.loop-count.highest (c.in-Some-take_first.qubit, c.in-Some-take_first.letter) _
    (before g at.In-Some-take_first) (inside g at.In-Some-take_first) (c.is_apart.ensures c.if-not-is_apart.false) c.index.result.now c.index.ensures
    c.multiply.new.word c.min-lowest.result c.max-highest.result c.multiply.ensures
    (omega (arith, c.min-lowest.ensures)) (omega (arith, c.min-lowest.ensures)) (omega (arith, c.max-highest.ensures)) (omega (arith, c.max-highest.ensures)) in
    record {
      within = rest_within n (g.F.Factors.factors c.loop-count.left) factor _ c.in-Some-take_first.ensures c.loop-count.invariant.within;
      long = record {
        x = ap (λ w. length w.letters) coded.coded ∙ c.requires.tableau.clifford.keeps.size (signed coded.word false) coded.size;
        z = c.loop-count.invariant.long.z;
      };
      coded = coded;
    }

pub returns-in_default-take_first-clause-of_product : goal.returns-in_default-take_first-clause-of_product
returns-in_default-take_first-clause-of_product g c _ =
    let rows = c.args.rows.now.items in
    let all = g.F.Factors.factors c.args.factors in
    all_coded rows c.requires.tableau c.loop-count.code.0 all c.loop-count.count c.loop-count.lowest c.loop-count.highest
    (subst (λ left. IsCodeSoFar (length rows) rows c.loop-count.code.0 left all c.loop-count.count c.loop-count.lowest c.loop-count.highest) c.in_default-take_first.ensures c.loop-count.invariant.coded)
