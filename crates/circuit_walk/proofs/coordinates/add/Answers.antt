-- Each place in turn has its sum, which fits, and the places behind it are as they were.
use Rattle.std.proofs.Common.{◌≡◌, ◌<◌, ◌+ℤ◌, ℤ, pos, List, length, get_or, set, to_z, of_z, w64, sym, ap, ◌∙◌, arith}
use Rattle.std.proofs.lemmas.Int.{ints}
use Rattle.circuit_walk.proofs.AddedNumbers.{added-enough, added-none, added-read, added-step}
use Rattle.circuit_walk.proofs.coordinates.add.Goals as goal

pub loop-j-init : goal.loop-j-init
loop-j-init c = sym (added-none c.args.numbers.now)

pub overflow_add-numbers : goal.overflow_add-numbers
overflow_add-numbers c =
    let zs = c.args.numbers.now in
    let ms = c.args.more.now in
    let j = c.loop-j.j in
    let low : j < length zs = omega (arith, c.min-j-end.ensures) in
    let inside : j < length ms = omega (arith, c.min-j-end.ensures) in
    let read : get_or c.loop-j.numbers j (pos 0) ≡ get_or zs j (pos 0) = ap (λ (xs : List ℤ). get_or xs j (pos 0)) c.loop-j.invariant ∙ added-read zs ms j (pos 0) in
    let room = c.requires.room j (pos 0) low in
    let more = c.requires.more j (pos 0) inside in
    omega (arith, ints, read, room, more)

pub loop-j-preserved : goal.loop-j-preserved
loop-j-preserved c =
    let zs = c.args.numbers.now in
    let ms = c.args.more.now in
    let j = c.loop-j.j in
    let low : j < length zs = omega (arith, c.min-j-end.ensures) in
    let inside : j < length ms = omega (arith, c.min-j-end.ensures) in
    let read : get_or c.loop-j.numbers j (pos 0) ≡ get_or zs j (pos 0) = ap (λ (xs : List ℤ). get_or xs j (pos 0)) c.loop-j.invariant ∙ added-read zs ms j (pos 0) in
    let room = c.requires.room j (pos 0) low in
    let more = c.requires.more j (pos 0) inside in
    let sum : to_z w64 (of_z w64 (to_z w64 (of_z w64 (get_or c.loop-j.numbers j (pos 0))) +ℤ to_z w64 (of_z w64 (get_or ms j (pos 0))))) ≡ get_or zs j (pos 0) +ℤ get_or ms j (pos 0) =
    omega (arith, ints, read, room, more) in
    ap (λ (z : ℤ). set c.loop-j.numbers j z) sum
    ∙ ap (λ (xs : List ℤ). set xs j (get_or zs j (pos 0) +ℤ get_or ms j (pos 0))) c.loop-j.invariant
    ∙ added-step zs ms j (pos 0) low inside

pub returns-clause-added : goal.returns-clause-added
returns-clause-added c =
    c.loop-j.invariant ∙ added-enough c.args.numbers.now c.args.more.now c.loop-j.j (omega (arith, c.min-j-end.ensures))
