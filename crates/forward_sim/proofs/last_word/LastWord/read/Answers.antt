-- The qubits with X come behind their number, and then those with Z.
use Rattle.std.proofs.Common.{◌≡◌, ◌≤◌, ◌+◌, ◌-◌, ◌++◌, suc, length, length-set, set, take, ap, sym, ◌∙◌, arith}
use Rattle.std.proofs.lemmas.List.{length-take-le}
use Rattle.pauli_word.specs.declared.letter.Letter.TheVariants.{X, Z}
use Rattle.tableau.specs.Rows.{stabilizer_at}
use Rattle.forward_sim.specs.private.Kept.{WordRead, clashing, terms_listed}
use Rattle.forward_sim.proofs.ListedWords.{listed_parts, written}
use Rattle.forward_sim.proofs.last_word.LastWord.read.Goals as goal

pub returns-clause-read : goal.returns-clause-read
returns-clause-read g c =
    let w = (stabilizer_at c.args.tableau.now c.args.row).letters in
    let lists = c.list_letters-xs_end in
    let numbers = c.as_mut_slice-numbers in
    let word = c.self.inside in
    let xs_end = lists.result.0 in
    let count = xs_end - 1 in
    let zs_count = lists.result.1 in
    let room : word.qubits ≡ c.args.self.now.room = ap (λ (read : WordRead). read.room) c.self.view_is in
    let long : length numbers.result.now ≡ word.numbers.len = numbers.ensures.len in
    let within : xs_end ≤ length lists.new.xs = omega (arith, lists.ensures.xs_end, lists.ensures.xs_length, long, word.numbers.ok.0, c.self.invariant.0, c.requires.room, room) in
    let some : 1 ≤ length numbers.result.now = omega (arith, long, word.numbers.ok.0, c.self.invariant.0) in
    let next : xs_end ≡ suc count = omega (arith, lists.ensures.start) in
    let zs : take zs_count c.deref.result.now ≡ clashing X 0 w =
    ap (take zs_count) (c.deref.ensures.value ∙ written word.zs.len lists.new.zs word.zs.items (lists.ensures.zs_length ∙ c.as_mut_slice.ensures.len)) ∙ lists.ensures.zs in
    let all : length (take zs_count c.deref.result.now) ≡ zs_count =
    length-take-le zs_count c.deref.result.now (omega (arith, lists.ensures.zs_end, c.deref.ensures.len, word.zs.ok.0, c.self.invariant.3, c.requires.room, room)) in
    ap (λ list. terms_listed (take (xs_end + zs_count) list))
    (written word.numbers.len c.append.new.numbers word.numbers.items (c.append.ensures.length ∙ length-set lists.new.xs 0 count ∙ lists.ensures.xs_length ∙ long))
    ∙ ap (λ k. terms_listed (take (xs_end + k) c.append.new.numbers)) (sym all)
    ∙ ap terms_listed c.append.ensures.listed
    ∙ ap (λ list. terms_listed (take xs_end (set lists.new.xs 0 count) ++ list)) zs
    ∙ listed_parts numbers.result.now lists.new.xs xs_end count (clashing Z 0 w) (clashing X 0 w) next within some lists.ensures.xs
