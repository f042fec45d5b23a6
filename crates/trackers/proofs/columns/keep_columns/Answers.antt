use Rattle.std.proofs.Common.{◌≡◌, ◌<◌, ◌≤◌, ◌++◌, [], List, ℕ, length, get_or, take, ap, ap₂, subst, sym, ◌∙◌, arith}
use Rattle.std.proofs.lemmas.List.{get_or_default, take_all, take_more}
use Rattle.pauli_word.specs.declared.letter.Letter.{Letter}
use Rattle.trackers.specs.private.Transposed.{lists_of, lists_of_each}
use Rattle.trackers.proofs.KeptLemmas.{lists_of_more}
use Rattle.trackers.proofs.columns.keep_columns.Goals as goal

pub loop-column-preserved : goal.loop-column-preserved
loop-column-preserved g c =
    let columns = c.args.columns.now in
    let i = c.loop-column.column-index in
    let within : i < length columns = omega (arith, c.loop-column-test.true) in
    let item : c.column-item.result ≡ get_or columns i [] = c.column-item.is ∙ get_or_default columns i _ [] within in
    c.in_ok-keep.ensures
    ∙ (ap₂ (λ (lists : List (List ℕ)) (column : List Letter). lists ++ lists_of column) c.loop-column.invariant item
    ∙ (sym (lists_of_more (take i columns) (get_or columns i [])) ∙ ap lists_of_each (sym (take_more columns i [] within))))

pub keep-requires : goal.keep-requires
keep-requires g c =
    let columns = c.args.columns.now in
    let i = c.loop-column.column-index in
    let within : i < length columns = omega (arith, c.loop-column-test.true) in
    let item : c.column-item.result ≡ get_or columns i [] = c.column-item.is ∙ get_or_default columns i _ [] within in
    subst (λ (column : List Letter). length column ≤ 4294967296) (sym item) (c.requires i [] within)

pub returns : goal.returns
returns g c =
    c.loop-column.invariant ∙ ap lists_of_each (take_all c.loop-column.column-index c.args.columns.now (omega (arith, c.loop-column-test.false)))
