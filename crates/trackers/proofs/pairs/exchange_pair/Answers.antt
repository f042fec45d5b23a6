use Rattle.std.proofs.Common.{◌≡◌, List, [], map, length, set, get_or, get_or-set_other, ap, ap₂, sym, ◌∙◌}
use Rattle.std.proofs.lemmas.List.{get_or_default}
use Rattle.std.proofs.lemmas.Result.{on_ok_weaker}
use Rattle.pauli_word.specs.declared.letter.Letter.{Letter}
use Rattle.trackers.specs.private.Transposed.{combined}
use Rattle.trackers.proofs.ExchangeLemmas.{swapped_of, written_over}
use Rattle.trackers.proofs.pairs.exchange_pair.Goals as goal

pub become_image-requires-clause-other : goal.become_image-requires-clause-other
become_image-requires-clause-other g c =
    let swapped = swapped_of (length (g.S.TargetSet.bits c.args.spare.now)) c.args.a c.args.b c.args.columns.now c.swap.new.self (c.swap.ensures.by_index.3 []) c.requires.places c.requires.long in
    c.requires.other ∙ sym (swapped.first_long c.index-columns-a.result)

pub become_image-requires-clause-spare : goal.become_image-requires-clause-spare
become_image-requires-clause-spare g c =
    let swapped = swapped_of (length (g.S.TargetSet.bits c.args.spare.now)) c.args.a c.args.b c.args.columns.now c.swap.new.self (c.swap.ensures.by_index.3 []) c.requires.places c.requires.long in
    sym (swapped.first_long c.index-columns-a.result)

pub become_image-requires-2-clause-other : goal.become_image-requires-2-clause-other
become_image-requires-2-clause-other g c =
    let swapped = swapped_of (length (g.S.TargetSet.bits c.args.spare.now)) c.args.a c.args.b c.args.columns.now c.swap.new.self (c.swap.ensures.by_index.3 []) c.requires.places c.requires.long in
    c.become_image.ensures.other ∙ (c.requires.other ∙ sym (swapped.second_long c.become_image.new.self c.index-columns-b.result))

pub become_image-requires-2-clause-spare : goal.become_image-requires-2-clause-spare
become_image-requires-2-clause-spare g c =
    let swapped = swapped_of (length (g.S.TargetSet.bits c.args.spare.now)) c.args.a c.args.b c.args.columns.now c.swap.new.self (c.swap.ensures.by_index.3 []) c.requires.places c.requires.long in
    c.become_image.ensures.spare ∙ sym (swapped.second_long c.become_image.new.self c.index-columns-b.result)

pub returns-in_err-become_image-clause-long : goal.returns-in_err-become_image-clause-long
returns-in_err-become_image-clause-long g c =
    let swapped = swapped_of (length (g.S.TargetSet.bits c.args.spare.now)) c.args.a c.args.b c.args.columns.now c.swap.new.self (c.swap.ensures.by_index.3 []) c.requires.places c.requires.long in
    swapped.once_long c.become_image.new.self (c.become_image.ensures.len ∙ swapped.first_long c.index-columns-a.result)

pub returns-clause-long : goal.returns-clause-long
returns-clause-long g c =
    let swapped = swapped_of (length (g.S.TargetSet.bits c.args.spare.now)) c.args.a c.args.b c.args.columns.now c.swap.new.self (c.swap.ensures.by_index.3 []) c.requires.places c.requires.long in
    swapped.both_long c.become_image.new.self c.become_image-2.new.self
    (c.become_image.ensures.len ∙ swapped.first_long c.index-columns-a.result)
    (c.become_image-2.ensures.len ∙ swapped.second_long c.become_image.new.self c.index-columns-b.result)

pub returns-clause-columns : goal.returns-clause-columns
returns-clause-columns g c =
    let columns = c.args.columns.now in
    let a = c.args.a in
    let b = c.args.b in
    let x = c.become_image.new.self in
    let y = c.become_image-2.new.self in
    let by = c.swap.ensures.by_index in
    let whole = by.3 [] in
    let first : get_or c.swap.new.self a c.index-columns-a.result ≡ get_or columns b [] = by.0 _ ∙ get_or_default columns b _ [] c.requires.places.second in
    let second : get_or (set c.swap.new.self a x) b c.index-columns-b.result ≡ get_or columns a [] =
    get_or-set_other c.swap.new.self a b x _ (λ e. c.requires.places.differ (sym e)) ∙ (by.1 _ ∙ get_or_default columns a _ [] c.requires.places.first) in
    let made = c.in_ok-become_image.ensures.ok ∙ ap (map (combined c.args.to_first.0 c.args.to_first.1)) first in
    on_ok_weaker c.become_image-2.result
    (λ h.
    ap (λ (l : List (List Letter)). set (set l a x) b y) whole
    ∙ (written_over columns a b (get_or columns b []) (get_or columns a []) x y c.requires.places.differ
    ∙ ap₂ (λ p q. set (set columns a p) b q) made (h ∙ ap (map (combined c.args.to_second.0 c.args.to_second.1)) second)))
    c.become_image-2.ensures.ok
