-- One word was taken for each fault, and then one for each collapse.
use Rattle.std.proofs.Common.{◌≡◌, length, sym, ap, ap₂, ◌∙◌}
use Rattle.std.proofs.lemmas.List.{length-map, take_at}
use Rattle.forward_sim.specs.Drawn.{after_words, drawn_coins, drawn_faults}
use Rattle.forward_sim.proofs.WordLemmas.{after_words-add}
use Rattle.forward_sim.proofs.drawing.draw.Goals as goal

pub returns-clause-taken : goal.returns-clause-taken
returns-clause-taken g c =
    let program = c.args.program.now.listing in
    let bounds : length c.in_ok-bounds.bounds.items ≡ length program.faults = ap length c.in_ok-bounds.ensures ∙ length-map program.faults _ in
    let coins : length c.in_ok-coins.coins.items ≡ program.collapses = sym c.in_ok-coins.coins.ok.0 ∙ (c.in_ok-coins.ensures.len ∙ c.collapse_count.ensures) in
    c.draw_coins.ensures.taken
    ∙ (ap₂ after_words (ap length c.deref_mut-2.ensures.value ∙ coins) (c.draw_faults.ensures.taken ∙ ap (λ n. after_words n c.args.rng.now) (ap length c.as_slice.ensures.value ∙ bounds))
    ∙ sym (after_words-add (length program.faults) program.collapses c.args.rng.now))

pub draw_faults-requires : goal.draw_faults-requires
draw_faults-requires g c = c.deref_mut.ensures.len ∙ (c.in_ok-faults.ensures.len ∙ (c.len.ensures ∙ sym c.as_slice.ensures.len))

pub returns-clause-faults : goal.returns-clause-faults
returns-clause-faults g c =
    take_at c.draw_faults.new.faults _ c.in_ok-faults.faults.len (c.draw_faults.auto.faults ∙ c.deref_mut.ensures.len)
    ∙ (c.draw_faults.ensures.faults ∙ ap (λ bounds. drawn_faults bounds c.args.rng.now) (c.as_slice.ensures.value ∙ c.in_ok-bounds.ensures))

pub returns-clause-coins : goal.returns-clause-coins
returns-clause-coins g c =
    let program = c.args.program.now.listing in
    let bounds : length c.in_ok-bounds.bounds.items ≡ length program.faults = ap length c.in_ok-bounds.ensures ∙ length-map program.faults _ in
    take_at c.draw_coins.new.coins _ c.in_ok-coins.coins.len (c.draw_coins.auto.coins ∙ c.deref_mut-2.ensures.len)
    ∙ (c.draw_coins.ensures.coins
    ∙ ap₂ drawn_coins (c.deref_mut-2.ensures.len ∙ (c.in_ok-coins.ensures.len ∙ c.collapse_count.ensures))
    (c.draw_faults.ensures.taken ∙ ap (λ n. after_words n c.args.rng.now) (ap length c.as_slice.ensures.value ∙ bounds)))
