use Rattle.std.proofs.Common.{ap}
use Rattle.backward.proofs.NumberedLemmas.{still_fits}
use Rattle.backward.proofs.text_store.TextStore.take_text.Goals as goal

pub invariant_of-self : goal.invariant_of-self
invariant_of-self g c =
    let store = c.args.self.now in
    let left = c.take_text.ensures.left in
    record { fits = still_fits store.program.now store.numbers.items store.text c.take_text.new.self store.fits (ap (λ held. held.detectors) left) (ap (λ held. held.targets) left) (ap (λ held. held.texts) left) }
