use Rattle.std.proofs.lemmas.Result.{on_ok_weaker}
use Rattle.step_model.specs.Chances.{chance_at}
use Rattle.backward.proofs.HeldLines.{one_line_more}
use Rattle.backward.proofs.NumberedLemmas.{still_fits}
use Rattle.backward.proofs.text_store.TextStoreLineStore.give.Goals as goal

pub invariant_of-self : goal.invariant_of-self
invariant_of-self g c =
    let store = c.args.self.now in
    record { fits = still_fits store.program.now store.numbers.items store.text c.put_line.new.self store.fits c.put_line.ensures.detectors c.put_line.ensures.targets c.put_line.ensures.texts }

pub returns-clause-holds : goal.returns-clause-holds
returns-clause-holds g c = on_ok_weaker c.put_line.result (one_line_more c.args.self.now.text c.put_line.new.self c.text_number-number.result (chance_at c.args.self.now.program.now.chances c.args.chance).text c.args.targets.now c.put_line.ensures.detectors c.text_number-number.ensures.named) c.put_line.ensures.ok
