use Rattle.backward.proofs.NumberedLemmas.{number_of_chance}
use Rattle.backward.proofs.text_store.TextStore.text_number.Goals as goal

pub returns-clause-within : goal.returns-clause-within
returns-clause-within g c =
    let store = c.args.self.now in
    (number_of_chance store.program.now store.numbers.items store.text c.args.chance c.index.result.now store.fits c.requires c.index.ensures).0

pub returns-clause-named : goal.returns-clause-named
returns-clause-named g c =
    let store = c.args.self.now in
    (number_of_chance store.program.now store.numbers.items store.text c.args.chance c.index.result.now store.fits c.requires c.index.ensures).1
