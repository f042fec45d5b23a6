use Rattle.std.proofs.Common.{rules}
use Rattle.std.proofs.lemmas.Slice.Eq.{slice_eq-Decides}
use Rattle.forward_sim.proofs.word_table.is_same.Goals as goal

pub returns : goal.returns
returns c e = (slice_eq-Decides (λ a b. (search rules, search rules)) c.args.word.now c.args.other.now c.eq.result c.eq.ensures).0 e
