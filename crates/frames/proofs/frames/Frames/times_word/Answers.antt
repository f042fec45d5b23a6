-- First by Z at its qubits, and then by X at those.
use Rattle.std.proofs.Common.{length, sym, subst}
use Rattle.pauli_word.specs.declared.letter.Letter.TheVariants.{X, Z}
use Rattle.step_model.specs.WellFormed.{TermsFit}
use Rattle.forward_sim.specs.References.{terms_at}
use Rattle.frames.proofs.LaneFrameLaws.{fit_back, fit_front, times-both}
use Rattle.frames.proofs.frames.Frames.times_word.Goals as goal

pub times_at-requires : goal.times_at-requires
times_at-requires g c =
    fit_back (length c.args.self.now.letters) (terms_at X c.args.word.xs.now) (terms_at Z c.args.word.zs.now) c.requires

pub times_at-requires-2 : goal.times_at-requires-2
times_at-requires-2 g c =
    let xs = terms_at X c.args.word.xs.now in
    subst (λ n. TermsFit n xs) (sym c.times_at.ensures.qubits)
    (fit_front (length c.args.self.now.letters) xs (terms_at Z c.args.word.zs.now) c.requires)

pub returns : goal.returns
returns g c =
    times-both (terms_at X c.args.word.xs.now) (terms_at Z c.args.word.zs.now) c.args.runs c.args.self.now c.times_at.new.self c.times_at-2.new.self c.times_at.ensures c.times_at-2.ensures
