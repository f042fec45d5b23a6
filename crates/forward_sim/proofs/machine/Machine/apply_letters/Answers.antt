-- Each letter goes from the word that is left into the state.
use Rattle.std.proofs.Common.{◌<◌, true, sym, subst, ◌∙◌}
use Rattle.circuit_walk.specs.Letters.{letters_in}
use Rattle.pauli_word.specs.States.{applied}
use Rattle.pauli_word.specs.Words.{lone_letter}
use Rattle.step_model.specs.Listing.{word_of_terms}
use Rattle.forward_sim.specs.private.Machines.{qubit_count, run_of}
use Rattle.forward_sim.specs.SameRuns.{HoldSame}
use Rattle.forward_sim.proofs.TermWords.{AppliesRest, applied_more, applied_all, fewer, first_fits, rest_fits}
use Rattle.forward_sim.proofs.machine.Machine.apply_letters.Goals as goal

pub apply_letter-requires : goal.apply_letter-requires
apply_letter-requires g c =
    let n = qubit_count c.args.self.now in
    subst (λ k. c.in-Some.term.qubit < k) (sym c.loop-term.invariant.qubits)
    (first_fits n (letters_in c.loop-term.left) c.in-Some.term (letters_in c.in-Some.rest) c.in-Some.ensures.letters c.loop-term.invariant.fit)

pub loop-term-smaller : goal.loop-term-smaller
loop-term-smaller g c =
    fewer (qubit_count c.args.self.now) (letters_in c.loop-term.left) c.in-Some.term (letters_in c.in-Some.rest) c.in-Some.ensures.letters

pub loop-term-preserved : goal.loop-term-preserved
loop-term-preserved g c =
    let before = c.loop-term.self in
    let after = c.apply_letter.new.self in
    let n = qubit_count c.args.self.now in
    let term = c.in-Some.term in
    let left = letters_in c.loop-term.left in
    let rest = letters_in c.in-Some.rest in
    let whole = applied true (word_of_terms n (letters_in c.args.letters)) (run_of c.args.self.now).state in
    let one : HoldSame n (run_of after).state (applied true (lone_letter n term.qubit term.letter) (run_of before).state) =
    subst (λ k. HoldSame k (run_of after).state (applied true (lone_letter k term.qubit term.letter) (run_of before).state)) c.loop-term.invariant.qubits c.apply_letter.ensures.run.state in
    record {
      small = c.in-Some.ensures.small;
      fit = rest_fits n left term rest c.in-Some.ensures.letters c.loop-term.invariant.fit;
      qubits = c.apply_letter.ensures.qubits ∙ c.loop-term.invariant.qubits;
      rest = applied_more n term rest (run_of before).state (run_of after).state whole one (subst (λ ts. AppliesRest n ts (run_of before).state whole) c.in-Some.ensures.letters c.loop-term.invariant.rest);
      coins = c.apply_letter.ensures.run.coins ∙ c.loop-term.invariant.coins;
      records = c.apply_letter.ensures.run.records ∙ c.loop-term.invariant.records;
      room = c.apply_letter.ensures.room ∙ c.loop-term.invariant.room;
    }

pub returns : goal.returns
returns g c =
    let n = qubit_count c.args.self.now in
    let state = (run_of c.loop-term.self).state in
    let whole = applied true (word_of_terms n (letters_in c.args.letters)) (run_of c.args.self.now).state in
    record {
      qubits = c.loop-term.invariant.qubits;
      room = c.loop-term.invariant.room;
      run = record {
        state = applied_all n state whole (subst (λ ts. AppliesRest n ts state whole) c.in_default.ensures.letters c.loop-term.invariant.rest);
        coins = c.loop-term.invariant.coins;
        records = c.loop-term.invariant.records;
      };
    }
