-- The gate of a letter's name applies the letter.
use Rattle.std.proofs.Common.{◌≡◌, sym, ap, ◌∙◌}
use Rattle.gate_table.specs.WordImages.{preimage_at}
use Rattle.forward_sim.specs.private.Machines.{qubit_count, run_of}
use Rattle.forward_sim.proofs.LetterGates.{gate_of, preimage_at-letter}
use Rattle.forward_sim.proofs.machine.Machine.apply_letter.Goals as goal
use Rattle.forward_sim.proofs.machine.Machine.apply_letter.Goals.{in-I, in-X, in-Y, in-Z}

pub returns : goal.returns
returns g c =
    let gate : c.match-letter.gate ≡ gate_of c.args.letter = elim c.match-letter.branch [
      | in-I w ↦ w.gate-is ∙ ap gate_of (sym w.in-I.is)
      | in-X w ↦ w.gate-is ∙ ap gate_of (sym w.in-X.is)
      | in-Y w ↦ w.gate-is ∙ ap gate_of (sym w.in-Y.is)
      | in-Z w ↦ w.gate-is ∙ ap gate_of (sym w.in-Z.is)
    ] in
    let before = c.args.self.now in
    record {
      qubits = c.apply_one.ensures.qubits;
      room = c.apply_one.ensures.room;
      run = record {
        state = λ p size.
            c.apply_one.ensures.run.state p size
            ∙ ap (run_of before).state
            (ap (λ u. preimage_at u c.args.qubit p) gate
            ∙ preimage_at-letter (qubit_count before) c.args.letter c.args.qubit p size c.requires);
        coins = c.apply_one.ensures.run.coins;
        records = c.apply_one.ensures.run.records;
      };
    }
