-- What was put letter by letter is the text.
use Rattle.std.proofs.Common.{◌≤◌, length, refl, arith, rules}
use Rattle.fault_list.proofs.PutLemmas.{text_between}
use Rattle.fault_list.proofs.kept_word.KeptWord.put.Goals as goal

pub returns-in_err-end : goal.returns-in_err-end
returns-in_err-end c = λ qubits fit. record { within = search rules; written = search rules; kept = λ none. (c.in_err-end.ensures.put qubits fit).kept refl }

pub keep-requires-clause-text : goal.keep-requires-clause-text
keep-requires-clause-text c = λ qubits fit.
    let inside : c.args.at ≤ length c.args.buffer.now = omega (arith, c.requires.room) in
    text_between c.args.at c.in_ok-end.end c.put_letters.new.buffer c.args.buffer.now _ inside (c.in_ok-end.ensures.put qubits fit).written
