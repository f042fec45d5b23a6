-- The text is that of the letters, where these are kept.
use Rattle.std.proofs.Common.{◌≤◌, ◌∙◌, arith}
use Rattle.circuit_walk.specs.Letters.{letters_in}
use Rattle.fault_list.proofs.KeptWordLemmas.{word_kept}
use Rattle.fault_list.proofs.kept_word.KeptWord.keep.Goals as goal

pub invariant_of-self-2 : goal.invariant_of-self-2
invariant_of-self-2 c =
    let within : c.put_text-self.result ≤ 24704 = omega (arith, c.put_text-self.ensures.end, c.requires.room) in
    record {
      text_of = word_kept (letters_in c.args.terms) c.keep.result within c.keep.ensures c.if-not-keep.false (λ qubits fit. c.put_text-self.ensures.written ∙ c.requires.text qubits fit);
    }
