use Rattle.std.proofs.Common.{arith}
use Rattle.fault_list.proofs.HeldLineLemmas.{put_and_held}
use Rattle.fault_list.proofs.short_lines.put_some.Goals as goal

pub returns-in-Some : goal.returns-in-Some
returns-in-Some g c = λ qubits fit. record {
  within = omega (arith, c.put_kept.ensures.within, c.in-Some.ensures.within);
  pushed = rw (c.in-Some.ensures.text qubits fit) at c.put_kept.ensures.pushed;
  kept = λ none. cc;
  same_sink = λ none. cc;
  same_out = λ none. cc;
}

pub returns : goal.returns
returns g c = λ qubits fit. put_and_held (c.put.ensures qubits fit)
