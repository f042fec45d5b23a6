use Rattle.std.proofs.Common.{Some, ◌∙◌, arith, rules}
use Rattle.step_model.specs.Listing.{effect_at}
use Rattle.fault_list.specs.FaultLines.{record_text}
use Rattle.fault_list.specs.private.PutTexts.{Puts}
use Rattle.fault_list.proofs.EffectLemmas.{effect_text-flips}
use Rattle.fault_list.proofs.HeldLineLemmas.{put_and_held}
use Rattle.fault_list.proofs.short_lines.put_effect.Goals as goal

pub returns-in-Some-clause-put : goal.returns-in-Some-clause-put
returns-in-Some-clause-put g c =
    let program = c.args.program.now.listing in
    let puts : Puts 24704 c.args.at (record_text c.in-Some.r) c.args.buffer.now c.put_record.new.buffer (Some c.put_record.result) =
    record { within = omega (arith, c.put_record.ensures.within); written = c.put_record.ensures.written; kept = λ none. cc } in
    rw (effect_text-flips program.qubits c.in-Some.r (effect_at program c.args.fault.number) (c.requires.fault.flips ∙ c.in-Some.is)) (put_and_held puts)

pub returns-in-None-clause-put : goal.returns-in-None-clause-put
returns-in-None-clause-put g c =
    let put = c.put_word.ensures c.args.program.now.listing.qubits (search rules) in search rules
