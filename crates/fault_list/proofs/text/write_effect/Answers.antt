use Rattle.std.proofs.Common.{◌∙◌}
use Rattle.step_model.specs.Listing.{effect_at}
use Rattle.fault_list.proofs.EffectLemmas.{effect_text-flips, letters_fit, letters_text}
use Rattle.fault_list.proofs.text.write_effect.Goals as goal

pub returns-in-Some : goal.returns-in-Some
returns-in-Some g c =
    let program = c.args.program.now.listing in
    rw (effect_text-flips program.qubits c.in-Some.r (effect_at program c.args.fault.number) (c.requires.fault.flips ∙ c.in-Some.is)) c.write_record.ensures

pub write_word-requires : goal.write_word-requires
write_word-requires g c =
    rw c.qubits.ensures
    (record { room = c.requires.room; small = c.requires.fault.small; terms = letters_fit c.args.program.now c.args.fault c.well_formed-2.ensures c.requires.fault })

pub returns-in-None : goal.returns-in-None
returns-in-None g c =
    let word = rw c.qubits.ensures at c.write_word.ensures in
    rw (letters_text c.args.program.now c.args.fault c.requires.fault c.in-None.is) word
