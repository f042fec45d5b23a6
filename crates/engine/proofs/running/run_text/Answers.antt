-- Neither coins nor faults are given.
use Rattle.std.proofs.Common.{◌≡◌, ◌∙◌, ◌==◌, inl, ℕ, [], List, true, false, length, not, Option, None, Some, is_some, eqb-true, ap, sym, subst, Bor}
use Rattle.std.specs.Option.{option_copied}
use Rattle.std.specs.Prelude.{Ok, IfOk}
use Rattle.std.proofs.lemmas.List.{nil_from_length}
use Rattle.std.proofs.lemmas.Result.{IfErr-weaker}
use Rattle.step_model.specs.Faults.{◌>>=◌}
use Rattle.engine.specs.Output.{done, program_output, run_output}
use Rattle.engine.proofs.running.run_text.Goals as goal

nothing_given : (coins : Option (Bor (List ℕ))) (faults text : List ℕ) → is_some coins ≡ false → (length faults == 0) ≡ true
    → run_output None [] text ≡ run_output (option_copied coins) faults text
nothing_given None faults text none empty = ap (λ listed. run_output None listed text) (sym (nil_from_length faults (eqb-true (length faults) 0 empty)))
nothing_given (Some coins) faults text none empty = cc

pub returns-then-is_empty-clause-ok : goal.returns-then-is_empty-clause-ok
returns-then-is_empty-clause-ok g c =
    subst (λ asked. IfOk c.noiseless_lines.result (λ lines. asked ≡ Ok (done lines.items)))
    (sym (ap (λ read. read >>= program_output None []) c.in_ok-program.ensures.ok)
    ∙ nothing_given c.args.coins c.args.faults.now c.args.text.now (c.is_none.ensures ∙ ap not c.if-is_none.true) (sym c.is_empty.ensures ∙ c.if-is_empty.true))
    c.noiseless_lines.ensures.ok

pub returns-then-is_empty-clause-err : goal.returns-then-is_empty-clause-err
returns-then-is_empty-clause-err g c = IfErr-weaker c.noiseless_lines.result _ _ (λ e memory. inl memory) c.noiseless_lines.ensures.err
