use Rattle.std.proofs.Common.{◌-◌, [], ◌∷◌, ◌++◌, take, drop, ap, ◌∙◌, arith, append-nil, length-drop}
use Rattle.std.specs.Prelude.{decimal}
use Rattle.std.proofs.lemmas.Fmt.{decimal_nonempty}
use Rattle.std.proofs.lemmas.List.{take_all, take_at}
use Rattle.fault_list.proofs.ShortLineLemmas.{digits_of_a_number}
use Rattle.fault_list.proofs.counter.digits_of.Goals as goal

pub write_digits-start-requires : goal.write_digits-start-requires
write_digits-start-requires c = (omega (arith, digits_of_a_number c.args.number (omega (arith, c.ranges.number.fits))), omega arith)

pub returns-clause-digits : goal.returns-clause-digits
returns-clause-digits c =
    let digits = decimal c.args.number in
    let start = c.write_digits-start.result in
    let text = c.write_digits-start.new.buf in
    let some = decimal_nonempty c.args.number (omega (arith, c.ranges.number.fits)) in
    let short = digits_of_a_number c.args.number (omega (arith, c.ranges.number.fits)) in
    let long = c.write_digits-start.ensures.start in
    let copied =
    c.copy_from_slice.ensures.after
    ∙ (take_all (16 - start) (drop start text) (omega (arith, length-drop start text, c.write_digits-start.auto.buf))
    ∙ (c.write_digits-start.ensures.written ∙ append-nil digits)) in
    record {
      some = omega (arith, long, some);
      within = omega (arith, long, short);
      digits =
          ap (λ l. take (16 - start) (l ++ drop (16 - start) (0 ∷ 0 ∷ 0 ∷ 0 ∷ 0 ∷ 0 ∷ 0 ∷ 0 ∷ 0 ∷ 0 ∷ 0 ∷ 0 ∷ 0 ∷ 0 ∷ 0 ∷ 0 ∷ []))) copied
          ∙ take_at digits (drop (16 - start) (0 ∷ 0 ∷ 0 ∷ 0 ∷ 0 ∷ 0 ∷ 0 ∷ 0 ∷ 0 ∷ 0 ∷ 0 ∷ 0 ∷ 0 ∷ 0 ∷ 0 ∷ 0 ∷ [])) (16 - start) (omega (arith, long));
    }
