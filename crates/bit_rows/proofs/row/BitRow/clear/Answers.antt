use Rattle.std.proofs.Common.{◌≡◌, ◌∙◌, sym, ap, subst, replicate, length, false}
use Rattle.bit_rows.specs.private.Marks.{KeepsRow}
use Rattle.bit_rows.specs.private.Words.{row_of}
use Rattle.bit_rows.proofs.Marked.{marked_zeros}
use Rattle.bit_rows.proofs.Places.{row_long, rewritten, held_zeros, row_of_zero_words}
use Rattle.bit_rows.proofs.row.BitRow.clear.Goals as goal

pub invariant_of-self : goal.invariant_of-self
invariant_of-self g c =
    let cleared = c.clear_words.ensures.after in
    let count = ap length c.as_mut_slice.ensures.value ∙ c.self.invariant.held.count in
    rewritten (KeepsRow c.self.inside.places 0) _ _ c.clear_words.new.words c.self.inside.words.items c.as_mut_slice.ensures.len c.clear_words.ensures.len
    (subst (KeepsRow c.self.inside.places 0) (sym cleared)
    (record {
      held = held_zeros c.self.inside.places (length c.as_mut_slice.result.now) c.self.invariant.held.fits count;
      marked = marked_zeros 0 (length c.as_mut_slice.result.now);
    }))

pub returns : goal.returns
returns g c =
    let cleared = c.clear_words.ensures.after in
    let long = row_long c.self.inside.places c.self.inside.words.items c.args.self.now c.self.view_is in
    rewritten (λ ws. row_of c.self.inside.places ws ≡ replicate (length c.args.self.now) false) _ _ c.clear_words.new.words c.self.inside.words.items c.as_mut_slice.ensures.len c.clear_words.ensures.len
    (ap (row_of c.self.inside.places) cleared ∙ row_of_zero_words c.self.inside.places (length c.as_mut_slice.result.now) ∙ ap (λ n. replicate n false) (sym long))
