use Rattle.std.proofs.Common.{◌≡◌, length, arith, ap, ◌∙◌}
use Rattle.bit_rows.specs.private.Marks.{KeepsRow}
use Rattle.bit_rows.specs.private.Words.{row_of}
use Rattle.bit_rows.proofs.Marked.{marked_by_slice}
use Rattle.bit_rows.proofs.Places.{same_places, held_by_slice, seen_by_slice, rewritten}
use Rattle.bit_rows.proofs.row.BitRow.copy_from.Goals as goal

pub copy_words-requires : goal.copy_words-requires
copy_words-requires g c =
    let same : c.self.inside.places ≡ c.other.inside.places = same_places _ _ c.self.inside.words.items c.other.inside.words.items _ _ c.self.view_is c.other.view_is c.requires in
    omega (arith, same, c.self.invariant.held.count, c.other.invariant.held.count, ap length c.as_mut_slice.ensures.value, ap length c.as_slice.ensures.value)

pub invariant_of-self : goal.invariant_of-self
invariant_of-self g c =
    let same : c.self.inside.places ≡ c.other.inside.places = same_places _ _ c.self.inside.words.items c.other.inside.words.items _ _ c.self.view_is c.other.view_is c.requires in
    rewritten (KeepsRow c.self.inside.places c.other.inside.marks) _ _ c.copy_words.new.to c.self.inside.words.items c.as_mut_slice.ensures.len c.copy_words.ensures.len
    (record {
      held = held_by_slice _ _ _ _ same (c.copy_words.ensures.after ∙ c.as_slice.ensures.value) c.other.invariant.held;
      marked = marked_by_slice _ _ _ (c.copy_words.ensures.after ∙ c.as_slice.ensures.value) c.other.invariant.marked;
    })

pub returns : goal.returns
returns g c =
    let same : c.self.inside.places ≡ c.other.inside.places = same_places _ _ c.self.inside.words.items c.other.inside.words.items _ _ c.self.view_is c.other.view_is c.requires in
    rewritten (λ ws. row_of c.self.inside.places ws ≡ c.args.other.now) _ _ c.copy_words.new.to c.self.inside.words.items c.as_mut_slice.ensures.len c.copy_words.ensures.len
    (seen_by_slice _ _ _ _ _ same (c.copy_words.ensures.after ∙ c.as_slice.ensures.value) c.other.view_is)
