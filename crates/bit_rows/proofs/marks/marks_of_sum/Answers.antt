use Rattle.std.proofs.Common.{◌≡◌, ◌||◌, ◌&&◌, not, false, sym, ap₂, ◌∙◌, inl, inr, ⊎_elim, bit_or}
use Rattle.std.proofs.lemmas.Bool.{and_cases, not-false, or_parts}
use Rattle.bit_rows.specs.private.Words.{bit_of}
use Rattle.bit_rows.proofs.BitLaws.{bit_of-or, bit_of-and, bit_of-not}
use Rattle.bit_rows.proofs.marks.marks_of_sum.Goals as goal

pub returns : goal.returns
returns c = λ b h e.
    let either = bit_of c.args.first b || bit_of c.args.second b in
    let left : (either && not (bit_of c.args.noted b)) ≡ false =
    sym (bit_of-and (bit_or c.args.first c.args.second) _ b
    ∙ ap₂ (λ v w. v && w) (bit_of-or c.args.first c.args.second b) (bit_of-not c.args.noted b c.ranges.noted.fits h)) ∙ e in
    ⊎_elim
    (λ (n : either ≡ false). inr (or_parts (bit_of c.args.first b) (bit_of c.args.second b) n))
    (λ (n : not (bit_of c.args.noted b) ≡ false). inl (not-false _ n))
    (and_cases either (not (bit_of c.args.noted b)) left)
