use Rattle.std.proofs.Common.{◌≡◌, [], inl, inr, arith}
use Rattle.std.proofs.lemmas.List.{nil_from_length, take_rest}
use Rattle.dem_text.proofs.CountedLemmas.{line-ended}
use Rattle.dem_text.proofs.error_line.behind_end.Goals as goal

pub returns-in-empty : goal.returns-in-empty
returns-in-empty c =
    let none : c.args.text.now ≡ [] = nil_from_length c.args.text.now (omega (arith, c.in-empty.len_below)) in
    inl (none, none)

pub returns-in-len1-up : goal.returns-in-len1-up
returns-in-len1-up c =
    inr (line-ended c.args.text.now _ c.requires (omega (arith, c.in-len1-up.len_at_least)) (take_rest c.args.text.now 1))
