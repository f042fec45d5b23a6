-- At the start all steps are left, and at the end none is.
use Rattle.std.proofs.Common.{◌≡◌, ◌∙◌, [], ap, arith, drop, length, refl}
use Rattle.std.proofs.lemmas.List.{drop_all}
use Rattle.step_model.specs.Frames.{Frame}
use Rattle.frames.proofs.LoneLemmas.{on-way-end, on-way-start}
use Rattle.frames.proofs.lone_frame.flips_at.Goals as goal

pub take_all-requires : goal.take_all-requires
take_all-requires g c well =
    let p = c.args.program.now.listing in
    let v = c.args.word.letters in
    record {
      same = refl;
      size = ap (λ (f : Frame). length f.word) c.begin.ensures ∙ c.requires;
      way = rw (c.begin.ensures, c.begins_behind.ensures, c.new.ensures.items) (on-way-start p c.args.place v c.args.collapsed);
    }

pub returns : goal.returns
returns g c =
    let p = c.args.program.now.listing in
    let lone = c.take_all.new.taker in
    let last = c.take_all.ensures c.if-lone.false in
    let none : drop (length p.steps) p.steps ≡ [] = drop_all (length p.steps) p.steps (omega arith) in
    on-way-end p c.args.place c.args.word.letters c.args.collapsed lone.ahead lone.frame lone.flips.items (rw (c.begins_behind.ensures, c.begin.ensures, none) at last.way)
