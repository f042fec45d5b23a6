-- What was read before the line stays as it was while the targets of the line are read behind it.
use Rattle.std.proofs.Common.{ℕ, List, length, ap, subst, sym, ◌∙◌}
use Rattle.std.specs.Prelude.{⊤}
use Rattle.stim_lexer.specs.Lexing.{cut_in}
use Rattle.stim_lexer.specs.Instructions.{Instruction}
use Rattle.stim_lexer.specs.Said.{OpensFew}
use Rattle.stim_lexer.specs.Unfinished.{Unfinished}
use Rattle.stim_lexer.proofs.SaidLemmas.{opens_few}
use Rattle.stim_parser.specs.Judging.{reading_of}
use Rattle.stim_parser.specs.Probabilities.{Keeps, marked_in}
use Rattle.stim_parser.proofs.FitLemmas.{readings_accord}
use Rattle.stim_parser.proofs.MarkLemmas.{begun-keeps}
use Rattle.stim_parser.proofs.reader.read_next.Given.{Over}
use Rattle.stim_parser.proofs.reader.read_next.Goals as goal

-- what is kept beside the targets of the line that is read
abbrev Others : Over → Type 0
Others g = Unfinished (Instruction g.row.O.Denot g.row.T.Denot) × List ℕ

pub take_read-requires : goal.take_read-requires
take_read-requires g c =
    let table = g.J.Judge.table in
    let number = c.args.line.number in
    let cut = cut_in c.args.line in
    let depth = c.depth-depth.result in
    let stays = ap (λ (o : Others g). length o.0.opened) c.in_ok-said.ensures.others in
    subst (λ (d : ℕ). OpensFew d c.in_ok-said.said) (c.depth-depth.ensures ∙ sym stays)
    (opens_few (λ _. ⊤) (λ _. ⊤) depth number c.in_ok-said.said c.read_line.new.targets.targets (reading_of table depth number cut) c.in_ok-said.ensures.reading
    (readings_accord table (λ _. ⊤) (λ _. ⊤) (λ depth number operation cut e h. tt) (λ targets within some. tt) depth number cut))

pub returns-in-None-clause-kept : goal.returns-in-None-clause-kept
returns-in-None-clause-kept g c =
    let before = c.read_line.new.targets in
    let kept = subst (λ (o : Others g). Keeps g.J.Judge.table c.args.texts.now.items (record { items = o.0.items; marks = o.1 })) (sym c.in_ok-said.ensures.others) c.requires in
    begun-keeps g.J.Judge.table c.args.texts.now.items c.mark_of.new.texts.items (marked_in before) (marked_in c.take_read.new.self) c.args.line.number
    c.in_ok-said.said c.in_ok-mark.mark before.targets kept c.in_ok-mark.ensures.kept c.in_ok-mark.ensures.few c.in_ok-mark.ensures.marked
    (ap (λ (u : Unfinished (Instruction g.row.O.Denot g.row.T.Denot)). u.items) c.in_ok-cause.ensures.after) c.in_ok-cause.ensures.marks
