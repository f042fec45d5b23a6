use Rattle.std.proofs.Common.{List, Ok, ap, sym, ◌∙◌}
use Rattle.std.proofs.lemmas.Result.{err_from_is_err_and}
use Rattle.stim_lexer.specs.Instructions.{Instruction}
use Rattle.stim_lexer.specs.Trees.{Item}
use Rattle.stim_lexer.proofs.TreeLemmas.{items_are_written}
use Rattle.stim_parser.specs.Judging.{format_of}
use Rattle.stim_parser.proofs.reader.read_text.Goals as goal

pub new-requires-clause-written : goal.new-requires-clause-written
new-requires-clause-written g c =
    items_are_written g.J.Judge.Fits (format_of g.J.Judge.table) c.requires c.args.text.now c.in_ok-read.read.items.items c.in_ok-read.ensures.ok

pub returns-clause-ok : goal.returns-clause-ok
returns-clause-ok g c =
    c.in_ok-read.ensures.ok
    ∙ ap (λ (items : List (Item (Instruction g.row.O.Denot g.row.T.Denot))). Ok items) (sym c.new.ensures)

pub returns-in_err-read-clause-err : goal.returns-in_err-read-clause-err
returns-in_err-read-clause-err g c =
    let p = err_from_is_err_and c.from_residual.result c.from_residual.ensures.1 in
    rw (p.1, p.2) c.in_err-read.ensures.err
