use Rattle.std.proofs.Common.{◌≡◌, ◌⊎◌, ℕ, List, Option, None, Some, Ok, Err, ap, subst, sym, ◌∙◌, inl, inr}
use Rattle.std.proofs.lemmas.Result.{err_from_is_err_and}
use Rattle.stim_lexer.specs.declared.line.Line.{Line}
use Rattle.step_model.specs.declared.fault.Fault.{Fault}
use Rattle.step_model.specs.Faults.{memory_fault}
use Rattle.stim_lexer.specs.Lexing.{Numbered, Unread, answered, cut_in, next_found}
use Rattle.stim_lexer.specs.Judged.{IsRefusedBy}
use Rattle.stim_lexer.specs.Texts.{Format, refused}
use Rattle.stim_lexer.specs.Unfinished.{Unfinished, cause_in, reading_at}
use Rattle.stim_lexer.specs.Instructions.{Instruction}
use Rattle.stim_lexer.specs.Marked.{Marked}
use Rattle.stim_lexer.proofs.TextLemmas.{IsReading, fewer, reads_on, refused_by_line, refused_by_byte, finished_reads, finished_refused}
use Rattle.stim_parser.specs.Judging.{format_of}
use Rattle.stim_parser.specs.Probabilities.{Keeps}
use Rattle.stim_parser.proofs.reader.read_items.Goals as goal

pub returns-in_err-line-clause-err : goal.returns-in_err-line-clause-err
returns-in_err-line-clause-err g c =
    let text = c.args.text.now in
    let p = err_from_is_err_and c.from_residual.result c.from_residual.ensures.1 in
    rw (p.1, p.2) (inr (refused_by_byte (format_of g.J.Judge.table) text c.loop-texts.builder.text c.loop-texts.lexer c.in_err-line.field-0.0 c.loop-texts.invariant.0 c.in_err-line.ensures.line))

pub loop-texts-smaller : goal.loop-texts-smaller
loop-texts-smaller g c =
    let left = c.loop-texts.lexer in
    let n : Numbered = record { number = c.in-Some.line.number; cut = cut_in c.in-Some.line } in
    let next : Ok (Some n) ≡ next_found left =
    sym (ap (λ (o : Option Line). answered (Ok o)) c.in-Some.is) ∙ c.in_ok-line.ensures.line in
    fewer left c.next_line.new.self n (sym next) c.next_line.ensures.rest

pub loop-texts-preserved : goal.loop-texts-preserved
loop-texts-preserved g c =
    let left = c.loop-texts.lexer in
    let n : Numbered = record { number = c.in-Some.line.number; cut = cut_in c.in-Some.line } in
    let next : Ok (Some n) ≡ next_found left =
    sym (ap (λ (o : Option Line). answered (Ok o)) c.in-Some.is) ∙ c.in_ok-line.ensures.line in (
      reads_on (format_of g.J.Judge.table) c.args.text.now c.loop-texts.builder.text c.read_next.new.builder.text left c.next_line.new.self n c.loop-texts.invariant.0 next c.next_line.ensures.rest
          (sym c.in_ok-read_next.ensures.accepted) c.in_ok-read_next.ensures.after,
      c.in_ok-read_next.ensures.kept,
    )

-- a line that is refused, or memory that runs out at it
refused_at : {I : Type 0} (format : Format I) (text : List ℕ) (u : Unfinished I) (left : Unread) (n : Numbered) (fault : Fault) → IsReading format text u left → Ok (Some n) ≡ next_found left
    → (fault ≡ memory_fault) ⊎ ((fault.line ≡ n.number) × (cause_in (reading_at format u n.number n.cut) ≡ Some fault.cause)) → (fault ≡ memory_fault) ⊎ IsRefusedBy format text fault
refused_at format text u left n fault h e (inl memory) = inl memory
refused_at format text u left n fault h e (inr r) =
    inr (subst (λ (line : ℕ). IsRefusedBy format text (refused fault.cause line)) (sym r.0) (refused_by_line format text u left n fault.cause h e (sym r.1)))

pub returns-in_err-read_next-clause-err : goal.returns-in_err-read_next-clause-err
returns-in_err-read_next-clause-err g c =
    let left = c.loop-texts.lexer in
    let n : Numbered = record { number = c.in-Some.line.number; cut = cut_in c.in-Some.line } in
    let next : Ok (Some n) ≡ next_found left =
    sym (ap (λ (o : Option Line). answered (Ok o)) c.in-Some.is) ∙ c.in_ok-line.ensures.line in
    let p = err_from_is_err_and c.from_residual-in_err-read_next.result c.from_residual-in_err-read_next.ensures.1 in
    rw (p.1, p.2) (refused_at (format_of g.J.Judge.table) c.args.text.now c.loop-texts.builder.text left n _ c.loop-texts.invariant.0 next c.in_err-read_next.ensures.err)

pub returns-clause-ok : goal.returns-clause-ok
returns-clause-ok g c =
    let next : Ok None ≡ next_found c.loop-texts.lexer =
    sym (ap (λ (o : Option Line). answered (Ok o)) c.in_default.is) ∙ c.in_ok-line.ensures.line in
    finished_reads (format_of g.J.Judge.table) c.args.text.now c.loop-texts.builder.text c.loop-texts.lexer c.loop-texts.invariant.0 next
    (Ok c.in_ok-items.items.items)
    (c.in_ok-items.ensures.opened, ap (λ (m : Marked (Instruction g.row.O.Denot g.row.T.Denot)). m.items) c.in_ok-items.ensures.items)

pub returns-clause-kept : goal.returns-clause-kept
returns-clause-kept g c =
    subst (λ (m : Marked (Instruction g.row.O.Denot g.row.T.Denot)). Keeps g.J.Judge.table c.loop-texts.texts.items m) (sym c.in_ok-items.ensures.items)
    c.loop-texts.invariant.1

pub returns-in_err-items-clause-err : goal.returns-in_err-items-clause-err
returns-in_err-items-clause-err g c =
    let next : Ok None ≡ next_found c.loop-texts.lexer =
    sym (ap (λ (o : Option Line). answered (Ok o)) c.in_default.is) ∙ c.in_ok-line.ensures.line in
    let p = err_from_is_err_and c.from_residual-in_err-items.result c.from_residual-in_err-items.ensures.1 in
    rw (p.1, p.2)
    (finished_refused (format_of g.J.Judge.table) c.args.text.now c.loop-texts.builder.text c.loop-texts.lexer c.loop-texts.invariant.0 next
    (Err _) (rw c.causes.ensures at c.in_err-items.ensures.err))
