-- The instructions that make records or declare something are gone over one by one.
use Rattle.std.proofs.Common.{◌+◌, ◌++◌, ◌≤◌, List, ap, sym, ◌∙◌, subst, arith}
use Rattle.cursor.proofs.Nested.{are_nested}
use Rattle.stim_parser.specs.Circuits.{Fits}
use Rattle.stim_parser.specs.Kept.{instruction_in}
use Rattle.stim_parser.specs.Verdicts.{Instruction}
use Rattle.circuit_walk.specs.Declarations.{Declared}
use Rattle.circuit_walk.specs.private.Declaring.{AreAhead, IsDeclaring, declared_by, record_count}
use Rattle.circuit_walk.proofs.DeclaringLemmas.{ahead, all_declared, declared_before, declared_behind, few_behind, fewer, goes_on, next_declarer_fits, none_declared, starts_declaring}
use Rattle.circuit_walk.proofs.declarations.take_declarations.Given.{Over}
use Rattle.circuit_walk.proofs.declarations.take_declarations.Goals as goal
use Rattle.circuit_walk.proofs.declarations.take_declarations.Goals.{After-instruction_at-instruction, After-record_count}

pub start-cursor-requires : goal.start-cursor-requires
start-cursor-requires g c = are_nested Fits c.text-text.result.items.now.items c.text-text.ensures.written

pub loop-i-init : goal.loop-i-init
loop-i-init g c =
    let program = c.args.program.now in
    let text = c.text-text.result in
    let e = c.start-cursor.ensures in
    record {
      passing = starts_declaring program text c.start-cursor.result c.text-text.ensures e.place e.before;
      stands = subst (λ done. g.T.DeclarationTaker.stands program c.args.taker.now done c.args.taker.now) (none_declared program text c.start-cursor.result e.before) c.requires;
    }

pub instruction_at-instruction-requires : goal.instruction_at-instruction-requires
instruction_at-instruction-requires g c = (c.in-Some.ensures.next.0, c.in-Some.ensures.next.2)

-- the instruction fits
fits : (g : Over) (c : After-instruction_at-instruction g) → Fits (instruction_in c.instruction_at-instruction.result)
fits g c =
    let e = c.in-Some.ensures in
    subst Fits (sym (c.instruction_at-instruction.ensures.is e.next.0 e.next.2))
    (next_declarer_fits c.args.program.now c.text-text.result c.loop-i.cursor c.face.new.self c.loop-i.records e.next.0 e.next.1 c.loop-i.invariant.passing e.place e.same e.next.4)

-- what it declares is next
next : (g : Over) (c : After-instruction_at-instruction g)
    → AreAhead c.args.program.now.listing (declared_before c.args.program.now c.text-text.result c.loop-i.cursor) (declared_by c.loop-i.records (instruction_in c.instruction_at-instruction.result))
next g c =
    let program = c.args.program.now in
    let e = c.in-Some.ensures in
    let done = declared_before program c.text-text.result c.loop-i.cursor in
    subst (λ (i : Instruction). AreAhead program.listing done (declared_by c.loop-i.records i)) (sym (c.instruction_at-instruction.ensures.is e.next.0 e.next.2))
    (ahead program c.text-text.result c.loop-i.cursor c.face.new.self c.loop-i.records e.next.0 e.next.1 c.loop-i.invariant.passing e.place e.same e.next.4)

pub take_declared-requires-clause-fits : goal.take_declared-requires-clause-fits
take_declared-requires-clause-fits g c = fits g (goal.at.take_declared-requires-clause-fits g c).After-instruction_at-instruction

pub take_declared-requires-clause-stands : goal.take_declared-requires-clause-stands
take_declared-requires-clause-stands g c = (
  c.args.taker.now,
  declared_before c.args.program.now c.text-text.result c.loop-i.cursor,
  c.loop-i.invariant.stands,
  next g (goal.at.take_declared-requires-clause-stands g c).After-instruction_at-instruction,
)

pub record_count-requires : goal.record_count-requires
record_count-requires g c = fits g (goal.at.record_count-requires g c).After-instruction_at-instruction

-- the records behind it are no more than there are
few : (g : Over) (c : After-record_count g) → c.loop-i.records + c.record_count.result ≤ 8_000_000
few g c =
    let e = c.in-Some.ensures in
    let same = ap record_count (c.instruction_at-instruction.ensures.is e.next.0 e.next.2) in
    omega (
      arith,
      c.record_count.ensures,
      same,
      few_behind c.args.program.now c.text-text.result c.loop-i.cursor c.face.new.self c.loop-i.records e.next.0 e.next.1 c.loop-i.invariant.passing e.place e.same e.next.4,
    )

pub overflow_cast-records : goal.overflow_cast-records
overflow_cast-records g c = omega (arith, few g (goal.at.overflow_cast-records g c).After-record_count)

pub overflow_add-records : goal.overflow_add-records
overflow_add-records g c = omega (arith, few g (goal.at.overflow_add-records g c).After-record_count)

pub loop-i-smaller : goal.loop-i-smaller
loop-i-smaller g c =
    let e = c.in-Some.ensures in
    fewer c.args.program.now c.text-text.result c.loop-i.cursor c.face.new.self c.loop-i.records e.next.0 e.next.1 c.loop-i.invariant.passing e.place e.same e.next.4 c.pass.new.self c.pass.ensures.place c.pass.ensures.over

pub loop-i-preserved : goal.loop-i-preserved
loop-i-preserved g c =
    let program = c.args.program.now in
    let text = c.text-text.result in
    let r = c.loop-i.records in
    let old = c.loop-i.cursor in
    let new = c.face.new.self in
    let e = c.in-Some.ensures in
    let x = e.next.0 in
    let is = c.instruction_at-instruction.ensures.is x e.next.2 in
    let passing = c.loop-i.invariant.passing in
    let later = goes_on program text old new r x e.next.1 passing e.place e.same e.next.4 c.pass.new.self c.pass.ensures.place c.pass.ensures.over in
    let done =
    ap (λ (i : Instruction). declared_before program text old ++ declared_by r i) is
    ∙ declared_behind program text old new r x e.next.1 passing e.place e.same e.next.4 c.pass.new.self c.pass.ensures.place c.pass.ensures.over in
    record {
      passing = subst (λ k. IsDeclaring program text c.pass.new.self (r + k)) (sym (c.record_count.ensures ∙ ap record_count is)) later;
      stands =
          subst (λ (ds : List Declared). g.T.DeclarationTaker.stands program c.args.taker.now ds c.take_declared.new.taker) done
          (c.take_declared.ensures c.args.taker.now (declared_before program text old) c.loop-i.invariant.stands
          (next g (goal.at.loop-i-preserved g c).After-instruction_at-instruction));
    }

pub returns : goal.returns
returns g c =
    let program = c.args.program.now in
    let text = c.text-text.result in
    let e = c.in_default.ensures in (
      declared_before program text c.loop-i.cursor,
      all_declared program text c.loop-i.cursor c.face.new.self c.loop-i.records c.loop-i.invariant.passing e.place e.same e.next,
      c.loop-i.invariant.stands,
    )
