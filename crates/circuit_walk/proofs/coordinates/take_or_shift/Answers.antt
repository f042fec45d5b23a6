-- The coordinates of a detector are the next ones that are listed; behind a shift as many were given as before it.
use Rattle.std.proofs.Common.{◌≡◌, ◌++◌, ℕ, ℤ, List, [], drop, length, take, sym, ap, ◌∙◌, subst}
use Rattle.std.specs.List.{refill}
use Rattle.std.proofs.Math.Seq.{take-append_seam}
use Rattle.stim_parser.specs.Kept.{instruction_in}
use Rattle.circuit_walk.specs.private.Placing.{AreRoomy, added, coordinates_from}
use Rattle.circuit_walk.proofs.PlacingLemmas.{behind_detector, behind_shift, numbers-roomy, offset-roomy}
use Rattle.circuit_walk.proofs.coordinates.take_or_shift.Given.{Over}
use Rattle.circuit_walk.proofs.coordinates.take_or_shift.Goals as goal
use Rattle.circuit_walk.proofs.coordinates.take_or_shift.Goals.{After-as_slice}

-- all of a list is written over
refill-whole : (xs ws : List ℤ) → length ws ≡ length xs → refill (length xs) xs ws ≡ ws
refill-whole xs ws h =
    ap (λ n. take n (ws ++ drop (length ws) xs)) (sym h) ∙ take-append_seam ws (drop (length ws) xs)

pub add-requires-clause-room : goal.add-requires-clause-room
add-requires-clause-room g c =
    let n = c.requires.next in
    subst AreRoomy (sym c.as_mut_slice.ensures.value)
    (numbers-roomy c.args.program.now.circuit c.args.program.now.listing c.accepted.ensures n.1 (instruction_in c.args.instruction) c.args.offset.now n.2
    c.read_stated.new.numbers.items c.read_stated.ensures)

pub add-requires-clause-more : goal.add-requires-clause-more
add-requires-clause-more g c =
    let n = c.requires.next in
    offset-roomy c.args.program.now.circuit c.args.program.now.listing c.accepted.ensures n.1 (instruction_in c.args.instruction) c.args.offset.now n.2

-- what the taker takes
moved : (g : Over) (c : After-as_slice g) → c.as_slice.result.now ≡ added c.read_stated.new.numbers.items c.args.offset.now
moved g c =
    c.as_slice.ensures.value
    ∙ refill-whole c.read_stated.new.numbers.items c.add.new.numbers (c.add.ensures.long ∙ ap length c.as_mut_slice.ensures.value)
    ∙ c.add.ensures.added
    ∙ ap (λ (zs : List ℤ). added zs c.args.offset.now) c.as_mut_slice.ensures.value

pub take-requires-clause-next : goal.take-requires-clause-next
take-requires-clause-next g c =
    let n = c.requires.next in
    let behind = behind_detector c.args.program.now.circuit c.args.program.now.listing c.accepted.ensures n.1 (instruction_in c.args.instruction) c.args.offset.now n.2
    c.read_stated.new.numbers.items c.read_stated.ensures c.as_slice.result.now c.in-DetectorDeclaration.is (moved g c) in
    (n.0, length (coordinates_from [] n.1), n.3, behind.listed)

pub add-requires-in_default : goal.add-requires-in_default
add-requires-in_default g c =
    let n = c.requires.next in
    record {
      room = offset-roomy c.args.program.now.circuit c.args.program.now.listing c.accepted.ensures n.1 (instruction_in c.args.instruction) c.args.offset.now n.2;
      more =
          subst AreRoomy (sym c.as_slice-in_default.ensures.value)
          (numbers-roomy c.args.program.now.circuit c.args.program.now.listing c.accepted.ensures n.1 (instruction_in c.args.instruction) c.args.offset.now n.2
          c.read_stated.new.numbers.items c.read_stated.ensures);
    }

pub returns-in-DetectorDeclaration-clause-offset : goal.returns-in-DetectorDeclaration-clause-offset
returns-in-DetectorDeclaration-clause-offset g c before placed =
    (behind_detector c.args.program.now.circuit c.args.program.now.listing c.accepted.ensures before (instruction_in c.args.instruction) c.args.offset.now placed
    c.read_stated.new.numbers.items c.read_stated.ensures c.as_slice.result.now c.in-DetectorDeclaration.is
    (moved g (goal.at.returns-in-DetectorDeclaration-clause-offset g c).After-as_slice)).offset_is

pub returns-in-DetectorDeclaration-clause-stands : goal.returns-in-DetectorDeclaration-clause-stands
returns-in-DetectorDeclaration-clause-stands g c begun before placed stands =
    let behind = behind_detector c.args.program.now.circuit c.args.program.now.listing c.accepted.ensures before (instruction_in c.args.instruction) c.args.offset.now placed
    c.read_stated.new.numbers.items c.read_stated.ensures c.as_slice.result.now c.in-DetectorDeclaration.is
    (moved g (goal.at.returns-in-DetectorDeclaration-clause-stands g c).After-as_slice) in
    subst (λ (d : ℕ). g.T.CoordinateTaker.stands c.args.program.now begun d c.take.new.self) (sym behind.given)
    (c.take.ensures begun (length (coordinates_from [] before)) stands behind.listed)

pub returns-in_default : goal.returns-in_default
returns-in_default g c =
    let program = c.args.program.now in
    let i = instruction_in c.args.instruction in
    let added_is = subst (λ (ms : List ℤ). c.add-in_default.new.numbers ≡ added c.args.offset.now ms) c.as_slice-in_default.ensures.value c.add-in_default.ensures.added in
    record {
      offset = λ before placed.
          (behind_shift program.circuit program.listing c.accepted.ensures before i c.args.offset.now placed
          c.read_stated.new.numbers.items c.read_stated.ensures c.add-in_default.new.numbers c.in_default.not-DetectorDeclaration added_is).offset_is;
      stands = λ begun before placed stands.
          subst (λ (d : ℕ). g.T.CoordinateTaker.stands program begun d c.args.taker.now)
          (behind_shift program.circuit program.listing c.accepted.ensures before i c.args.offset.now placed
          c.read_stated.new.numbers.items c.read_stated.ensures c.add-in_default.new.numbers c.in_default.not-DetectorDeclaration added_is).given
          stands;
    }
