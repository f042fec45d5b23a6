-- Each letter goes from those that are left into the frames.
use Rattle.std.proofs.Common.{ℕ, ◌<◌, length, refl, sym, subst, ◌∙◌}
use Rattle.circuit_walk.specs.Letters.{letters_in}
use Rattle.step_model.specs.Frames.{Frame}
use Rattle.step_model.specs.Listing.{word_of_terms}
use Rattle.forward_sim.proofs.TermWords.{fewer, first_fits, rest_fits}
use Rattle.frames.specs.LaneFrames.{frame_in}
use Rattle.frames.specs.private.Followed.{multiplied_in}
use Rattle.frames.proofs.LaneFrameLaws.{LeadsOn, leads-all, leads-more}
use Rattle.frames.proofs.frames.Frames.times_letters.Goals as goal

pub loop-term-init : goal.loop-term-init
loop-term-init g c = record { small = c.requires.small; fit = c.requires.inside; qubits = refl; room = refl; leads = λ j. refl }

pub times-requires : goal.times-requires
times-requires g c =
    subst (λ n. c.in-Some.term.qubit < n) (sym c.loop-term.invariant.qubits)
    (first_fits (length c.args.self.now.letters) (letters_in c.loop-term.left) c.in-Some.term (letters_in c.in-Some.rest) c.in-Some.ensures.letters c.loop-term.invariant.fit)

pub loop-term-smaller : goal.loop-term-smaller
loop-term-smaller g c =
    fewer (length c.args.self.now.letters) (letters_in c.loop-term.left) c.in-Some.term (letters_in c.in-Some.rest) c.in-Some.ensures.letters

pub loop-term-preserved : goal.loop-term-preserved
loop-term-preserved g c =
    let old = c.args.self.now in
    let n = length old.letters in
    let left = letters_in c.loop-term.left in
    let rest = letters_in c.in-Some.rest in
    let runs = c.args.runs in
    let ends : ℕ → Frame = λ j. multiplied_in runs (word_of_terms n (letters_in c.args.letters)) j (frame_in j old) in
    let goes = c.times.ensures in
    record {
      small = c.in-Some.ensures.small;
      fit = rest_fits n left c.in-Some.term rest c.in-Some.ensures.letters c.loop-term.invariant.fit;
      qubits = goes.qubits ∙ c.loop-term.invariant.qubits;
      room = goes.room ∙ c.loop-term.invariant.room;
      leads = leads-more n c.in-Some.term rest runs ends c.loop-term.self c.times.new.self c.loop-term.invariant.qubits goes
          (subst (λ ts. LeadsOn n ts runs ends c.loop-term.self) c.in-Some.ensures.letters c.loop-term.invariant.leads);
    }

pub returns : goal.returns
returns g c =
    let old = c.args.self.now in
    let n = length old.letters in
    let runs = c.args.runs in
    let ends : ℕ → Frame = λ j. multiplied_in runs (word_of_terms n (letters_in c.args.letters)) j (frame_in j old) in
    record {
      qubits = c.loop-term.invariant.qubits;
      room = c.loop-term.invariant.room;
      frames = leads-all n runs ends c.loop-term.self c.loop-term.invariant.qubits
          (subst (λ ts. LeadsOn n ts runs ends c.loop-term.self) c.in_default.ensures.letters c.loop-term.invariant.leads);
    }
