-- Drawn, run and written.
use Rattle.std.proofs.Common.{◌≡◌, ◌+◌, ◌*◌, length, sym, ap, ap₂, subst, subst₂, ◌∙◌}
use Rattle.std.proofs.lemmas.List.{length-map}
use Rattle.step_model.specs.Listing.{ListedFault, Listing}
use Rattle.forward_sim.specs.Drawn.{bounds_of, after_shots}
use Rattle.forward_sim.specs.Shots.{AreDrawn}
use Rattle.bit_rows.specs.Lanes.{lane}
use Rattle.step_model.specs.Pushed.{Pushes}
use Rattle.frames.specs.private.LaneLines.{lane_lines}
use Rattle.frames.specs.Sampled.{lines_from}
use Rattle.frames.specs.Shown.{shown_line}
use Rattle.frames.specs.private.ShownRuns.{DontShow, shown_of}
use Rattle.frames.proofs.TextLemmas.{batch_lines, drawn_line}
use Rattle.frames.proofs.batches.push_batch.Goals as goal

pub run-requires : goal.run-requires
run-requires g c =
    let program = c.args.runs.now.program in
    let drawn = c.draw.ensures.drawn in
    record {
      faults =
          ap length c.faults.ensures
          ∙ (drawn.fault_count
          ∙ (ap length c.requires.fit.bounds ∙ length-map program.faults (λ (fault : ListedFault). fault.bound)));
      coins = ap length c.coins.ensures ∙ (drawn.coin_count ∙ c.requires.fit.coins);
    }

pub push_lines-requires : goal.push_lines-requires
push_lines-requires g c =
    record {
      room = c.requires.fit.line ∙ ap (λ n. 2 * n + 1) (sym c.run.ensures.size ∙ sym (ap length c.words.ensures));
      count = c.requires.count;
    }

pub returns : goal.returns
returns g c =
    let program = c.args.runs.now.program in
    let shown = c.args.runs.now.shown in
    let words = c.run.new.self.words in
    let rng = c.args.rng.now in
    let count = c.args.count in
    let faults = c.draw.new.self.faults in
    let coins = c.draw.new.self.coins in
    let bounds = c.args.drawn.now.bounds in
    let n : length bounds ≡ length program.faults = ap length c.requires.fit.bounds ∙ length-map program.faults (λ (fault : ListedFault). fault.bound) in
    let passed = c.args.drawn.now.passed in
    let drawn : AreDrawn passed (bounds_of program) program.collapses count rng faults coins =
    subst (λ bs. AreDrawn passed bs program.collapses count rng faults coins) c.requires.fit.bounds
    (subst (λ m. AreDrawn passed bounds m count rng faults coins) c.requires.fit.coins c.draw.ensures.drawn) in
    let text : lane_lines c.words.result.now count ≡ lines_from (shown_line shown) program count rng =
    ap (λ ws. lane_lines ws count) c.words.ensures
    ∙ batch_lines (shown_line shown) program count rng words
    (λ j below.
    drawn_line passed shown program count j rng faults coins words c.requires.count below drawn c.requires.fit.passed
    (λ i lane_below. c.run.ensures.lanes i lane_below ∙ ap₂ (λ fs cs. shown_of shown program (lane i fs) (lane i cs)) c.faults.ensures c.coins.ensures)) in
    record {
      lines = subst (λ bytes. Pushes g.W.Sink.taken g.W.Sink.failures c.args.sink.now c.push_lines.new.sink c.args.out.now c.push_lines.new.out bytes) text c.push_lines.ensures;
      taken = c.draw.ensures.taken ∙ ap₂ (λ a b. after_shots a b count rng) n c.requires.fit.coins;
      program = c.run.ensures.program;
      shown = c.run.ensures.shown;
      passed = c.draw.ensures.passed;
      fit = record {
        bounds = c.draw.ensures.bounds ∙ (c.requires.fit.bounds ∙ ap bounds_of (sym c.run.ensures.program));
        coins = c.draw.ensures.drawn.coin_count ∙ (c.requires.fit.coins ∙ ap (λ (p : Listing). p.collapses) (sym c.run.ensures.program));
        passed =
            subst (λ kind. DontShow kind c.run.new.self.program c.draw.new.self.passed) (sym c.run.ensures.shown)
            (subst₂ (DontShow shown) (sym c.run.ensures.program) (sym c.draw.ensures.passed) c.requires.fit.passed);
        line = c.push_lines.auto.room ∙ (c.requires.fit.line ∙ ap (λ n. 2 * n + 1) (sym c.run.ensures.size));
      };
    }
