-- The step is judged by the words after it, and taken back; then each part of what a pass keeps is as the definition of a step has it.
use Rattle.std.proofs.Common.{◌≡◌, ◌+◌, ◌-◌, ◌<◌, Bool, List, length, drop, refl, ap, subst, sym, ◌∙◌, arith}
use Rattle.std.specs.Prelude.{All, IfSome}
use Rattle.std.proofs.lemmas.Result.{err_from_is_err_and}
use Rattle.step_model.specs.Targets.{targets_of}
use Rattle.circuit_walk.specs.Steps.{recorded}
use Rattle.backward.specs.private.Collapses.{members_at, noted, undone_collapse}
use Rattle.backward.specs.private.Passes.{IsJudged, opened}
use Rattle.backward.specs.private.Stretches.{Gives}
use Rattle.trackers.specs.Tracked.{anticommuting}
use Rattle.backward.proofs.PassSteps.{collapse_is_left, collapse_judged, collapse_keeps, collapse_line, collapse_lists, collapse_words, holds_same, latest_of_size, words_of_size}
use Rattle.backward.proofs.RecordMembers.{record_has_set, record_named}
use Rattle.backward.proofs.StepLemmas.{fits_after, over_failed, stays_as}
use Rattle.backward.proofs.collapse.collapse.Goals as goal

pub judge-requires-clause-words : goal.judge-requires-clause-words
judge-requires-clause-words g c =
    let program = c.args.program.now.listing in
    words_of_size program (drop (c.args.place + 1) program.steps) (g.T.Tracker.tracked c.args.tracker.now) c.requires.passed.words ∙ sym c.target_count-targets.ensures.count

pub judge-requires-clause-left : goal.judge-requires-clause-left
judge-requires-clause-left g c =
    let f = c.args.found.now in
    let step = c.requires.step in
    collapse_is_left c.args.program.now.listing f.settled c.args.place step.measured (recorded c.args.rec step.inverted c.args.flip) f.latest.items f.left c.well_formed-2.ensures step.step c.requires.passed.judged

pub judge-requires-clause-long : goal.judge-requires-clause-long
judge-requires-clause-long g c =
    let program = c.args.program.now.listing in
    let f = c.args.found.now in
    λ e. subst (λ n. length (opened n f.latest.items) ≡ n) (sym c.target_count-targets.ensures.count) (latest_of_size program f.settled (c.args.place + 1) f.latest.items f.left c.requires.passed.judged e)

pub take_back-requires-clause-fits : goal.take_back-requires-clause-fits
take_back-requires-clause-fits g c =
    let program = c.args.program.now.listing in
    let f = c.args.found.now in
    let step = c.requires.step in
    let lists = c.requires.passed.lists in
    let tracked = g.T.Tracker.tracked c.args.tracker.now in
    let qubits : tracked.qubits ≡ program.qubits = ap (λ t. t.qubits) c.requires.passed.words in
    fits_after c.args.program.now (sym c.judge.ensures.words) (sym c.judge.ensures.lists)
    record {
      words = words_of_size program (drop (c.args.place + 1) program.steps) tracked c.requires.passed.words;
      long = lists.long;
      few = omega (arith, c.target_count-targets.ensures.count, c.target_count-targets.ensures.few);
      is_record = record_has_set c.args.rec program.records (length f.lists) lists.size (record_named c.args.program.now c.args.rec step.is_record);
      is_named = step.is_named;
      terms_fit = subst (λ n. All (λ term. term.qubit < n) c.args.terms.now) (sym qubits) step.terms_fit;
      reset_fits = subst (λ n. IfSome c.args.reset (λ q. q < n)) (sym qubits) step.reset_fits;
    }

pub let_go-requires : goal.let_go-requires
let_go-requires g c =
    let program = c.args.program.now in
    let f = c.args.found.now in
    let lists = c.requires.passed.lists in
    subst (λ (sets : List (List Bool)). IfSome c.args.rec (λ r. r < length sets)) (sym (c.in_ok-take_back.ensures.lists ∙ c.judge.ensures.lists))
    (record_has_set c.args.rec program.listing.records (length f.lists) lists.size (record_named program c.args.rec c.requires.step.is_record))

pub returns-in_err-judge : goal.returns-in_err-judge
returns-in_err-judge g c = over_failed (err_from_is_err_and c.from_residual.result c.from_residual.ensures.1).1 (stays_as c.judge.ensures.settled c.judge.ensures.keeps c.judge.ensures.known) refl

pub returns-in_err-take_back : goal.returns-in_err-take_back
returns-in_err-take_back g c =
    let e = c.take_back.ensures in
    over_failed (err_from_is_err_and c.from_residual-in_err-take_back.result c.from_residual-in_err-take_back.ensures.1).1 (stays_as (e.settled ∙ c.judge.ensures.settled) (e.keeps ∙ c.judge.ensures.keeps) (e.known ∙ c.judge.ensures.known)) e.store

pub returns : goal.returns
returns g c =
    let program = c.args.program.now in
    let f = c.args.found.now in
    let place = c.args.place in
    let tracked = g.T.Tracker.tracked c.args.tracker.now in
    let holds = g.L.LineStore.holds in
    let fits = c.well_formed-2.ensures in
    let now = c.let_go.new.self in
    let settled = c.take_back.ensures.settled ∙ c.judge.ensures.settled in
    let known = c.take_back.ensures.known ∙ c.judge.ensures.known in
    let lists = c.in_ok-take_back.ensures.lists ∙ c.judge.ensures.lists in
    let hit = ap (λ l. members_at l c.args.rec) c.judge.ensures.lists in
    let members = members_at c.judge.new.self.lists c.args.rec in
    let judged = collapse_judged program place c.args.terms.now c.args.reset c.args.rec c.args.flip tracked f fits c.requires.step c.requires.passed now.latest.items now.left
    (λ e. ap (λ l. opened (length (targets_of program.listing)) l.items) (c.let_go.ensures.latest ∙ c.take_back.ensures.latest)
    ∙ subst (λ n. opened n c.judge.new.self.latest.items ≡ noted (f.left - 1) (anticommuting c.args.terms.now tracked) (opened n f.latest.items)) c.target_count-targets.ensures.count (c.in_ok-judge.ensures.latest e))
    (λ e. c.let_go.ensures.left ∙ (c.take_back.ensures.left ∙ c.in_ok-judge.ensures.left e)) in
    let keeps = c.take_back.ensures.keeps ∙ c.judge.ensures.keeps in
    record {
      undone =
          record {
            passed =
                record {
                  within = omega (arith, c.requires.passed.within);
                  words = collapse_words program place c.args.terms.now c.args.reset c.args.rec c.args.flip tracked f fits c.requires.step c.requires.passed members _ hit (c.in_ok-take_back.ensures.words ∙ ap (undone_collapse members c.args.terms.now c.args.reset) c.judge.ensures.words);
                  lists = c.let_go.ensures.lists program.listing place (collapse_keeps program place c.args.terms.now c.args.reset c.args.rec c.args.flip tracked f fits c.requires.step c.requires.passed _ known)
                      (holds_same program.listing _ _ place _ _ _ _ settled known lists (collapse_lists program place c.args.terms.now c.args.reset c.args.rec c.args.flip tracked f fits c.requires.step c.requires.passed));
                  judged = subst (λ s. IsJudged program.listing s place now.latest.items now.left) (sym (c.let_go.ensures.settled ∙ settled)) judged;
                };
            stays = record { settled = c.let_go.ensures.settled ∙ settled; keeps = c.let_go.ensures.keeps ∙ keeps; known = λ e. c.let_go.ensures.known (keeps ∙ e) ∙ known };
          };
      lines =
          subst (Gives (holds c.args.lines.now) (holds c.take_back.new.lines))
          (collapse_line program place c.args.terms.now c.args.reset c.args.rec c.args.flip tracked f fits c.requires.step c.requires.passed members hit)
          c.in_ok-take_back.ensures.lines;
      store = c.take_back.ensures.store;
    }
