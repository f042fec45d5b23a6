use Rattle.std.proofs.Common.{◌<◌, length, ap, refl, subst, sym, ◌∙◌}
use Rattle.std.specs.Prelude.{All}
use Rattle.std.specs.List.Sorted.{IsStrictlyIncreasing}
use Rattle.std.proofs.lemmas.Result.{on_ok_weaker}
use Rattle.step_model.specs.Targets.{targets_of}
use Rattle.backward.specs.private.Collapses.{undone_collapse}
use Rattle.backward.specs.private.Stretches.{Gives, flip_line}
use Rattle.backward.proofs.PassSteps.{flip_named}
use Rattle.backward.proofs.RecordMembers.{members_at-ascend, members_at-within}
use Rattle.backward.proofs.StepLemmas.{on_ok_any}
use Rattle.backward.proofs.collapse.take_back.Goals as goal

pub note_flip-requires-clause-named : goal.note_flip-requires-clause-named
note_flip-requires-clause-named g c =
    let fits = c.requires.fits in
    let n = length (targets_of c.args.program.now.listing) in
    subst (All (λ t. t < n)) (sym c.in-Some.ensures) (members_at-within c.args.found.now.lists c.args.rec n fits.is_record fits.long)

pub note_flip-requires-clause-flip : goal.note_flip-requires-clause-flip
note_flip-requires-clause-flip g c = flip_named c.args.program.now c.args.rec c.args.flip c.requires.fits.is_named

pub note_flip-requires-in-None-clause-flip : goal.note_flip-requires-in-None-clause-flip
note_flip-requires-in-None-clause-flip g c = flip_named c.args.program.now c.args.rec c.args.flip c.requires.fits.is_named

pub undo_collapse-requires-clause-ascending : goal.undo_collapse-requires-clause-ascending
undo_collapse-requires-clause-ascending g c =
    subst IsStrictlyIncreasing (sym c.in-Some.ensures) (members_at-ascend c.args.found.now.lists c.args.rec)

pub undo_collapse-requires-clause-named : goal.undo_collapse-requires-clause-named
undo_collapse-requires-clause-named g c =
    let fits = c.requires.fits in
    let n = length (targets_of c.args.program.now.listing) in
    subst (λ m. All (λ t. t < m) c.in-Some.listed.now) (sym fits.words)
    (subst (All (λ t. t < n)) (sym c.in-Some.ensures) (members_at-within c.args.found.now.lists c.args.rec n fits.is_record fits.long))

pub returns-in_ok-note_flip-in-Some : goal.returns-in_ok-note_flip-in-Some
returns-in_ok-note_flip-in-Some g c =
    let r = c.undo_collapse.result in
    record {
      words = on_ok_weaker r (λ h. h ∙ ap (λ l. undone_collapse l c.args.terms.now c.args.reset (g.T.Tracker.tracked c.args.tracker.now)) c.in-Some.ensures) c.undo_collapse.ensures;
      lines =
          on_ok_any r
          (subst (λ l. Gives (g.L.LineStore.holds c.args.lines.now) (g.L.LineStore.holds c.note_flip.new.lines) (flip_line c.args.program.now c.args.flip l)) c.in-Some.ensures c.in_ok-note_flip-in-Some.ensures.lines);
      store = c.note_flip.ensures.store;
      lists = on_ok_any r refl;
      settled = refl;
      keeps = refl;
      known = refl;
      latest = refl;
      left = refl;
    }

pub note_flip-requires-in-None-clause-named : goal.note_flip-requires-in-None-clause-named
note_flip-requires-in-None-clause-named g c =
    let fits = c.requires.fits in
    let n = length (targets_of c.args.program.now.listing) in
    subst (All (λ t. t < n)) (sym (c.as_slice.ensures.value ∙ c.in_ok-list_record-in-None.ensures.hit)) (members_at-within c.args.found.now.lists c.args.rec n fits.is_record fits.long)

pub undo_collapse-requires-in-None-clause-ascending : goal.undo_collapse-requires-in-None-clause-ascending
undo_collapse-requires-in-None-clause-ascending g c =
    subst IsStrictlyIncreasing (sym (c.as_slice-in-None.ensures.value ∙ c.in_ok-list_record-in-None.ensures.hit)) (members_at-ascend c.args.found.now.lists c.args.rec)

pub undo_collapse-requires-in-None-clause-named : goal.undo_collapse-requires-in-None-clause-named
undo_collapse-requires-in-None-clause-named g c =
    let fits = c.requires.fits in
    let n = length (targets_of c.args.program.now.listing) in
    subst (λ m. All (λ t. t < m) c.as_slice-in-None.result.now) (sym fits.words)
    (subst (All (λ t. t < n)) (sym (c.as_slice-in-None.ensures.value ∙ c.in_ok-list_record-in-None.ensures.hit)) (members_at-within c.args.found.now.lists c.args.rec n fits.is_record fits.long))

pub returns-in_ok-note_flip-in-None : goal.returns-in_ok-note_flip-in-None
returns-in_ok-note_flip-in-None g c =
    let r = c.undo_collapse-in-None.result in
    let e = c.list_record.ensures in
    record {
      words = on_ok_weaker r (λ h. h ∙ ap (λ l. undone_collapse l c.args.terms.now c.args.reset (g.T.Tracker.tracked c.args.tracker.now)) (c.as_slice-in-None.ensures.value ∙ c.in_ok-list_record-in-None.ensures.hit)) c.undo_collapse-in-None.ensures;
      lines =
          on_ok_any r
          (subst (λ l. Gives (g.L.LineStore.holds c.args.lines.now) (g.L.LineStore.holds c.note_flip-in-None.new.lines) (flip_line c.args.program.now c.args.flip l)) (c.as_slice.ensures.value ∙ c.in_ok-list_record-in-None.ensures.hit) c.in_ok-note_flip-in-None.ensures.lines);
      store = c.note_flip-in-None.ensures.store;
      lists = on_ok_any r c.in_ok-list_record-in-None.ensures.lists;
      settled = e.settled;
      keeps = e.keeps;
      known = e.known;
      latest = e.latest;
      left = e.left;
    }
