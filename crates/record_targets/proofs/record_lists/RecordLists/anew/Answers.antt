use Rattle.std.proofs.Common.{◌≡◌, ◌<◌, ℕ, Bool, false, [], List, length, get_or, set, length-set, inl, inr, ap, subst, sym, ◌∙◌, arith}
use Rattle.std.specs.Prelude.{All, replicate}
use Rattle.std.proofs.lemmas.Bool.{cases_eq}
use Rattle.std.proofs.lemmas.List.{ext_get_or, get_or-replicate, get_or-set_other, get_or-set_same, length-replicate}
use Rattle.record_targets.proofs.LinkLemmas.{put_members, rows_counted, rows_of_length}
use Rattle.step_model.proofs.MemberLemmas.{members_within}
use Rattle.record_targets.proofs.record_lists.RecordLists.anew.Goals as goal

pub loop-rec-init : goal.loop-rec-init
loop-rec-init g c =
    let m = c.self.inside.targets in
    let n = c.len-records.result in
    let links = c.self.inside.links.items in
    let places = c.self.inside.places.items in
    let sets = c.args.self.now in
    let count = rows_counted m links places sets c.self.view_is in
    let many : n ≡ length sets = omega (arith, count, c.len-records.ensures) in
    let none : c.in_ok-lists.lists ≡ replicate n (replicate m false) = c.in_ok-lists.ensures in
    record {
      long = ap length none ∙ (length-replicate n (replicate m false) ∙ many);
      done = λ k lt. absurd (omega (arith, lt));
      left = λ k low lt.
          ap (λ (rows : List (List Bool)). get_or rows k []) none
          ∙ (get_or-replicate n k (replicate m false) [] (omega (arith, lt, many))
          ∙ ap (λ n. replicate n false) (sym (rows_of_length m links places sets k c.self.view_is lt)));
    }

pub list-requires : goal.list-requires
list-requires g c =
    let count = rows_counted c.self.inside.targets c.self.inside.links.items c.self.inside.places.items c.args.self.now c.self.view_is in
    omega (arith, count, c.len-records.ensures, c.loop-rec-test.true)

pub put-requires-clause-rec : goal.put-requires-clause-rec
put-requires-clause-rec g c =
    let count = rows_counted c.self.inside.targets c.self.inside.links.items c.self.inside.places.items c.args.self.now c.self.view_is in
    omega (arith, count, c.len-records.ensures, c.loop-rec-test.true, c.loop-rec.invariant.long)

pub put-requires-clause-targets : goal.put-requires-clause-targets
put-requires-clause-targets g c =
    let sets = c.args.self.now in
    let rec = c.loop-rec.rec in
    let count = rows_counted c.self.inside.targets c.self.inside.links.items c.self.inside.places.items sets c.self.view_is in
    let within : rec < length sets = omega (arith, count, c.len-records.ensures, c.loop-rec-test.true) in
    let n = length (get_or sets rec []) in
    let long : length (get_or c.loop-rec.lists rec []) ≡ n = ap length (c.loop-rec.invariant.left rec (omega arith) within) ∙ length-replicate n false in
    subst (λ (b : ℕ). All (λ t. t < b) c.as_slice.result.now) (sym long)
    (subst (All (λ t. t < n)) (sym (c.as_slice.ensures.value ∙ c.in_ok-list.ensures)) (members_within (get_or sets rec [])))

pub loop-rec-preserved : goal.loop-rec-preserved
loop-rec-preserved g c =
    let sets = c.args.self.now in
    let lists = c.loop-rec.lists in
    let rec = c.loop-rec.rec in
    let held = c.loop-rec.invariant in
    let count = rows_counted c.self.inside.targets c.self.inside.links.items c.self.inside.places.items sets c.self.view_is in
    let within : rec < length sets = omega (arith, count, c.len-records.ensures, c.loop-rec-test.true) in
    let row = get_or sets rec [] in
    let is_set : c.put.new.self ≡ set lists rec row =
    c.in_ok-put.ensures.ok ∙ ap (set lists rec) (put_members row c.as_slice.result.now (get_or lists rec []) (c.as_slice.ensures.value ∙ c.in_ok-list.ensures) (held.left rec (omega arith) within)) in
    record {
      long = ap length is_set ∙ (length-set lists rec row ∙ held.long);
      done = λ k lt.
          ap (λ (rows : List (List Bool)). get_or rows k []) is_set
          ∙ elim (cases_eq k rec) as (λ _. get_or (set lists rec row) k [] ≡ get_or sets k []) [
            | inl e ↦ ap (λ i. get_or (set lists rec row) i []) e ∙ (get_or-set_same lists rec row [] (omega (arith, within, held.long)) ∙ ap (λ i. get_or sets i []) (sym e))
            | inr ne ↦ get_or-set_other lists rec k row [] ne ∙ held.done k (omega (arith, lt, ne))
          ];
      left = λ k low lt.
          ap (λ (rows : List (List Bool)). get_or rows k []) is_set
          ∙ (get_or-set_other lists rec k row [] (omega (arith, low)) ∙ held.left k (omega (arith, low)) lt);
    }

pub returns : goal.returns
returns g c =
    let sets = c.args.self.now in
    let count = rows_counted c.self.inside.targets c.self.inside.links.items c.self.inside.places.items sets c.self.view_is in
    ext_get_or [] c.loop-rec.lists sets c.loop-rec.invariant.long
    (λ k lt. c.loop-rec.invariant.done k (omega (arith, lt, c.loop-rec.invariant.long, count, c.len-records.ensures, c.loop-rec-test.false)))
