use Rattle.std.proofs.Common.{◌≡◌, List, [], length, set, get_or, ap, sym, ◌∙◌, arith, length-set}
use Rattle.std.specs.Prelude.{All}
use Rattle.std.proofs.lemmas.List.Elements.{All-set}
use Rattle.pauli_word.specs.declared.letter.Letter.{Letter}
use Rattle.trackers.specs.Tracked.{Tracked, each_word, undone_two}
use Rattle.trackers.specs.private.Transposed.{first_before, second_before}
use Rattle.trackers.proofs.LengthLemmas.{at_columns, lent_long}
use Rattle.trackers.proofs.TransposedLemmas.{tracked_two}
use Rattle.trackers.proofs.words.Words.undo_by_images.Goals as goal

pub image_pair-requires-clause-first_place : goal.image_pair-requires-clause-first_place
image_pair-requires-clause-first_place g c = omega (arith, ap length c.as_slice.ensures.value, ap (λ (t : Tracked). t.qubits) c.self.view_is, c.requires.places.first)

pub image_pair-requires-clause-second_place : goal.image_pair-requires-clause-second_place
image_pair-requires-clause-second_place g c = omega (arith, ap length c.as_slice.ensures.value, ap (λ (t : Tracked). t.qubits) c.self.view_is, c.requires.places.second)

pub image_pair-requires-clause-long : goal.image_pair-requires-clause-long
image_pair-requires-clause-long g c =
    lent_long c.self.inside.targets c.self.inside.columns.items _ (g.S.TargetSet.bits c.self.inside.spare) c.as_slice.ensures.value c.self.invariant.spare_long c.self.invariant.columns_long

pub image_pair-requires-clause-first_long : goal.image_pair-requires-clause-first_long
image_pair-requires-clause-first_long g c = c.self.invariant.first_long ∙ sym c.self.invariant.spare_long

pub image_pair-requires-clause-second_long : goal.image_pair-requires-clause-second_long
image_pair-requires-clause-second_long g c = c.self.invariant.second_long ∙ sym c.self.invariant.spare_long

pub invariant_of-self : goal.invariant_of-self
invariant_of-self g c =
    record {
      columns_long = c.self.invariant.columns_long;
      first_long = c.image_pair.ensures.first_len ∙ c.self.invariant.first_long;
      second_long = c.image_pair.ensures.second_len ∙ c.self.invariant.second_long;
      set_long = c.self.invariant.set_long;
      spare_long = c.image_pair.ensures.spare ∙ c.self.invariant.spare_long;
      few = c.self.invariant.few;
    }

pub invariant_of-self-2 : goal.invariant_of-self-2
invariant_of-self-2 g c =
    let m = c.self.inside.targets in
    let columns = c.self.inside.columns.items in
    let a = c.args.a in
    let b = c.args.b in
    let places = at_columns m columns c.args.self.now c.self.view_is c.requires.places in
    let first : length c.swap.new.self ≡ m = ap length c.swap.ensures.first ∙ (c.image_pair.ensures.first_len ∙ c.self.invariant.first_long) in
    let second : length c.swap-2.new.self ≡ m = ap length c.swap-2.ensures.first ∙ (c.image_pair.ensures.second_len ∙ c.self.invariant.second_long) in
    let once : All (λ column. length column ≡ m) (set columns a c.swap.new.self) = All-set (λ column. length column ≡ m) columns a c.swap.new.self first c.self.invariant.columns_long in
    record {
      columns_long = All-set (λ column. length column ≡ m) (set columns a c.swap.new.self) b c.swap-2.new.self second once;
      first_long = ap length c.swap.ensures.second ∙ (ap length c.index_mut.ensures.value ∙ c.self.invariant.columns_long a _ places.first);
      second_long = ap length c.swap-2.ensures.second ∙ (ap length c.index_mut-2.ensures.value ∙ once b _ (omega (arith, places.second, length-set columns a c.swap.new.self)));
      set_long = c.self.invariant.set_long;
      spare_long = c.image_pair.ensures.spare ∙ c.self.invariant.spare_long;
      few = c.self.invariant.few;
    }

pub returns : goal.returns
returns g c =
    let m = c.self.inside.targets in
    let columns = c.self.inside.columns.items in
    let a = c.args.a in
    let b = c.args.b in
    let places = at_columns m columns c.args.self.now c.self.view_is c.requires.places in
    let held : c.as_slice.result.now ≡ columns = c.as_slice.ensures.value in
    let first = c.swap.ensures.first ∙ (c.in_ok-image_pair.ensures.first ∙ ap (λ (l : List (List Letter)). first_before c.args.gate (get_or l a []) (get_or l b [])) held) in
    let second = c.swap-2.ensures.first ∙ (c.in_ok-image_pair.ensures.second ∙ ap (λ (l : List (List Letter)). second_before c.args.gate (get_or l a []) (get_or l b [])) held) in
    tracked_two m columns a b c.args.gate c.swap.new.self c.swap-2.new.self places.first places.second (c.self.invariant.columns_long a [] places.first) (c.self.invariant.columns_long b [] places.second) first second
    ∙ ap (each_word (undone_two c.args.gate a b)) c.self.view_is
