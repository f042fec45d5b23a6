use Rattle.std.proofs.Common.{List, [], Option, refl, map, ap, ap₂, sym, ◌∙◌}
use Rattle.std.specs.Prelude.{unwrap_or}
use Rattle.std.proofs.lemmas.Bool.{eqb-true}
use Rattle.std.proofs.lemmas.List.{nil_from_length}
use Rattle.dem_text.specs.declared.standing.Standing.{Standing}
use Rattle.dem_text.specs.declared.target.Target.{Target}
use Rattle.dem_text.specs.Shifts.{shifted_target}
use Rattle.dem_text.specs.private.Numbered.{numbers_of}
use Rattle.dem_text.specs.private.Tables.{most_detectors}
use Rattle.dem_text.specs.private.Turned.{turned}
use Rattle.dem_text.proofs.PartLemmas.{turns-none, turns-part}
use Rattle.dem_text.proofs.front.Front.turn_text.Goals as goal

pub loop-rest-init : goal.loop-rest-init
loop-rest-init g c =
    let fold = c.args.self.now.fold in
    record {
      turns = record {
        targets = c.requires.0;
        read = c.requires.1;
        turned_are = ap (λ (found : Option (List Target)). turned fold.bits (numbers_of most_detectors (map (shifted_target fold.standing.shift.detectors) (unwrap_or found [])))) (sym c.requires.1);
      };
      standing = refl;
      later = refl;
      read = refl;
      unrolled = refl;
    }

pub loop-rest-preserved : goal.loop-rest-preserved
loop-rest-preserved g c =
    let fold = c.loop-rest.self.fold in
    let e = c.loop-rest.invariant in
    record {
      turns =
          turns-part most_detectors (shifted_target c.args.self.now.fold.standing.shift.detectors) c.loop-rest.rest.now c.part_of.result.0.now c.part_of.result.1.now fold.bits c.turn.new.self.bits _ _ _ e.turns
          c.part_of.ensures.text c.part_of.ensures.apart c.in_ok-read_targets.ensures
          (c.turn.ensures.bits
          ∙ ap₂ (λ (t : Standing) (us : List Target). turned fold.bits (numbers_of most_detectors (map (shifted_target t.shift.detectors) us))) e.standing c.as_slice.ensures.value);
      standing = c.turn.ensures.standing ∙ e.standing;
      later = c.turn.ensures.later ∙ e.later;
      read = e.read;
      unrolled = e.unrolled;
    }

pub returns-clause-turned : goal.returns-clause-turned
returns-clause-turned g c =
    let e = c.loop-rest.invariant in
    record { bits = turns-none _ _ _ _ _ e.turns (nil_from_length _ (eqb-true _ _ (sym c.is_empty.ensures ∙ c.loop-rest-test.false))); standing = e.standing; later = e.later }
