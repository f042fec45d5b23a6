use Rattle.std.proofs.Common.{List, ℕ, subst}
use Rattle.dem_text.specs.private.Making.{HasTaken}
use Rattle.dem_text.proofs.PredictedLemmas.{ended-at, few-detectors, few-places, none-predicted, refused-predicted, some-predicted}
use Rattle.dem_text.proofs.prediction.Gathering.finish.Goals as goal

pub returns-in-Some : goal.returns-in-Some
returns-in-Some g c old new h =
    record {
      text = h.handed;
      handed_out = h.handed_out;
      is = refused-predicted c.args.numbers.now h.handed c.args.self.now c.in-Some.fault c.in-Some.is h.stands;
    }

pub returns-in-Err : goal.returns-in-Err
returns-in-Err g c old new h =
    let self = c.args.self.now in
    let taken = subst (λ (t : List ℕ). HasTaken t c.in_ok-ended.field-0-0.now c.in_ok-ended.ended self.front c.take_lines.new.self) c.as_slice.ensures.value c.in_ok-ended.ensures in
    let at = ended-at c.args.numbers.now h.handed c.in_ok-ended.field-0-0.now c.in_ok-ended.ended self c.take_lines.new.self h.stands c.in_default.is taken in
    record { text = h.handed; handed_out = h.handed_out; is = c.in-Err.ensures _ _ h.handed at.tree at.at }

pub returns-then-not-are_below : goal.returns-then-not-are_below
returns-then-not-are_below g c old new h =
    let self = c.args.self.now in
    let taken = subst (λ (t : List ℕ). HasTaken t c.in_ok-ended.field-0-0.now c.in_ok-ended.ended self.front c.take_lines.new.self) c.as_slice.ensures.value c.in_ok-ended.ensures in
    let at = ended-at c.args.numbers.now h.handed c.in_ok-ended.field-0-0.now c.in_ok-ended.ended self c.take_lines.new.self h.stands c.in_default.is taken in
    record {
      text = h.handed;
      handed_out = h.handed_out;
      is = none-predicted h.handed at.tree c.in-Ok.counts (c.in-Ok.ensures _ _ h.handed at.tree at.at) c.args.numbers.now c.if-not-are_below.ensures;
    }

pub symptom_of-requires-clause-detectors : goal.symptom_of-requires-clause-detectors
symptom_of-requires-clause-detectors g c =
    let self = c.args.self.now in
    let known = c.requires.known in
    let taken = subst (λ (t : List ℕ). HasTaken t c.in_ok-ended.field-0-0.now c.in_ok-ended.ended self.front c.take_lines.new.self) c.as_slice.ensures.value c.in_ok-ended.ensures in
    let at = ended-at c.args.numbers.now known.0 c.in_ok-ended.field-0-0.now c.in_ok-ended.ended self c.take_lines.new.self known.1 c.in_default.is taken in
    few-detectors known.0 at.tree c.in-Ok.counts (c.in-Ok.ensures _ _ known.0 at.tree at.at)

pub symptom_of-requires-clause-places : goal.symptom_of-requires-clause-places
symptom_of-requires-clause-places g c =
    let self = c.args.self.now in
    let known = c.requires.known in
    let taken = subst (λ (t : List ℕ). HasTaken t c.in_ok-ended.field-0-0.now c.in_ok-ended.ended self.front c.take_lines.new.self) c.as_slice.ensures.value c.in_ok-ended.ensures in
    let at = ended-at c.args.numbers.now known.0 c.in_ok-ended.field-0-0.now c.in_ok-ended.ended self c.take_lines.new.self known.1 c.in_default.is taken in
    few-places known.0 at.tree c.in-Ok.counts (c.in-Ok.ensures _ _ known.0 at.tree at.at) c.args.numbers.now c.in_ok-ended.ended c.take_lines.new.self at.at

pub returns : goal.returns
returns g c old new h =
    let self = c.args.self.now in
    let taken = subst (λ (t : List ℕ). HasTaken t c.in_ok-ended.field-0-0.now c.in_ok-ended.ended self.front c.take_lines.new.self) c.as_slice.ensures.value c.in_ok-ended.ensures in
    let at = ended-at c.args.numbers.now h.handed c.in_ok-ended.field-0-0.now c.in_ok-ended.ended self c.take_lines.new.self h.stands c.in_default.is taken in
    record {
      text = h.handed;
      handed_out = h.handed_out;
      is = some-predicted h.handed at.tree c.in-Ok.counts (c.in-Ok.ensures _ _ h.handed at.tree at.at) c.args.numbers.now c.in_ok-ended.ended c.take_lines.new.self c.in_ok-symptom_of.field-0.items at.at c.if-not-are_below.ensures c.in_ok-symptom_of.ensures;
    }
