use Rattle.std.proofs.Common.{length, refl}
use Rattle.circuit_walk.specs.Letters.{letters_in}
use Rattle.pauli_word.specs.declared.letter.Letter.TheVariants.{I}
use Rattle.step_model.specs.Listing.{word_of_terms}
use Rattle.frames.specs.private.Followed.{terms_of}
use Rattle.frames.proofs.FollowedSteps.{flips_turned, goes_turned}
use Rattle.frames.proofs.steps.collapse_product.Goals as goal

pub returns-clause-moved : goal.returns-clause-moved
returns-clause-moved g c =
    let old = c.args.frames.now in
    let n = length old.letters in
    goes_turned n (terms_of c.args.replaced) c.args.coins c.meet-met.result c.turn.result 0 I old c.turn.new.frames refl (word_of_terms n (letters_in c.args.letters)) c.requires.turns c.meet-met.ensures c.turn.ensures.moved c.turn.ensures.flips

pub returns-clause-flips : goal.returns-clause-flips
returns-clause-flips g c =
    let old = c.args.frames.now in
    let n = length old.letters in
    flips_turned n (terms_of c.args.replaced) c.args.coins c.meet-met.result c.turn.result 0 I old c.turn.new.frames refl (word_of_terms n (letters_in c.args.letters)) c.requires.turns c.meet-met.ensures c.turn.ensures.moved c.turn.ensures.flips
