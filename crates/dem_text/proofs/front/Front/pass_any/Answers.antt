use Rattle.std.proofs.Common.{◌+◌, [], refl, arith}
use Rattle.std.proofs.lemmas.Result.{IfOk-weaker}
use Rattle.dem_text.specs.private.Making.{PassesFirst}
use Rattle.dem_text.proofs.KeepingLemmas.{reading-fits}
use Rattle.dem_text.proofs.PassedLemmas.{passed-from, passed-none, passed-silent, passes-from, refused-first}
use Rattle.stim_lexer.specs.Texts.{Closes}
use Rattle.dem_text.proofs.front.Front.pass_any.Goals as goal

pub unreachable-requires : goal.unreachable-requires
unreachable-requires g c =
    let found = rw c.in-Some-Closes.field-0-is at (rw c.in-Some-Closes.is at c.in_ok-said_in.ensures) in
    let fits = reading-fits [] (c.args.self.now.read + 1) c.first_line.result.0.now Closes found.1 in omega (arith, fits)

pub returns-in-None : goal.returns-in-None
returns-in-None g c =
    let found = rw c.in-None.is at c.in_ok-said_in.ensures in (
      passed-silent c.args.self.now _ c.args.text.now c.first_line.result.0.now c.first_line.result.1.now c.first_line.ensures refl refl c.requires.ready found refl,
      c.first_line.ensures.less,
    )

pub take_line-requires-clause-speaks : goal.take_line-requires-clause-speaks
take_line-requires-clause-speaks g c =
    let found = rw c.in-Some-Accepts.field-0-is at (rw c.in-Some-Accepts.is at c.in_ok-said_in.ensures) in found.0

pub take_line-requires-clause-accepted : goal.take_line-requires-clause-accepted
take_line-requires-clause-accepted g c =
    let found = rw c.in-Some-Accepts.field-0-is at (rw c.in-Some-Accepts.is at c.in_ok-said_in.ensures) in found.1

pub pass_block-requires-clause-speaks : goal.pass_block-requires-clause-speaks
pass_block-requires-clause-speaks g c =
    let found = rw c.in-Some-Opens.field-0-is at (rw c.in-Some-Opens.is at c.in_ok-said_in.ensures) in found.0

pub pass_block-requires-clause-opened : goal.pass_block-requires-clause-opened
pass_block-requires-clause-opened g c =
    let found = rw c.in-Some-Opens.field-0-is at (rw c.in-Some-Opens.is at c.in_ok-said_in.ensures) in found.1

pub returns-in-Some-Accepts : goal.returns-in-Some-Accepts
returns-in-Some-Accepts g c = (passed-from c.args.self.now _ _ refl refl refl c.args.text.now c.first_line.result.1.now c.take_line.ensures, c.first_line.ensures.less)

pub returns-in-Some-Opens : goal.returns-in-Some-Opens
returns-in-Some-Opens g c =
    let old = c.args.self.now in
    let new = c.pass_block.new.self in
    let text = c.args.text.now in
    IfOk-weaker c.pass_block.result (λ passed. PassesFirst text passed (record old { targets = c.said_in.new.targets }) new) (λ passed. PassesFirst text passed old new)
    (λ passed h. passes-from old (record old { targets = c.said_in.new.targets }) new refl refl refl text passed h) c.pass_block.ensures

pub returns-in-Some-Refuses : goal.returns-in-Some-Refuses
returns-in-Some-Refuses g c =
    let found = rw c.in-Some-Refuses.field-0-is at (rw c.in-Some-Refuses.is at c.in_ok-said_in.ensures) in (
      passed-none c.args.self.now _ c.args.text.now refl refl refl c.requires.ready,
      refused-first c.args.self.now.read c.args.text.now c.first_line.result.0.now c.first_line.result.1.now _ c.first_line.ensures found.0 found.1,
    )
