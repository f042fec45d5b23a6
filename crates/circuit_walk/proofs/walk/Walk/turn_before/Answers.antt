use Rattle.std.proofs.Common.{◌≡◌, ℕ, ◌≤◌, inl, inr, subst, ◌∙◌, arith}
use Rattle.std.proofs.lemmas.Bool.{cases_lt}
use Rattle.circuit_walk.specs.Programs.{KeptProgram}
use Rattle.circuit_walk.specs.Turns.{AreFedFrom}
use Rattle.circuit_walk.proofs.walk.Walk.turn_before.Goals as goal

-- one step more, and a number that is no greater
fed_more : (program now : KeptProgram) (low lowest from place to : ℕ) → program ≡ now → lowest ≤ low → AreFedFrom program.listing.steps lowest from place → AreFedFrom now.listing.steps low place to → AreFedFrom now.listing.steps lowest from to
fed_more program now low lowest from place to same less here behind k r w le lt is =
    elim (cases_lt k place) as (λ _. lowest ≤ r) [
      | inl before ↦ subst (λ (p : KeptProgram). AreFedFrom p.listing.steps lowest from place) same here k r w le before is
      | inr past ↦ let more = behind k r w past lt is in omega (arith, less, more)
    ]

pub loop-walk-preserved : goal.loop-walk-preserved
loop-walk-preserved g c =
    let i = c.loop-walk.invariant in
    let back = c.goes_back.ensures in
    let is = c.loop-walk-test.true in
    let more = fed_more c.loop-walk.walk.program c.args.self.now.program in
    record {
      program_is = back.program ∙ i.program_is;
      before = let one = back.back is in let before = i.before in omega (arith, one, before);
      own = more c.loop-walk.lowest c.goes_back.new.lowest c.goes_back.new.self.place c.loop-walk.walk.place c.args.self.now.place i.program_is back.lower (back.own is) i.own;
      none = λ off low. more low low c.goes_back.new.self.place c.loop-walk.walk.place c.args.self.now.place i.program_is (omega arith) (back.none is off low) (i.none off low);
    }

pub returns-then-records-lowest-clause-none : goal.returns-then-records-lowest-clause-none
returns-then-records-lowest-clause-none g c off low =
    let i = c.loop-walk.invariant in
    fed_more c.loop-walk.walk.program c.args.self.now.program low low c.goes_back.new.self.place c.loop-walk.walk.place c.args.self.now.place i.program_is (omega arith)
    (c.goes_back.ensures.none c.loop-walk-test.true off low) (i.none off low)
