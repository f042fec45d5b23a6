use Rattle.std.proofs.Common.{◌+◌, ◌-◌, ◌^◌, ap, subst, sym, arith}
use Rattle.dem_text.specs.declared.standing.LineCounts.{LineCounts}
use Rattle.dem_text.specs.Meanings.{is_error}
use Rattle.dem_text.specs.Shifts.{Shift}
use Rattle.dem_text.specs.private.Offsets.{HasRoom}
use Rattle.dem_text.proofs.StandingLemmas.{errors-past, room-past}
use Rattle.dem_text.proofs.standing.Standing.pass.Goals as goal

pub returns-in-Some-clause-sound : goal.returns-in-Some-clause-sound
returns-in-Some-clause-sound c =
    let known = c.requires.known in
    let s = c.args.self.now in
    record {
      room =
          subst (λ (t : Shift). HasRoom t (2 ^ 64 - (s.passed + 1))) (sym (c.pass.ensures known.instruction known.brief_is))
          (room-past known.instruction c.args.line.now c.args.stated.now s.shift s.passed known.brief_is c.requires.sound.room c.requires.few);
      errors =
          let counts = (c.in-Some.ensures known.instruction known.brief_is).0 in
          let more = errors-past (is_error known.instruction.operation) s.counts.errors s.passed c.requires.sound.errors in
          omega (arith, more, ap (λ (x : LineCounts). x.errors) counts);
    }
