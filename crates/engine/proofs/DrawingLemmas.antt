-- What shots of a text write is what those of the program write for which the text stands. Too many are refused.
use Rattle.std.proofs.Common.{◌≡◌, ◌<◌, ℕ, List, ap, arith}
use Rattle.std.specs.Prelude.{Ok, Err}
use Rattle.std.proofs.lemmas.Bool.Decides.{nat_tests}
use Rattle.rand_pcg.specs.Lcg.{Lcg}
use Rattle.step_model.specs.declared.fault.Cause.TheVariants.{Shots}
use Rattle.step_model.specs.Listing.{Listing}
use Rattle.unroll.specs.Programs.{program_in}
use Rattle.step_model.specs.Faults.{without_line, ◌>>=◌}
use Rattle.engine.specs.Output.{most_shots, program_shots, shots_output}

pub shots_of_text : (line : Listing → Lcg → List ℕ) (shots seed : ℕ) (text : List ℕ) (program : Listing) → program_in text ≡ Ok program
    → shots_output line shots seed text ≡ program_shots line shots seed program
shots_of_text line shots seed text program read = ap (λ first. first >>= program_shots line shots seed) read

pub too_many : (line : Listing → Lcg → List ℕ) (shots seed : ℕ) (program : Listing) → most_shots < shots
    → program_shots line shots seed program ≡ Err (without_line Shots)
too_many line shots seed program more = grind (arith, nat_tests)
