-- What is written for drawn shots of a program: a line for each shot, with its records, or with whether each detector
-- and each observable differs from that of the run without faults whose coins are all 0. (A coin is the outcome of a
-- collapse, the projective measurement inside a measurement or a reset, where that outcome is random.) A shot's faults
-- and coins are drawn by the next words of one generator, which is made from a seed and goes on from shot to shot.
-- (Stim's result format 01, and its commands sample and detect; the order of the words is this repository's own. The
-- generator is Pcg64 of Rust's rand_pcg, made from a seed as rand_core's seed_from_u64 does.)
use Rattle.std.specs.Prelude.{ℕ, Bool, List, [], length}
use Rattle.std.specs.List.{flat_map, range_with_len}
use Rattle.rand_core.specs.Pcg32Seed.{pcg32_seed}
use Rattle.rand_pcg.specs.Lcg.{Lcg}
use Rattle.rand_pcg.specs.Pcg.{pcg64_of_seed}
use Rattle.step_model.specs.Frames.{zero_coins}
use Rattle.step_model.specs.Listing.{Listing}
use Rattle.step_model.specs.Runs.{records_of}
use Rattle.step_model.specs.Targets.{difference}
use Rattle.forward_sim.specs.Drawn.{after_words, bounds_of, drawn_coins, drawn_faults, after_shots}
use Rattle.frames.specs.Lines.{line_of}

-- the faults and coins of the shot that a generator's next words draw
abbrev pub shot_faults : Listing → Lcg → List Bool
shot_faults program generator = drawn_faults (bounds_of program) generator

-- the coins of that shot
abbrev pub shot_coins : Listing → Lcg → List Bool
shot_coins program generator = drawn_coins program.collapses (after_words (length program.faults) generator)

-- the records of that shot
abbrev pub shot_records : Listing → Lcg → List Bool
shot_records program generator = records_of program (shot_faults program generator) (shot_coins program generator)

-- for each target of the shot whether it differs from that of the run without faults whose coins are all 0
abbrev pub shot_detections : Listing → Lcg → List Bool
shot_detections program generator =
    difference program (shot_records program generator) (records_of program [] (zero_coins program))

-- the line of each
abbrev pub record_line : Listing → Lcg → List ℕ
record_line program generator = line_of (shot_records program generator)

-- the line of its detections
abbrev pub detection_line : Listing → Lcg → List ℕ
detection_line program generator = line_of (shot_detections program generator)

-- the generator at the first word of shot k
abbrev pub shot_generator : Listing → Lcg → ℕ → Lcg
shot_generator program generator k = after_shots (length program.faults) program.collapses k generator

-- the lines of this many shots, drawn by a generator's next words
abbrev pub lines_from : (Listing → Lcg → List ℕ) → Listing → ℕ → Lcg → List ℕ
lines_from line program shots generator =
    flat_map (λ k. line program (shot_generator program generator k)) (range_with_len 0 shots)

-- the generator of a seed
abbrev pub seeded : ℕ → Lcg
seeded seed = pcg64_of_seed (pcg32_seed 32 seed)

-- the lines of this many shots of a seed
abbrev pub shots_text : (Listing → Lcg → List ℕ) → ℕ → ℕ → Listing → List ℕ
shots_text line shots seed program = lines_from line program shots (seeded seed)
