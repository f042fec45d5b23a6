-- A frame before the collapse behind which it begins, at it, and behind it.
use Rattle.std.proofs.Common.{◌≡◌, ℕ, zero, suc, ◌+◌, ◌-◌, ◌==◌, if◌then◌else◌, Bool, true, false, List, [], ◌∷◌, ◌++◌, length, replicate, Option, None, Some, refl, sym, ap, ◌∙◌, arith, append-nil, append_assoc}
use Rattle.std.proofs.lemmas.List.{replicate_more}
use Rattle.std.specs.Option.{option_to_list}
use Rattle.pauli_word.specs.declared.letter.Letter.{Letter}
use Rattle.step_model.specs.Frames.{Frame, begun, carried, flips_from, flips_after, flips_of, first_word}
use Rattle.step_model.specs.declared.step.Place.{Place}
use Rattle.step_model.specs.declared.step.Place.TheVariants.{Start, After}
use Rattle.step_model.specs.Listing.{Listing, ListedStep, step_records, is_collapse}
use Rattle.step_model.specs.Sensitivities.{collapse_word}
use Rattle.run_laws.proofs.PairPlaces.{after_first}
use Rattle.frames.specs.private.Flips.{flip_of}
use Rattle.frames.specs.private.LoneFrames.{IsOnWay, IsWaiting, begins_as, begins_behind}
use Rattle.frames.proofs.FrameSteps.{flips-on, frame}

-- one flip more
one_more : (count : ℕ) (flips : List Bool) → replicate (count + 1) false ++ flips ≡ replicate count false ++ false ∷ flips
one_more count flips = ap (λ front. front ++ flips) (sym (replicate_more count false)) ∙ append_assoc (replicate count false) (false ∷ []) flips

-- a frame that flips none of some records more
more_records : (v : List Letter) (made more : ℕ) → frame v (replicate made false ++ replicate more false) ≡ begun v (made + more)
more_records v made zero =
    let same : made ≡ made + 0 = omega arith in
    ap (frame v) (append-nil (replicate made false)) ∙ ap (begun v) same
more_records v made (suc more) =
    let same : made + 1 + more ≡ made + suc more = omega arith in
    ap (frame v) (sym (append_assoc (replicate made false) (false ∷ []) (replicate more false)) ∙ ap (λ front. front ++ replicate more false) (replicate_more made false)) ∙ (more_records v (made + 1) more ∙ ap (begun v) same)

-- the start
pub on-way-start : (program : Listing) (place : Place) (v : List Letter) (collapsed : Bool) → IsOnWay program (begins_behind place) v collapsed program.steps (begins_behind place) (begun v 0) []
on-way-start program (Start q) v true = refl
on-way-start program (Start q) v false = refl
on-way-start program (After k) v collapsed =
    record { before = 0; made = 0; left = record { flips = λ v. refl; word = refl }; flips_are = refl; frame_is = refl }

-- the end
pub on-way-end : (program : Listing) (place : Place) (v : List Letter) (collapsed : Bool) (ahead : Option ℕ) (f : Frame) (flips : List Bool)
    → IsOnWay program (begins_behind place) v collapsed [] ahead f flips → flips ≡ flips_of program place (begins_as program collapsed (begins_behind place) v)
on-way-end program (After k) v collapsed (Some ahead) f flips h =
    h.flips_are ∙ (sym (append-nil (replicate h.before false)) ∙ h.left.flips (begins_as program collapsed (Some k) v))
on-way-end program (After k) v collapsed None f flips h = sym (append-nil flips) ∙ h
on-way-end program (Start q) v collapsed None f flips h = sym (append-nil flips) ∙ h
on-way-end program (Start q) v collapsed (Some ahead) f flips h = elim h [ ]

module _ (program : Listing) (behind : Option ℕ) (v : List Letter) (collapsed : Bool) (s : ListedStep) (steps : List ListedStep) (f : Frame) (flips : List Bool) where
  -- over a step behind the place where it begins
  pub on-way-carried : IsOnWay program behind v collapsed (s ∷ steps) None f flips
      → IsOnWay program behind v collapsed steps None (carried program.qubits s f) (flips ++ option_to_list (flip_of program.qubits f s))
  on-way-carried h = by_place behind h
    where
      by_place : (behind : Option ℕ) → IsOnWay program behind v collapsed (s ∷ steps) None f flips
          → IsOnWay program behind v collapsed steps None (carried program.qubits s f) (flips ++ option_to_list (flip_of program.qubits f s))
      by_place None h = flips-on program.qubits f s steps (s ∷ steps) flips _ refl h
      by_place (Some k) h = flips-on program.qubits f s steps (s ∷ steps) flips _ refl h

  -- the frame behind a step before that place
  abbrev passed : Frame
  passed = frame f.word (f.records ++ replicate (length (step_records s)) false)

  made_more : (made : ℕ) → f ≡ begun v made → passed ≡ begun v (made + length (step_records s))
  made_more made is = ap (λ (g : Frame). frame g.word (g.records ++ replicate (length (step_records s)) false)) is ∙ more_records v made (length (step_records s))

  -- over one that is no collapse
  pub on-way-step : (ahead : ℕ) → is_collapse s ≡ false → IsOnWay program behind v collapsed (s ∷ steps) (Some ahead) f flips
      → IsOnWay program behind v collapsed steps (Some ahead) passed flips
  on-way-step ahead other h = by_place behind h
    where
      by_place : (behind : Option ℕ) → IsOnWay program behind v collapsed (s ∷ steps) (Some ahead) f flips → IsOnWay program behind v collapsed steps (Some ahead) passed flips
      by_place None h = elim h [ ]
      by_place (Some k) h =
          record {
            before = h.before;
            made = h.made + length (step_records s);
            left = record { flips = λ w. rw other at h.left.flips w; word = rw other at h.left.word };
            flips_are = h.flips_are;
            frame_is = made_more h.made h.frame_is;
          }

  -- over a collapse before it
  pub on-way-collapse : (ahead : ℕ) → is_collapse s ≡ true → IsOnWay program behind v collapsed (s ∷ steps) (Some (suc ahead)) f flips
      → IsOnWay program behind v collapsed steps (Some ahead) passed (flips ++ false ∷ [])
  on-way-collapse ahead here h = by_place behind h
    where
      by_place : (behind : Option ℕ) → IsOnWay program behind v collapsed (s ∷ steps) (Some (suc ahead)) f flips → IsOnWay program behind v collapsed steps (Some ahead) passed (flips ++ false ∷ [])
      by_place None h = elim h [ ]
      by_place (Some k) h =
          let n = program.qubits in
          let so_far = h.made + length (step_records s) in
          record {
            before = h.before + 1;
            made = so_far;
            left = record {
              flips = λ w.
                  let later = after_first ahead (flips_from n (begun w so_far) steps) (λ j. flips_after n w j so_far steps) in
                  let whole : replicate h.before false ++ false ∷ (if suc ahead == 0 then flips_from n (begun w so_far) steps else flips_after n w (suc ahead - 1) so_far steps) ≡ flips_of program (After k) w = rw here at h.left.flips w in
                  one_more h.before _ ∙ (ap (λ flips. replicate h.before false ++ false ∷ flips) (sym later) ∙ whole);
              word = rw here at h.left.word;
            };
            flips_are = ap (λ flips. flips ++ false ∷ []) h.flips_are ∙ replicate_more h.before false;
            frame_is = made_more h.made h.frame_is;
          }

  -- over the collapse behind which it begins: as v, or as the word that is collapsed there
  module _ (here : is_collapse s ≡ true) where
    begins : (k : ℕ) (w : List Letter) (h : IsWaiting program k v (s ∷ steps) 0 f flips)
        → (flips ++ false ∷ []) ++ flips_from program.qubits (begun w (h.made + length (step_records s))) steps ≡ flips_of program (After k) w
    begins k w h =
        let n = program.qubits in
        let all = flips_from n (begun w (h.made + length (step_records s))) steps in
        let whole : replicate h.before false ++ false ∷ all ≡ flips_of program (After k) w = rw here at h.left.flips w in
        append_assoc flips (false ∷ []) all ∙ (ap (λ front. front ++ false ∷ all) h.flips_are ∙ whole)

    measured : (k : ℕ) → IsWaiting program k v (s ∷ steps) 0 f flips → collapse_word program.qubits s ≡ first_word program (After k)
    measured k h = rw here at h.left.word

    pub on-way-begun : collapsed ≡ false → IsOnWay program behind v collapsed (s ∷ steps) (Some 0) f flips → IsOnWay program behind v collapsed steps None passed (flips ++ false ∷ [])
    on-way-begun own h = by_place behind h
      where
        by_place : (behind : Option ℕ) → IsOnWay program behind v collapsed (s ∷ steps) (Some 0) f flips → IsOnWay program behind v collapsed steps None passed (flips ++ false ∷ [])
        by_place None h = elim h [ ]
        by_place (Some k) h =
            ap (λ g. (flips ++ false ∷ []) ++ flips_from program.qubits g steps) (made_more h.made h.frame_is)
            ∙ (begins k v h ∙ ap (λ b. flips_of program (After k) (begins_as program b (Some k) v)) (sym own))

    pub on-way-collapsed : collapsed ≡ true → IsOnWay program behind v collapsed (s ∷ steps) (Some 0) f flips
        → IsOnWay program behind v collapsed steps None (frame (collapse_word program.qubits s) passed.records) (flips ++ false ∷ [])
    on-way-collapsed own h = by_place behind h
      where
        by_place : (behind : Option ℕ) → IsOnWay program behind v collapsed (s ∷ steps) (Some 0) f flips
            → IsOnWay program behind v collapsed steps None (frame (collapse_word program.qubits s) passed.records) (flips ++ false ∷ [])
        by_place None h = elim h [ ]
        by_place (Some k) h =
            let word = collapse_word program.qubits s in
            ap (λ (g : Frame). (flips ++ false ∷ []) ++ flips_from program.qubits (frame word g.records) steps) (made_more h.made h.frame_is)
            ∙ (begins k word h
            ∙ (ap (flips_of program (After k)) (measured k h) ∙ ap (λ b. flips_of program (After k) (begins_as program b (Some k) v)) (sym own)))
