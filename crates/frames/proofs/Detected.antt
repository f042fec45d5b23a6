-- The words of targets behind one more declaration, and behind all.
use Rattle.std.proofs.Common.{◌≡◌, ◌+◌, ◌-◌, ◌<◌, ◌==◌, ℕ, Bool, false, if◌then◌else◌, List, [], ◌∷◌, ◌++◌, length, get_or, replicate, set, inl, inr, refl, ap, ap₂, subst, sym, ◌∙◌, arith, append-nil, length-append, length-set, get_or-set_same, get_or-set_other}
use Rattle.std.proofs.lemmas.Bool.{cases_eq, cases_lt, eq-eqb, ne_eqb}
use Rattle.std.proofs.lemmas.List.{ext_get_or, get_or-append-add, get_or_append_left, get_or-map, get_or-replicate, length-map, length-replicate}
use Rattle.bit_rows.specs.Lanes.{lane, lane_bit}
use Rattle.bit_rows.proofs.LaneLaws.{lane_bit-zero}
use Rattle.pauli_word.specs.Parity.{exclusive_or}
use Rattle.circuit_walk.proofs.DeclaredParts as parts
use Rattle.circuit_walk.specs.Declarations.{AreDeclarations, Declared, Detector, Inclusion, IsNextDeclared, added_to, detectors_in}
use Rattle.step_model.specs.Listing.{Listing}
use Rattle.step_model.specs.Targets.{parities, parity, target_at, targets_of}
use Rattle.forward_sim.proofs.AnswerLemmas.{parity-append}
use Rattle.frames.specs.private.Detected.{AreDetected, HasParities}
use Rattle.frames.proofs.ShownLemmas.{filled_more}

module _ (program : Listing) (begun flips : List ℕ) where
  -- ---- at the start

  pub detected-start : flips ≡ begun → (n : ℕ) → n ≡ length (targets_of program) → AreDetected program begun [] flips (replicate n 0)
  detected-start same n size = record {
    same = same;
    size = length-replicate n 0 ∙ size;
    detectors = λ d below. absurd (omega (arith, below));
    observables = λ k below j.
        ap (lane_bit j) (get_or-replicate n (length program.detectors + k) 0 0 (omega (arith, below, size, length-append program.detectors program.observables)))
        ∙ lane_bit-zero j;
  }

  module _ (done : List Declared) (words : List ℕ) (records : List ℕ) (are : AreDetected program begun done flips words) where
    -- ---- a detector

    module _ (next : IsNextDeclared program done (Detector records)) where
      pub next_detector : length (detectors_in done) < length program.detectors
      next_detector = parts.next_detector program done records next

      pub next_detector_word : length (detectors_in done) < length words
      next_detector_word = omega (arith, next_detector, are.size, length-append program.detectors program.observables)

      next_is_target : target_at program (length (detectors_in done)) ≡ records
      next_is_target =
          get_or_append_left program.detectors program.observables [] (length (detectors_in done)) next_detector
          ∙ parts.detector_is program done records next

      pub one_more : length (detectors_in (done ++ Detector records ∷ [])) ≡ length (detectors_in done) + 1
      one_more = parts.one_detector done records

      pub detected-detector : (word : ℕ) → HasParities flips records word
          → AreDetected program begun (done ++ Detector records ∷ []) flips (set words (length (detectors_in done)) word)
      detected-detector word is =
          let n = length (detectors_in done) in
          record {
            same = are.same;
            size = length-set words n word ∙ are.size;
            detectors = λ d below.
                filled_more (λ i w. HasParities flips (target_at program i) w) words n word next_detector_word are.detectors
                (subst (λ named. HasParities flips named word) (sym next_is_target) is)
                d (omega (arith, below, one_more));
            observables = λ k below j.
                ap (lane_bit j) (get_or-set_other words n (length program.detectors + k) word 0 (λ e. absurd (omega (arith, e, next_detector))))
                ∙ are.observables k below j
                ∙ ap (λ named. parity named (lane j flips)) (sym (parts.added-append k done (Detector records ∷ []) ∙ append-nil (added_to k done)));
          }

    -- ---- records that are added to an observable

    module _ (observable : ℕ) (next : IsNextDeclared program done (Inclusion observable records)) where
      -- it is one of the program's
      pub next_observable : observable < length program.observables
      next_observable = parts.next_observable program done records observable next

      pub next_observable_word : length program.detectors + observable < length words
      next_observable_word = omega (arith, next_observable, are.size, length-append program.detectors program.observables)

      pub as_many : detectors_in (done ++ Inclusion observable records ∷ []) ≡ detectors_in done
      as_many = parts.no_detector done observable records

      added : (k : ℕ) → added_to k (done ++ Inclusion observable records ∷ []) ≡ added_to k done ++ (if observable == k then records else [])
      added k =
          parts.added-append k done (Inclusion observable records ∷ [])
          ∙ ap (λ (rs : List ℕ). added_to k done ++ rs) (append-nil (if observable == k then records else []))

      pub detected-inclusion : (toggled word : ℕ) → HasParities flips records toggled
          → ((j : ℕ) → lane_bit j word ≡ exclusive_or (lane_bit j (get_or words (length program.detectors + observable) 0)) (lane_bit j toggled))
          → AreDetected program begun (done ++ Inclusion observable records ∷ []) flips (set words (length program.detectors + observable) word)
      detected-inclusion toggled word is word_is =
          let n = length program.detectors in
          record {
            same = are.same;
            size = length-set words (n + observable) word ∙ are.size;
            detectors = λ d below j.
                let before : d < length (detectors_in done) = omega (arith, below, ap length as_many) in
                ap (lane_bit j) (get_or-set_other words (n + observable) d word 0 (λ e. absurd (omega (arith, e, before, parts.few_done program done records observable next))))
                ∙ are.detectors d before j;
            observables = λ k below j.
                elim (cases_eq observable k) as (λ _. lane_bit j (get_or (set words (n + observable) word) (n + k) 0) ≡ parity (added_to k (done ++ Inclusion observable records ∷ [])) (lane j flips)) [
                  | inl e ↦
                      subst (λ i. lane_bit j (get_or (set words (n + observable) word) (n + i) 0) ≡ parity (added_to i (done ++ Inclusion observable records ∷ [])) (lane j flips)) e
                      (ap (lane_bit j) (get_or-set_same words (n + observable) word 0 next_observable_word)
                      ∙ word_is j
                      ∙ ap₂ exclusive_or (are.observables observable next_observable j) (is j)
                      ∙ sym (parity-append (added_to observable done) records (lane j flips))
                      ∙ ap (λ named. parity named (lane j flips)) (sym (added observable ∙ ap (λ b. added_to observable done ++ (if b then records else [])) (eq-eqb observable observable refl))))
                  | inr other ↦
                      ap (lane_bit j) (get_or-set_other words (n + observable) (n + k) word 0 (λ e. other (omega (arith, e))))
                      ∙ are.observables k below j
                      ∙ ap (λ named. parity named (lane j flips)) (sym (added k ∙ ap (λ b. added_to k done ++ (if b then records else [])) (ne_eqb observable k other) ∙ append-nil (added_to k done)))
                ];
          }

  -- ---- behind all declarations

  module _ (all : List Declared) (declared : AreDeclarations program all) (words : List ℕ) (are : AreDetected program begun all flips words) where
    observable_is : (k : ℕ) → k < length program.observables → target_at program (length program.detectors + k) ≡ added_to k all
    observable_is k low =
        get_or-append-add program.detectors program.observables k []
        ∙ parts.observable_is program all k declared low

    has_target : (d : ℕ) → d < length (targets_of program) → HasParities flips (target_at program d) (get_or words d 0)
    has_target d below =
        let n = length program.detectors in
        elim (cases_lt d n) as (λ _. HasParities flips (target_at program d) (get_or words d 0)) [
          | inl low ↦ are.detectors d (omega (arith, low, ap length declared.detectors))
          | inr high ↦
              let k = d - n in
              let place : n + k ≡ d = omega (arith, high) in
              let few : k < length program.observables = omega (arith, below, place, length-append program.detectors program.observables) in
              subst (λ i. HasParities flips (target_at program i) (get_or words i 0)) place
              (subst (λ named. HasParities flips named (get_or words (n + k) 0)) (sym (observable_is k few)) (are.observables k few))
        ]

    pub detected_all : (j : ℕ) → lane j words ≡ parities program (lane j begun)
    detected_all j =
        let of_target : List ℕ → Bool = λ named. parity named (lane j flips) in
        ext_get_or false (lane j words) (parities program (lane j flips))
        (length-map words (lane_bit j) ∙ are.size ∙ sym (length-map (targets_of program) of_target))
        (λ d below.
        let within : d < length words = omega (arith, below, length-map words (lane_bit j)) in
        let target : d < length (targets_of program) = omega (arith, within, are.size) in
        get_or-map (lane_bit j) words d 0 false within
        ∙ has_target d target j
        ∙ sym (get_or-map of_target (targets_of program) d [] false target))
        ∙ ap (λ fs. parities program (lane j fs)) are.same
