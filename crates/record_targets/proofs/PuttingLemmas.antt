-- Targets put for each record, in passes over what a program declares.
use Rattle.std.proofs.Common.{◌≡◌, ◌+◌, ◌<◌, ℕ, List, [], ◌∷◌, ◌++◌, length, get_or, set, refl, ap, subst, sym, ◌∙◌, arith, append_assoc, append-nil, length-append, length-set}
use Rattle.std.proofs.lemmas.List.Elements.{All-set}
use Rattle.step_model.specs.Listing.{Listing}
use Rattle.step_model.specs.Targets.{targets_of}
use Rattle.circuit_walk.specs.Declarations.{AreDeclarations, Declared, Detector, Inclusion, IsNextDeclared, detectors_in}
use Rattle.record_targets.specs.private.ListedTargets.{AreIncluded, ArePut, ArePutBut, HasRoom, included_in, left_from, listing_below, times_in, with_included}
use Rattle.record_targets.specs.private.RecordSets.{toggled_in_each}
use Rattle.circuit_walk.proofs.DeclaredParts.{detectors-append, next_detector, next_observable}
use Rattle.record_targets.proofs.DeclarationLemmas.{left_behind, next_is_target, times_included}
use Rattle.record_targets.proofs.IncludedSets.{all_included, included-append}
use Rattle.record_targets.proofs.ListedLemmas.{left_from-all, left_from-more, marks_counted, room_left, rows_put}
use Rattle.record_targets.proofs.SetLemmas.{listing_below-more}

-- ---- a target put for each of some records

pub none_of_them : (t : ℕ) (records marks numbers : List ℕ) → ArePutBut t records records marks numbers marks numbers
none_of_them t records marks numbers =
    record {
      room = λ whole later room. room;
      rows = λ m whole later low room. refl;
      below = λ m low below. below;
      size = refl;
    }

pub one_of_them : (t rec : ℕ) (records left first_marks first_numbers marks numbers : List ℕ) → rec < length marks → ArePutBut t records (rec ∷ left) first_marks first_numbers marks numbers
    → ArePutBut t records left first_marks first_numbers (set marks rec (get_or marks rec 0 + 1)) (set numbers (get_or marks rec 0) t)
one_of_them t rec records left first_marks first_numbers marks numbers there put =
    record {
      room = λ whole later room. room_left whole (left ++ later) marks numbers rec t (put.room whole later room) there;
      rows = λ m whole later low room.
          ap (toggled_in_each t left) (rows_put whole (left ++ later) marks numbers rec t (put.room whole later room) there m low)
          ∙ put.rows m whole later low room;
      below = λ m low below. All-set (λ n. n < m) numbers (get_or marks rec 0) t low (put.below m low below);
      size = length-set marks rec (get_or marks rec 0 + 1) ∙ put.size;
    }

-- ---- a detector

module _ (program : Listing) (done : List Declared) (records marks numbers : List ℕ) (next : IsNextDeclared program done (Detector records))
    (put : ArePut program (length (detectors_in done)) marks numbers) where
  abbrev t : ℕ
  t = length (detectors_in done)

  target : t < length (targets_of program)
  target = omega (arith, next_detector program done records next, length-append program.detectors program.observables)

  pub detector_room : HasRoom (left_from program 0) (records ++ left_from program (t + 1)) marks numbers
  detector_room =
      subst (λ l. HasRoom (left_from program 0) l marks numbers)
      (left_from-more program t target ∙ ap (λ (l : List ℕ). l ++ left_from program (t + 1)) (next_is_target program done records next))
      put.room

  pub detector_count : length (detectors_in (done ++ Detector records ∷ [])) ≡ t + 1
  detector_count =
      omega (arith, ap length (detectors-append done (Detector records ∷ [])), length-append (detectors_in done) (records ∷ []))

  pub detector_put : (new_marks new_numbers : List ℕ) → ArePutBut t records [] marks numbers new_marks new_numbers → ArePut program (length (detectors_in (done ++ Detector records ∷ []))) new_marks new_numbers
  detector_put new_marks new_numbers each =
      let whole = left_from program 0 in
      let m = length (targets_of program) in
      subst (λ k. ArePut program k new_marks new_numbers) (sym detector_count)
      (record {
        room = each.room whole (left_from program (t + 1)) detector_room;
        rows =
            each.rows m whole (left_from program (t + 1)) target detector_room
            ∙ ap (toggled_in_each t records) put.rows
            ∙ ap (λ (l : List ℕ). toggled_in_each t l (listing_below program t)) (sym (next_is_target program done records next))
            ∙ listing_below-more program t target;
        below = each.below m target put.below;
      })

pub same_detectors : (done : List Declared) (o : ℕ) (records : List ℕ) → detectors_in (done ++ Inclusion o records ∷ []) ≡ detectors_in done
same_detectors done o records =
    detectors-append done (Inclusion o records ∷ []) ∙ append-nil (detectors_in done)

-- an inclusion is passed over
pub no_detector : (program : Listing) (done : List Declared) (o : ℕ) (records marks numbers : List ℕ) → ArePut program (length (detectors_in done)) marks numbers → ArePut program (length (detectors_in (done ++ Inclusion o records ∷ []))) marks numbers
no_detector program done o records marks numbers put =
    subst (λ ds. ArePut program (length ds) marks numbers) (sym (same_detectors done o records)) put

-- ---- behind all detectors

-- room is left for other records that come as often
other_room : (whole left other marks numbers : List ℕ) → ((r : ℕ) → times_in r left ≡ times_in r other) → HasRoom whole left marks numbers → HasRoom whole other marks numbers
other_room whole left other marks numbers same room =
    record {
      low = room.low;
      ahead = λ r lt. omega (arith, room.ahead r lt, same r);
      full = room.full;
      few = room.few;
    }

pub detectors_put : (program : Listing) (all : List Declared) (marks numbers : List ℕ) → AreDeclarations program all → ArePut program (length (detectors_in all)) marks numbers → AreIncluded program [] marks numbers
detectors_put program all marks numbers are put =
    let n = length program.detectors in
    let held : ArePut program n marks numbers = subst (λ ds. ArePut program (length ds) marks numbers) (sym are.detectors) put in
    record {
      room = λ rest later.
          other_room (left_from program 0) (left_from program n) (included_in rest) marks numbers
          (λ r. ap (times_in r) (left_behind program) ∙ times_included r program rest later)
          held.room;
      rows = held.rows;
      below = held.below;
      size = marks_counted program n marks numbers held;
    }

-- ---- an inclusion

module _ (program : Listing) (done : List Declared) (marks numbers : List ℕ) (so_far : AreIncluded program done marks numbers) where
  -- behind one declaration more
  later : (next : Declared) (rest : List Declared) → AreDeclarations program ((done ++ next ∷ []) ++ rest) → HasRoom (left_from program 0) (included_in (next ∷ rest)) marks numbers
  later next rest are = so_far.room (next ∷ rest) (subst (AreDeclarations program) (append_assoc done (next ∷ []) rest) are)

  -- a detector is passed over
  pub no_inclusion : (records : List ℕ) → AreIncluded program (done ++ Detector records ∷ []) marks numbers
  no_inclusion records =
      record {
        room = later (Detector records);
        rows =
            so_far.rows
            ∙ sym (included-append (length program.detectors) done (Detector records ∷ []) (listing_below program (length program.detectors)));
        below = so_far.below;
        size = so_far.size;
      }

  module _ (o : ℕ) (records : List ℕ) (next : IsNextDeclared program done (Inclusion o records)) where
    pub inclusion_room : HasRoom (left_from program 0) (records ++ included_in next.rest) marks numbers
    inclusion_room = so_far.room (Inclusion o records ∷ next.rest) next.all

    pub inclusion_put : (t : ℕ) (new_marks new_numbers : List ℕ) → t ≡ length program.detectors + o → ArePutBut t records [] marks numbers new_marks new_numbers
        → AreIncluded program (done ++ Inclusion o records ∷ []) new_marks new_numbers
    inclusion_put t new_marks new_numbers is each =
        let whole = left_from program 0 in
        let m = length (targets_of program) in
        let n = length program.detectors in
        let low : t < m = omega (arith, is, next_observable program done records o next, length-append program.detectors program.observables) in
        record {
          room = λ rest are. each.room whole (included_in rest) (later (Inclusion o records) rest are);
          rows =
              each.rows m whole (included_in next.rest) low inclusion_room
              ∙ ap (toggled_in_each t records) so_far.rows
              ∙ ap (λ k. toggled_in_each k records (with_included n done (listing_below program n))) is
              ∙ sym (included-append n done (Inclusion o records ∷ []) (listing_below program n));
          below = each.below m low so_far.below;
          size = each.size ∙ so_far.size;
        }

-- ---- behind all of them

pub all_put : (program : Listing) (all : List Declared) (marks numbers : List ℕ) → AreDeclarations program all → AreIncluded program all marks numbers → ArePut program (length (targets_of program)) marks numbers
all_put program all marks numbers are put =
    record {
      room =
          subst (λ l. HasRoom (left_from program 0) l marks numbers) (sym (left_from-all program))
          (put.room [] (subst (AreDeclarations program) (sym (append-nil all)) are));
      rows = put.rows ∙ all_included program all are;
      below = put.below;
    }
