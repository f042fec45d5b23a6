-- The coordinates that a pass gathers, with the offset that it keeps, are those that a circuit lists: instructions that are
-- passed over neither give any nor shift them, and within the limits of a circuit every sum fits.
use Rattle.std.proofs.Common.{◌≡◌, ℕ, ◌+◌, ◌*◌, ◌≤◌, ℤ, pos, Bool, true, false, not, if◌then◌else◌, List, [], ◌∷◌, ◌++◌, length, length-append, map, replicate, None, Some, refl, sym, ap, ap₂, ◌∙◌, subst, append-nil, append_assoc, arith}
use Rattle.std.specs.Prelude.{⊤, ◌^◌, nat_abs, slice_get, unwrap_or}
use Rattle.std.specs.List.{filter}
use Rattle.std.proofs.lemmas.List.Elements.{All-nil}
use Rattle.std.proofs.lemmas.List.{length-map}
use Rattle.std.proofs.lemmas.List.Filters.{length-filter_both}
use Rattle.cursor.specs.declared.cursor.Cursor.{Cursor}
use Rattle.cursor.specs.Chosen.{chosen_in}
use Rattle.cursor.specs.Moves.{GoesOver, IsNext, IsSame}
use Rattle.cursor.specs.Places.{StandsIn, before_of}
use Rattle.cursor.proofs.ChosenLemmas.{chosen_filtered}
use Rattle.step_model.specs.Listing.{Listing}
use Rattle.stim_lexer.specs.Reached.{reached}
use Rattle.stim_lexer.specs.Trees.{InstructionLine}
use Rattle.stim_parser.specs.declared.operation.Operation.{Operation}
use Rattle.stim_parser.specs.declared.operation.Operation.TheVariants.{DetectorDeclaration, CoordinateShift}
use Rattle.stim_parser.specs.Coordinates.{coordinates_in}
use Rattle.stim_parser.specs.Numbers.{whole_value}
use Rattle.stim_parser.specs.Offsets.{moved}
use Rattle.stim_parser.specs.Trees.{Tree}
use Rattle.stim_parser.specs.Verdicts.{Instruction}
use Rattle.stim_parser.proofs.CoordinateArguments.{AreCoordinates, AreUpTo, HasCoordinates, has_coordinates, most}
use Rattle.circuit_walk.specs.declared.program.Text.{Text}
use Rattle.circuit_walk.specs.Before.{Before}
use Rattle.circuit_walk.specs.Made.{IsAcceptedAs}
use Rattle.circuit_walk.specs.Meaning.{after, at_start, made_of}
use Rattle.circuit_walk.specs.TargetsMade.{offset_after, operation_coordinates}
use Rattle.circuit_walk.specs.Totals.{qubit_total}
use Rattle.circuit_walk.specs.Programs.{KeptProgram}
use Rattle.circuit_walk.specs.private.Held.{Holds}
use Rattle.circuit_walk.specs.private.Placing.{AreRoomy, IsPlaced, added, coordinates_from, is_placing, offset_at, offset_behind, places}
use Rattle.circuit_walk.proofs.AddedNumbers.{moved-on_axes, shifted-on_axes, within-on_axes}
use Rattle.circuit_walk.proofs.CircuitInstructions.{EachFits, circuit_fits}
use Rattle.circuit_walk.proofs.CoordinatesMade.{few_reached, offset_up_to, wider}
use Rattle.circuit_walk.proofs.WithinLimits.{within_limits}

-- ---- what is listed

coordinates-made : (n : ℕ) (b : Before) (is : List Instruction) → coordinates_from b.offset is ≡ made_of n (λ b i. operation_coordinates b.offset i.operation i.arguments) b is
unfolding made_of
coordinates-made n b [] = refl
coordinates-made n b (i ∷ is) =
    ap (λ (later : List (List ℤ)). operation_coordinates b.offset i.operation i.arguments ++ later) (coordinates-made n (after n b i) is)

-- what an instruction that isn't chosen gives, and how it shifts
record LeavesPlaces (offset : List ℤ) (operation : Operation) (arguments : List (List ℕ)) : Type 0 where
  none : operation_coordinates offset operation arguments ≡ []
  same : offset_after offset operation arguments ≡ offset

leaves_places : (offset : List ℤ) (operation : Operation) (arguments : List (List ℕ)) → places operation ≡ false → LeavesPlaces offset operation arguments
leaves_places offset DetectorDeclaration arguments h = absurd cc
leaves_places offset CoordinateShift arguments h = absurd cc
leaves_places offset operation arguments h = record { none = refl; same = refl }

left_out : (offset : List ℤ) (is : List Instruction) → coordinates_from offset (filter is_placing is) ≡ coordinates_from offset is
left_out offset [] = refl
left_out offset (i ∷ is) = by_choice (λ o. left_out o is) (is_placing i) refl
  where
    rest : Bool → List Instruction
    rest chosen = if chosen then i ∷ filter is_placing is else filter is_placing is

    by_choice : ((o : List ℤ) → coordinates_from o (filter is_placing is) ≡ coordinates_from o is) → (chosen : Bool) → is_placing i ≡ chosen → coordinates_from offset (rest (is_placing i)) ≡ coordinates_from offset (i ∷ is)
    by_choice later true e =
        ap (λ (chosen : Bool). coordinates_from offset (rest chosen)) e
        ∙ ap (λ (zs : List (List ℤ)). operation_coordinates offset i.operation i.arguments ++ zs) (later (offset_after offset i.operation i.arguments))
    by_choice later false e =
        let leaves = leaves_places offset i.operation i.arguments e in
        ap (λ (chosen : Bool). coordinates_from offset (rest chosen)) e
        ∙ later offset
        ∙ ap₂ (λ (zs : List (List ℤ)) (o : List ℤ). zs ++ coordinates_from o is) (sym leaves.none) (sym leaves.same)

pub coordinates-listed : (t : Tree) (program : Listing) → IsAcceptedAs t program → program.coordinates ≡ coordinates_from [] (chosen_in is_placing t)
coordinates-listed t program h =
    ap (λ (l : Listing). l.coordinates) h.listing
    ∙ sym (coordinates-made (qubit_total t) at_start (reached t))
    ∙ sym (left_out [] (reached t))
    ∙ ap (coordinates_from []) (sym (chosen_filtered is_placing t))

-- ---- behind the first instructions

coordinates-append : (offset : List ℤ) (is js : List Instruction) → coordinates_from offset (is ++ js) ≡ coordinates_from offset is ++ coordinates_from (offset_behind offset is) js
coordinates-append offset [] js = refl
coordinates-append offset (i ∷ is) js =
    let here = operation_coordinates offset i.operation i.arguments in
    let next = offset_after offset i.operation i.arguments in
    ap (λ (zs : List (List ℤ)). here ++ zs) (coordinates-append next is js)
    ∙ sym (append_assoc here (coordinates_from next is) (coordinates_from (offset_behind next is) js))

offset-append : (offset : List ℤ) (is js : List Instruction) → offset_behind offset (is ++ js) ≡ offset_behind (offset_behind offset is) js
offset-append offset [] js = refl
offset-append offset (i ∷ is) js = offset-append (offset_after offset i.operation i.arguments) is js

at_seam : {X : Type 0} (xs : List X) (y : X) (ys : List X) → slice_get (xs ++ y ∷ ys) (length xs) ≡ Some y
at_seam [] y ys = refl
at_seam (x ∷ xs) y ys = at_seam xs y ys

-- ---- within the limits

EachHas : List Instruction → Type 0
EachHas [] = ⊤
EachHas (i ∷ is) = HasCoordinates i.operation i.arguments × EachHas is

each-has : (n : ℕ) (is : List Instruction) → EachFits n is → EachHas is
unfolding EachHas
each-has n [] h = tt
each-has n (i ∷ is) h = (has_coordinates i h.0.fits, each-has n is h.1)

has-chosen : (is : List Instruction) → EachHas is → EachHas (filter is_placing is)
unfolding EachHas
has-chosen [] h = tt
has-chosen (i ∷ is) h = by_choice (is_placing i) (has-chosen is h.1)
  where
    by_choice : (chosen : Bool) → EachHas (filter is_placing is) → EachHas (if chosen then i ∷ filter is_placing is else filter is_placing is)
    by_choice true later = (h.0, later)
    by_choice false later = later

has-parts : (is js : List Instruction) → EachHas (is ++ js) → EachHas is × EachHas js
unfolding EachHas
has-parts [] js h = (tt, h)
has-parts (i ∷ is) js h = let parts = has-parts is js h.1 in ((h.0, parts.0), parts.1)

offset-within : (n : ℕ) (offset : List ℤ) (is : List Instruction) → EachHas is → AreUpTo n offset → AreUpTo (n + most * length is) (offset_behind offset is)
unfolding EachHas
offset-within n offset [] h k = wider n (n + most * 0) offset (omega arith) k
offset-within n offset (i ∷ is) h k =
    wider (n + most + most * length is) (n + most * length (i ∷ is)) (offset_behind offset (i ∷ is)) (omega arith)
    (offset-within (n + most) (offset_after offset i.operation i.arguments) is h.1 (offset_up_to n offset i.operation i.arguments h.0 k))

-- ---- at a chosen instruction

abbrev on_axes : List ℤ → List ℤ
on_axes offset = added (replicate 16 (pos 0)) offset

other_shifts : (o : Operation) → places o ≡ true → (o ≡ DetectorDeclaration → ⊥) → o ≡ CoordinateShift
other_shifts DetectorDeclaration e other = absurd (other refl)
other_shifts CoordinateShift e other = refl
other_shifts o e other = absurd cc

module _ (t : Tree) (program : Listing) (accepted : IsAcceptedAs t program) (before : List Instruction) (i : Instruction) (offset : List ℤ) (placed : IsPlaced t before i offset) where
  whole : before ++ i ∷ placed.rest ≡ filter is_placing (reached t)
  whole = placed.whole ∙ chosen_filtered is_placing t

  parts : EachHas before × EachHas (i ∷ placed.rest)
  parts =
      let each = has-chosen (reached t) (each-has (qubit_total t) (reached t) (circuit_fits t accepted.built)) in
      has-parts before (i ∷ placed.rest) (subst EachHas (sym whole) each)

  has : HasCoordinates i.operation i.arguments
  unfolding EachHas
  has = parts.1.0

  few : length before ≤ 64_000_000
  few =
      let chosen = length-filter_both is_placing (λ x. not (is_placing x)) (λ x. refl) (reached t) in
      let within = (within_limits t accepted.accepted).steps in
      omega (arith, ap length whole, length-append before (i ∷ placed.rest), chosen, few_reached t, within)

  pub offset-roomy : AreRoomy offset
  offset-roomy =
      let behind = offset-within 0 [] before parts.0 (All-nil (λ z. nat_abs z ≤ 0)) in
      subst AreRoomy (sym placed.offset_is)
      (within-on_axes (2 ^ 61) 16 (offset_behind [] before) (wider (0 + most * length before) (2 ^ 61) (offset_behind [] before) (omega (arith, few)) behind))

  stated : (o : Operation) → places o ≡ true → HasCoordinates o i.arguments → AreCoordinates i.arguments
  stated DetectorDeclaration e h = h
  stated CoordinateShift e h = h
  stated o e h = absurd cc

  are_coordinates : AreCoordinates i.arguments
  are_coordinates = stated i.operation placed.chosen has

  -- what is read of it
  module _ (numbers : List ℤ) (read : numbers ≡ unwrap_or (coordinates_in i.arguments) []) where
    numbers-are : numbers ≡ map whole_value i.arguments
    numbers-are = read ∙ are_coordinates.read

    pub numbers-roomy : AreRoomy numbers
    numbers-roomy = subst AreRoomy (sym numbers-are) (wider most (2 ^ 61) (map whole_value i.arguments) (omega arith) are_coordinates.within)

    -- behind a detector: its coordinates are the next ones that are listed, and the offset stays
    pub record IsBehindDetector (found : List ℤ) : Type 0 where
      pub listed : slice_get program.coordinates (length (coordinates_from [] before)) ≡ Some found
      pub given : length (coordinates_from [] (before ++ i ∷ [])) ≡ length (coordinates_from [] before) + 1
      pub offset_is : offset ≡ offset_at (before ++ i ∷ [])

    pub behind_detector : (found : List ℤ) → i.operation ≡ DetectorDeclaration → found ≡ added numbers offset → IsBehindDetector found
    behind_detector found e is =
        let here = offset_behind [] before in
        let placed_at : found ≡ moved here (map whole_value i.arguments) =
        is ∙ ap₂ added numbers-are placed.offset_is
        ∙ moved-on_axes 16 here (map whole_value i.arguments) (omega (arith, length-map i.arguments whole_value, are_coordinates.few)) in
        let gives : operation_coordinates here i.operation i.arguments ≡ found ∷ [] =
        ap (λ o. operation_coordinates here o i.arguments) e ∙ ap (λ (zs : List ℤ). zs ∷ []) (sym placed_at) in
        let later = coordinates_from (offset_after here i.operation i.arguments) placed.rest in
        record {
          listed =
              ap (λ (zs : List (List ℤ)). slice_get zs (length (coordinates_from [] before)))
              (coordinates-listed t program accepted
              ∙ ap (coordinates_from []) (sym placed.whole)
              ∙ coordinates-append [] before (i ∷ placed.rest)
              ∙ ap (λ (zs : List (List ℤ)). coordinates_from [] before ++ (zs ++ later)) gives)
              ∙ at_seam (coordinates_from [] before) found later;
          given =
              omega (
                arith,
                ap length (coordinates-append [] before (i ∷ [])),
                length-append (coordinates_from [] before) (coordinates_from here (i ∷ [])),
                length-append (operation_coordinates here i.operation i.arguments) [],
                ap length gives,
              );
          offset_is =
              placed.offset_is
              ∙ ap on_axes (ap (λ o. offset_after here o i.arguments) (sym e) ∙ sym (offset-append [] before (i ∷ [])));
        }

    -- behind a shift: nothing more is listed, and the offset has it added
    pub record IsBehindShift (later : List ℤ) : Type 0 where
      pub given : length (coordinates_from [] before) ≡ length (coordinates_from [] (before ++ i ∷ []))
      pub offset_is : later ≡ offset_at (before ++ i ∷ [])

    pub behind_shift : (later : List ℤ) → (i.operation ≡ DetectorDeclaration → ⊥) → later ≡ added offset numbers → IsBehindShift later
    behind_shift later other is =
        let here = offset_behind [] before in
        let shift = other_shifts i.operation placed.chosen other in
        record {
          given =
              omega (
                arith,
                ap length (coordinates-append [] before (i ∷ [])),
                length-append (coordinates_from [] before) (coordinates_from here (i ∷ [])),
                length-append (operation_coordinates here i.operation i.arguments) [],
                ap (λ o. length (operation_coordinates here o i.arguments)) shift,
              );
          offset_is =
              is ∙ ap₂ added placed.offset_is numbers-are
              ∙ shifted-on_axes 16 here (map whole_value i.arguments)
              ∙ ap on_axes (ap (λ o. offset_after here o i.arguments) (sym shift) ∙ sym (offset-append [] before (i ∷ [])));
        }

-- ---- at a cursor

-- right before the next chosen instruction
pub placed_next : {A : Type 0} (program : KeptProgram) (text : Text A) (old new : Cursor) (offset : List ℤ) (k : ℕ) (i : Instruction) → Holds program text → StandsIn is_placing text.items.now.items new → IsSame is_placing text.items.now.items old new
    → IsNext is_placing text.items.now.items new (Some k) → Some (InstructionLine i) ≡ slice_get text.items.now.items k → offset ≡ offset_at (before_of is_placing text.items.now.items old) → IsPlaced program.circuit (before_of is_placing text.items.now.items old) i offset
placed_next program text old new offset k i held stands same_place next got is =
    let items = text.items.now.items in
    let here : next.0 ≡ i = same next.0 i (sym (got ∙ next.2)) in
    record {
      rest = next.1;
      whole =
          ap₂ (λ (before is : List Instruction). before ++ is) (sym same_place.before) (ap (λ (x : Instruction). x ∷ next.1) (sym here) ∙ sym next.4)
          ∙ stands.whole
          ∙ ap (chosen_in is_placing) (sym held.circuit);
      chosen = subst (λ (x : Instruction). is_placing x ≡ true) here next.3;
      offset_is = is;
    }
  where
    same : (x y : Instruction) → Some (InstructionLine x) ≡ Some (InstructionLine y) → x ≡ y
    same x y e = cc

-- over it
pub before_behind : {A : Type 0} (text : Text A) (old new later : Cursor) (k : ℕ) (i : Instruction) → IsSame is_placing text.items.now.items old new → new.index ≡ k → Some (InstructionLine i) ≡ slice_get text.items.now.items k
    → GoesOver is_placing text.items.now.items new later (Some new.index) → before_of is_placing text.items.now.items later ≡ before_of is_placing text.items.now.items old ++ i ∷ []
before_behind text old new later k i same_place index got over =
    over.3.before ∙ ap₂ (λ (before : List Instruction) (x : Instruction). before ++ x ∷ []) same_place.before (same over.0 i (sym over.1 ∙ ap (slice_get text.items.now.items) index ∙ sym got))
  where
    same : (x y : Instruction) → Some (InstructionLine x) ≡ Some (InstructionLine y) → x ≡ y
    same x y e = cc

-- behind all of them
pub all_given : {A : Type 0} (program : KeptProgram) (text : Text A) (old new : Cursor) → IsAcceptedAs program.circuit program.listing → Holds program text → StandsIn is_placing text.items.now.items new → IsSame is_placing text.items.now.items old new
    → IsNext is_placing text.items.now.items new None → length (coordinates_from [] (before_of is_placing text.items.now.items old)) ≡ length program.listing.coordinates
all_given program text old new accepted held stands same_place next =
    let items = text.items.now.items in
    let before = before_of is_placing items new in
    let whole : before_of is_placing items old ≡ chosen_in is_placing program.circuit =
    sym same_place.before ∙ sym (append-nil before) ∙ ap (λ (is : List Instruction). before ++ is) (sym next) ∙ stands.whole ∙ ap (chosen_in is_placing) (sym held.circuit) in
    ap (λ (is : List Instruction). length (coordinates_from [] is)) whole ∙ ap length (sym (coordinates-listed program.circuit program.listing accepted))
