-- A pass over what a circuit declares: from between two instructions to the next one, behind it, and behind all.
use Rattle.std.proofs.Common.{◌≡◌, ◌+◌, ◌<◌, ◌≤◌, ℕ, Bool, true, false, if◌then◌else◌, List, [], ◌∷◌, ◌++◌, length, None, Some, sym, ap, ◌∙◌, subst, append-nil, arith}
use Rattle.std.specs.Prelude.{unwrap_or}
use Rattle.std.specs.List.{filter}
use Rattle.cursor.specs.Chosen.{chosen_in}
use Rattle.cursor.specs.Moves.{GoesOver, IsNext, IsSame}
use Rattle.cursor.specs.Places.{StandsIn, before_of, left_of}
use Rattle.cursor.specs.declared.cursor.Cursor.{Cursor}
use Rattle.cursor.proofs.ChosenLemmas.{chosen_filtered}
use Rattle.step_model.specs.Listing.{Listing}
use Rattle.stim_lexer.specs.Flat.{tree_of}
use Rattle.stim_lexer.specs.Reached.{reached}
use Rattle.stim_parser.specs.declared.operation.Operation.{Operation}
use Rattle.stim_parser.specs.declared.operation.Operation.TheVariants.{ObservableInclude}
use Rattle.stim_parser.specs.Circuits.{Fits}
use Rattle.stim_parser.specs.Coordinates.{first_number}
use Rattle.stim_parser.specs.Trees.{Tree}
use Rattle.stim_parser.specs.Verdicts.{Instruction}
use Rattle.stim_parser.proofs.NumberArguments.{NamesNumber, names_number}
use Rattle.circuit_walk.specs.declared.program.Text.{Text}
use Rattle.circuit_walk.specs.Declarations.{AreDeclarations, Declared, Inclusion, IsNextDeclared, operation_declares}
use Rattle.circuit_walk.specs.Programs.{KeptProgram}
use Rattle.circuit_walk.specs.TargetsMade.{records_named}
use Rattle.circuit_walk.specs.Totals.{qubit_total}
use Rattle.circuit_walk.specs.private.Declaring.{AreAhead, IsDeclaring, counted, declared_by, declared_from, is_declarer, record_count}
use Rattle.circuit_walk.specs.private.Held.{Holds}
use Rattle.circuit_walk.proofs.CircuitInstructions.{EachFits, circuit_fits}
use Rattle.circuit_walk.proofs.CourseLemmas.{AllOf, one_fits}
use Rattle.circuit_walk.proofs.DeclaredLemmas.{counted-append, declared-append, declarers_count, declarers_declare}
use Rattle.circuit_walk.proofs.WithinLimits.{within_limits}

-- ---- what one instruction declares

pub declares_inclusion : (r k : ℕ) (i : Instruction) → Fits i → i.operation ≡ ObservableInclude → k ≡ unwrap_or (first_number i.arguments) 0 → declared_by r i ≡ Inclusion k (records_named r i.targets) ∷ []
declares_inclusion r k i fits e named =
    let number = subst (λ (o : Operation). NamesNumber o i.arguments) e (names_number i fits) in
    let same : k ≡ _ = named ∙ ap (λ n. unwrap_or n 0) number in
    ap (λ (o : Operation). operation_declares r o i.arguments i.targets) e
    ∙ ap (λ m. Inclusion m (records_named r i.targets) ∷ []) (sym same)

-- the one declaration that is next, and what is behind it
module _ (listing : Listing) (done : List Declared) (r : ℕ) (i : Instruction) (next : Declared) (one : declared_by r i ≡ next ∷ []) where
  pub next_one : AreAhead listing done (declared_by r i) → IsNextDeclared listing done next
  next_one h = record { rest = h.rest; all = subst (λ (ds : List Declared). AreDeclarations listing (done ++ (ds ++ h.rest))) one h.all }

  pub behind_one : (P : List Declared → Type 0) → P (done ++ next ∷ []) → P (done ++ declared_by r i)
  behind_one P h = subst (λ (ds : List Declared). P (done ++ ds)) (sym one) h

-- ---- the instructions that the pass goes over

abbrev declarers_of : Tree → List Instruction
declarers_of tree = chosen_in is_declarer tree

chosen_fit : (n : ℕ) (is : List Instruction) → EachFits n is → AllOf (filter is_declarer is)
chosen_fit n [] h = tt
chosen_fit n (i ∷ is) h = by_choice (is_declarer i) (chosen_fit n is h.1)
  where
    by_choice : (chosen : Bool) → AllOf (filter is_declarer is) → AllOf (if chosen then i ∷ filter is_declarer is else filter is_declarer is)
    by_choice true later = (h.0.fits, later)
    by_choice false later = later

declarers_fit : {A : Type 0} (program : KeptProgram) (text : Text A) → Holds program text → AllOf (declarers_of (tree_of text.items.now.items))
declarers_fit program text held =
    let tree = tree_of text.items.now.items in
    subst AllOf (sym (chosen_filtered is_declarer tree)) (chosen_fit (qubit_total tree) (reached tree) (circuit_fits tree held.written.fits))

listed_declarations : {A : Type 0} (program : KeptProgram) (text : Text A) → Holds program text → AreDeclarations program.listing (declared_from 0 (declarers_of (tree_of text.items.now.items)))
listed_declarations program text held =
    let tree = tree_of text.items.now.items in
    subst (λ (listing : Listing). AreDeclarations listing (declared_from 0 (declarers_of tree))) (sym held.listing) (declarers_declare tree)

few_records : {A : Type 0} (program : KeptProgram) (text : Text A) → Holds program text → counted (declarers_of (tree_of text.items.now.items)) ≤ 8_000_000
few_records program text held =
    let tree = tree_of text.items.now.items in
    omega (arith, declarers_count tree, (within_limits tree held.accepted).records)

-- ---- a pass

module _ {A : Type 0} (program : KeptProgram) (text : Text A) where
  -- the instructions before a cursor
  abbrev before : Cursor → List Instruction
  before cursor = before_of is_declarer text.items.now.items cursor

  -- what those declare
  abbrev pub declared_before : Cursor → List Declared
  declared_before cursor = declared_from 0 (before cursor)

  -- before the first instruction
  pub starts_declaring : (cursor : Cursor) → Holds program text → StandsIn is_declarer text.items.now.items cursor → before cursor ≡ [] → IsDeclaring program text cursor 0
  unfolding counted
  starts_declaring cursor held stands none =
      record { held = held; stands = stands; records_are = ap counted (sym none) }

  pub none_declared : (cursor : Cursor) → before cursor ≡ [] → [] ≡ declared_before cursor
  unfolding declared_from
  none_declared cursor none = ap (declared_from 0) (sym none)

  -- right before the next instruction
  module _ (old new : Cursor) (records : ℕ) (x : Instruction) (rest : List Instruction) (passing : IsDeclaring program text old records)
      (stands : StandsIn is_declarer text.items.now.items new) (same : IsSame is_declarer text.items.now.items old new)
      (left : left_of is_declarer text.items.now.items new ≡ x ∷ rest) where
    whole : before old ++ x ∷ rest ≡ declarers_of (tree_of text.items.now.items)
    whole = ap (λ is. is ++ x ∷ rest) (sym same.before) ∙ ap (λ is. before new ++ is) (sym left) ∙ stands.whole

    pub next_declarer_fits : Fits x
    next_declarer_fits = one_fits (before old) x rest (subst AllOf (sym whole) (declarers_fit program text passing.held))

    pub few_behind : records + record_count x ≤ 8_000_000
    unfolding counted
    few_behind =
        omega (arith, passing.records_are, counted-append (before old) (x ∷ rest), ap counted whole, few_records program text passing.held)

    pub ahead : AreAhead program.listing (declared_before old) (declared_by records x)
    unfolding declared_from
    ahead =
        let r : 0 + counted (before old) ≡ records = omega (arith, passing.records_are) in
        let split =
        declared-append 0 (before old) (x ∷ rest)
        ∙ ap (λ m. declared_before old ++ declared_from m (x ∷ rest)) r in
        record {
          rest = declared_from (records + record_count x) rest;
          all = subst (AreDeclarations program.listing) (sym (ap (declared_from 0) whole) ∙ split) (listed_declarations program text passing.held);
        }

    -- and right behind it
    module _ (later : Cursor) (behind : StandsIn is_declarer text.items.now.items later) (over : GoesOver is_declarer text.items.now.items new later (Some new.index)) where
      moved : before later ≡ before old ++ x ∷ []
      moved =
          over.3.before
          ∙ ap (λ y. before new ++ y ∷ []) (first _ _ _ _ (sym over.3.left ∙ left))
          ∙ ap (λ is. is ++ x ∷ []) same.before
        where
          first : (y z : Instruction) (ys zs : List Instruction) → y ∷ ys ≡ z ∷ zs → y ≡ z
          first y z ys zs e = cc

      pub goes_on : IsDeclaring program text later (records + record_count x)
      unfolding counted
      goes_on =
          record {
            held = passing.held;
            stands = behind;
            records_are = omega (arith, passing.records_are, ap counted moved, counted-append (before old) (x ∷ []));
          }

      pub declared_behind : declared_before old ++ declared_by records x ≡ declared_before later
      unfolding declared_from
      declared_behind =
          let r : 0 + counted (before old) ≡ records = omega (arith, passing.records_are) in
          sym (
          ap (declared_from 0) moved
          ∙ declared-append 0 (before old) (x ∷ [])
          ∙ ap (λ m. declared_before old ++ declared_from m (x ∷ [])) r
          ∙ ap (λ ds. declared_before old ++ ds) (append-nil (declared_by records x)))

      pub fewer : length (left_of is_declarer text.items.now.items later) < length (left_of is_declarer text.items.now.items old)
      fewer = omega (arith, ap length over.3.left, ap length same.left)

  -- behind all instructions
  pub all_declared : (old new : Cursor) (records : ℕ) → IsDeclaring program text old records → StandsIn is_declarer text.items.now.items new → IsSame is_declarer text.items.now.items old new → IsNext is_declarer text.items.now.items new None
      → AreDeclarations program.listing (declared_before old)
  all_declared old new records passing stands same next =
      let whole : before old ≡ declarers_of (tree_of text.items.now.items) =
      sym same.before ∙ sym (append-nil (before new)) ∙ ap (λ is. before new ++ is) (sym next) ∙ stands.whole in
      subst (AreDeclarations program.listing) (sym (ap (declared_from 0) whole)) (listed_declarations program text passing.held)
