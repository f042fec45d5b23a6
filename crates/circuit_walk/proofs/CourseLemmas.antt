-- The steps of a program over the instructions that make some: what a cursor over these has before it and what is left.
use Rattle.std.proofs.Common.{◌≡◌, ◌+◌, ℕ, zero, suc, Bool, true, false, if◌then◌else◌, List, [], ◌∷◌, ◌++◌, length, Option, None, Some, option_map, refl, sym, ap, ap₂, ◌∙◌, append-nil, arith}
use Rattle.std.specs.Prelude.{⊤, slice_get}
use Rattle.std.specs.List.{filter}
use Rattle.std.specs.Option.{option_or}
use Rattle.cursor.specs.Chosen.{chosen_in}
use Rattle.cursor.proofs.ChosenLemmas.{chosen_filtered}
use Rattle.step_model.specs.Listing.{ListedStep}
use Rattle.step_model.specs.declared.fault.Cause.TheVariants as cause
use Rattle.stim_lexer.specs.Texts.{refused}
use Rattle.stim_lexer.specs.Fitting.{AllFit}
use Rattle.stim_lexer.specs.Reached.{copies, reached}
use Rattle.stim_lexer.specs.Trees.{Nothing, Then, Block}
use Rattle.stim_parser.specs.Circuits.{Fits}
use Rattle.stim_parser.specs.Trees.{Tree}
use Rattle.stim_parser.specs.Verdicts.{Instruction}
use Rattle.circuit_walk.specs.Before.{Before}
use Rattle.circuit_walk.specs.Meaning.{after, at_start, listing_of, made_of, new_steps}
use Rattle.circuit_walk.specs.Refusals.{circuit_refusal, first_far_line, reaches_far}
use Rattle.circuit_walk.specs.Totals.{qubit_total}
use Rattle.circuit_walk.specs.private.Walks.{is_step_maker, state_after, steps_of}
use Rattle.circuit_walk.proofs.MeaningLemmas.{IsAlike, after-alike, alike, left_out, made_of-append, passed, steps-leave_out}

-- the chosen instructions of a tree
abbrev pub makers_of : Tree → List Instruction
makers_of tree = chosen_in is_step_maker tree

pub all_steps : (tree : Tree) → (listing_of tree).steps ≡ steps_of (qubit_total tree) (makers_of tree)
all_steps tree =
    let n = qubit_total tree in
    left_out n (new_steps n) (steps-leave_out n) at_start at_start (reached tree) (alike at_start)
    ∙ ap (steps_of n) (sym (chosen_filtered is_step_maker tree))

-- ---- at a cursor

pub steps_behind : (n : ℕ) (before : List Instruction) (i : Instruction) → steps_of n (before ++ i ∷ []) ≡ steps_of n before ++ new_steps n (state_after n at_start before) i
unfolding made_of
steps_behind n before i =
    made_of-append n (new_steps n) at_start before (i ∷ [])
    ∙ ap (λ (steps : List ListedStep). steps_of n before ++ steps) (append-nil (new_steps n (state_after n at_start before) i))

pub steps_around : (n : ℕ) (before : List Instruction) (i : Instruction) (rest : List Instruction) → (later : List ListedStep) × (steps_of n (before ++ i ∷ rest) ≡ steps_of n before ++ (new_steps n (state_after n at_start before) i ++ later))
unfolding made_of
steps_around n before i rest =
    (made_of n (new_steps n) (after n (state_after n at_start before) i) rest, made_of-append n (new_steps n) at_start before (i ∷ rest))

-- the step with a number among those of the instruction behind these
pub step_inside : (n : ℕ) (before : List Instruction) (i : Instruction) (rest : List Instruction) (k : ℕ) (s : ListedStep) → slice_get (new_steps n (state_after n at_start before) i) k ≡ Some s → slice_get (steps_of n (before ++ i ∷ rest)) (length (steps_of n before) + k) ≡ Some s
step_inside n before i rest k s got =
    let around = steps_around n before i rest in
    ap (λ (steps : List ListedStep). slice_get steps (length (steps_of n before) + k)) around.1
    ∙ get-behind (steps_of n before) (new_steps n (state_after n at_start before) i ++ around.0) k
    ∙ get-before (new_steps n (state_after n at_start before) i) around.0 k s got
  where
    get-behind : (xs ys : List ListedStep) (k : ℕ) → slice_get (xs ++ ys) (length xs + k) ≡ slice_get ys k
    get-behind [] ys k = let e : 0 + k ≡ k = omega arith in ap (slice_get ys) e
    get-behind (x ∷ xs) ys k =
        let e : length (x ∷ xs) + k ≡ suc (length xs + k) = omega arith in
        ap (slice_get (x ∷ xs ++ ys)) e ∙ get-behind xs ys k

    get-before : (xs ys : List ListedStep) (k : ℕ) (s : ListedStep) → slice_get xs k ≡ Some s → slice_get (xs ++ ys) k ≡ Some s
    get-before [] ys k s h = cc
    get-before (x ∷ xs) ys zero s h = h
    get-before (x ∷ xs) ys (suc k) s h = get-before xs ys k s h

-- ---- instructions fit

abbrev pub AllOf : List Instruction → Type 0
AllOf [] = ⊤
AllOf (i ∷ is) = Fits i × AllOf is

all-append : (is js : List Instruction) → AllOf is → AllOf js → AllOf (is ++ js)
all-append [] js h k = k
all-append (i ∷ is) js h k = (h.0, all-append is js h.1 k)

all-copies : (m : ℕ) (is : List Instruction) → AllOf is → AllOf (copies m is)
all-copies zero is h = tt
all-copies (suc m) is h = all-append is (copies m is) h (all-copies m is h)

pub makers_fit : (tree : Tree) → AllFit Fits tree → AllOf (makers_of tree)
makers_fit Nothing h = tt
makers_fit (Then i rest) h = by_choice (is_step_maker i) (makers_fit rest h.1)
  where
    by_choice : (chosen : Bool) → AllOf (makers_of rest) → AllOf (if chosen then i ∷ makers_of rest else makers_of rest)
    by_choice true later = (h.0, later)
    by_choice false later = later
makers_fit (Block line turns body rest) h =
    all-append (copies turns (makers_of body)) (makers_of rest) (all-copies turns (makers_of body) (makers_fit body h.1)) (makers_fit rest h.2)

pub one_fits : (before : List Instruction) (i : Instruction) (rest : List Instruction) → AllOf (before ++ i ∷ rest) → Fits i
one_fits [] i rest h = h.0
one_fits (x ∷ before) i rest h = one_fits before i rest h.1

-- ---- none reaches back before the first record

abbrev far : Before → Instruction → List ℕ
far b i = if reaches_far b.records i.targets then i.line ∷ [] else []

far-alike : (b c : Before) (i : Instruction) → IsAlike b c → far b i ≡ far c i
far-alike b c i h = ap (λ r. if reaches_far r i.targets then i.line ∷ [] else []) h.records

far_left_out : (n : ℕ) (b c : Before) (is : List Instruction) → IsAlike b c → made_of n far b is ≡ [] → made_of n far c (filter is_step_maker is) ≡ []
unfolding made_of
far_left_out n b c [] same h = refl
far_left_out n b c (i ∷ is) same h =
    by_choice (far_left_out n (after n b i) (after n c i) is (after-alike n b c i same) (none-after (far b i) (made_of n far (after n b i) is) h))
    (λ e. far_left_out n (after n b i) c is (passed n b c i e same) (none-after (far b i) (made_of n far (after n b i) is) h)) (is_step_maker i) refl
  where
    none-first : (xs ys : List ℕ) → xs ++ ys ≡ [] → xs ≡ []
    none-first [] ys h = refl
    none-first (x ∷ xs) ys h = absurd cc

    none-after : (xs ys : List ℕ) → xs ++ ys ≡ [] → ys ≡ []
    none-after [] ys h = h
    none-after (x ∷ xs) ys h = absurd cc

    by_choice : made_of n far (after n c i) (filter is_step_maker is) ≡ [] → (is_step_maker i ≡ false → made_of n far c (filter is_step_maker is) ≡ []) → (chosen : Bool) → is_step_maker i ≡ chosen → made_of n far c (if is_step_maker i then i ∷ filter is_step_maker is else filter is_step_maker is) ≡ []
    by_choice kept left true e =
        ap (λ (chosen : Bool). made_of n far c (if chosen then i ∷ filter is_step_maker is else filter is_step_maker is)) e
        ∙ ap₂ ◌++◌ (sym (far-alike b c i same) ∙ none-first (far b i) (made_of n far (after n b i) is) h) kept
    by_choice kept left false e =
        ap (λ (chosen : Bool). made_of n far c (if chosen then i ∷ filter is_step_maker is else filter is_step_maker is)) e ∙ left e

pub none_far : (tree : Tree) → circuit_refusal tree ≡ None → made_of (qubit_total tree) far at_start (reached tree) ≡ []
none_far tree accepted = nothing_first _ (no_line (refused cause.RecordBeforeStart) (first_far_line tree) (no_refusal _ _ accepted))
  where
    no_refusal : {X : Type 0} (x y : Option X) → option_or x y ≡ None → x ≡ None
    no_refusal None y h = refl
    no_refusal (Some x) y h = absurd cc

    no_line : {X Y : Type 0} (f : X → Y) (x : Option X) → option_map f x ≡ None → x ≡ None
    no_line f None h = refl
    no_line f (Some x) h = absurd cc

    nothing_first : (xs : List ℕ) → slice_get xs 0 ≡ None → xs ≡ []
    nothing_first [] h = refl
    nothing_first (x ∷ xs) h = absurd cc

pub near_one : (tree : Tree) (before : List Instruction) (i : Instruction) (rest : List Instruction) → circuit_refusal tree ≡ None → before ++ i ∷ rest ≡ makers_of tree → reaches_far (state_after (qubit_total tree) at_start before).records i.targets ≡ false
unfolding made_of
near_one tree before i rest accepted whole =
    let n = qubit_total tree in
    let b = state_after n at_start before in
    let none : made_of n far at_start (before ++ i ∷ rest) ≡ [] =
    ap (made_of n far at_start) (whole ∙ chosen_filtered is_step_maker tree)
    ∙ far_left_out n at_start at_start (reached tree) (alike at_start) (none_far tree accepted) in
    let here : made_of n far b (i ∷ rest) ≡ [] = none-later (made_of n far at_start before) _ (sym (made_of-append n far at_start before (i ∷ rest)) ∙ none) in
    not_far (reaches_far b.records i.targets) i.line _ here
  where
    none-later : (xs ys : List ℕ) → xs ++ ys ≡ [] → ys ≡ []
    none-later [] ys h = h
    none-later (x ∷ xs) ys h = absurd cc

    not_far : (b : Bool) (line : ℕ) (ys : List ℕ) → (if b then line ∷ [] else []) ++ ys ≡ [] → b ≡ false
    not_far true line ys h = absurd cc
    not_far false line ys h = refl
