-- What a text can write at all: no letter is I, and a record is at least one back. Names and targets are read so.
use Rattle.std.proofs.Common.{◌≡◌, ℕ, ◌==◌, Bool, true, false, not, ◌&&◌, ◌-◌, List, [], ◌∷◌, ◌++◌, find, Option, None, Some, refl, ap₂, inl, inr, arith}
use Rattle.std.specs.Prelude.{if◌then◌else◌, nat_le, option_map, option_and_then, unwrap_or, bytes_eq, codes, length, slice_range}
use Rattle.std.specs.List.{list_all}
use Rattle.std.specs.Str.{str_eq_ignore_ascii_case}
use Rattle.std.specs.Option.{option_or}
use Rattle.std.proofs.lemmas.Bool.{cases_Bool}
use Rattle.step_model.specs.Listing.{is_I}
use Rattle.pauli_word.specs.declared.letter.Letter.{Letter}
use Rattle.pauli_word.specs.declared.letter.Letter.TheVariants as letter
use Rattle.gate_table.specs.declared.gate.Gate.{Gate}
use Rattle.gate_table.specs.Names.{gate_named}
use Rattle.stim_lexer.specs.Bytes.{is_empty}
use Rattle.stim_parser.specs.declared.forms.TargetForm.{TargetForm}
use Rattle.stim_parser.specs.declared.table.Keyword.{Keyword}
use Rattle.stim_parser.specs.declared.table.Keyword.TheVariants.{Does, Repeats}
use Rattle.stim_parser.specs.declared.operation.Operation.{Operation}
use Rattle.stim_parser.specs.declared.operation.Operation.TheVariants.{Applies}
use Rattle.stim_parser.specs.declared.target.Target.{Target}
use Rattle.stim_parser.specs.declared.target.Target.TheVariants.{Plain, Inverted, Back, Pauli, Star}
use Rattle.stim_parser.specs.Circuits.{operation_is_written, target_is_written}
use Rattle.stim_parser.specs.Instructions.{keyword_named, other_named, other_names}
use Rattle.stim_parser.specs.Numbers.{number_of}
use Rattle.stim_parser.specs.Pieces.{is_star, pieces_of}
use Rattle.stim_parser.specs.Targets.{each_of, inverted_of, letter_of, marked_of, pauli_of, record_of, target_of, targets_in}
use Rattle.stim_parser.specs.Verdicts.{line_targets, takes_none}

-- ---- what passes where there is something

abbrev pub passes : {X : Type 0} → (X → Bool) → Option X → Bool
passes test None = true
passes test (Some x) = test x

passes-or : {X : Type 0} → (test : X → Bool) (o p : Option X) → passes test o ≡ true → passes test p ≡ true → passes test (option_or o p) ≡ true
passes-or test None p h k = k
passes-or test (Some x) p h k = h

passes-if : {X : Type 0} → (test : X → Bool) (b : Bool) (o p : Option X) → passes test o ≡ true → passes test p ≡ true → passes test (if b then o else p) ≡ true
passes-if test true o p h k = h
passes-if test false o p h k = k

passes-map : {X Y : Type 0} → (test : Y → Bool) (f : X → Y) (o : Option X) → passes (λ x. test (f x)) o ≡ true → passes test (option_map f o) ≡ true
passes-map test f None h = refl
passes-map test f (Some x) h = h

passes-then : {X Y : Type 0} → (test : X → Bool) (after : Y → Bool) (f : X → Option Y) (o : Option X) → passes test o ≡ true
    → ((x : X) → test x ≡ true → passes after (f x) ≡ true) → passes after (option_and_then f o) ≡ true
passes-then test after f None h k = refl
passes-then test after f (Some x) h k = k x h

passes-all : {X : Type 0} → (o : Option X) → passes (λ x. true) o ≡ true
passes-all None = refl
passes-all (Some x) = refl

passes-find : {X : Type 0} → (test p : X → Bool) (xs : List X) → list_all test xs ≡ true → passes test (find p xs) ≡ true
passes-find test p [] h = refl
passes-find test p (x ∷ xs) h =
    let both : (test x ≡ true) × (list_all test xs ≡ true) = grind arith in
    elim (cases_Bool (p x)) [ inl e ↦ rw e both.0 | inr e ↦ rw e (passes-find test p xs both.1) ]

-- ---- names

abbrev pub keyword_is_written : Keyword Operation → Bool
keyword_is_written (Does operation) = operation_is_written operation
keyword_is_written Repeats = true

gate_written : (o : Option Gate) → passes keyword_is_written (option_map (λ g. Does (Applies g)) o) ≡ true
gate_written None = refl
gate_written (Some g) = refl

other_written : (name : List ℕ) → passes keyword_is_written (other_named name) ≡ true
other_written name =
    passes-map keyword_is_written (λ (entry : List ℕ × Keyword Operation). entry.1) (find (λ entry. str_eq_ignore_ascii_case entry.0 name) other_names)
    (passes-find (λ (entry : List ℕ × Keyword Operation). keyword_is_written entry.1) (λ entry. str_eq_ignore_ascii_case entry.0 name) other_names refl)

pub keyword_written : (name : List ℕ) → passes keyword_is_written (keyword_named name) ≡ true
unfolding keyword_named
keyword_written name =
    passes-or keyword_is_written (option_map (λ g. Does (Applies g)) (gate_named name)) (other_named name) (gate_written (gate_named name)) (other_written name)

-- ---- targets

abbrev letters : List (List ℕ × Letter)
letters = (codes "X", letter.X) ∷ (codes "Y", letter.Y) ∷ (codes "Z", letter.Z) ∷ []

letter_written : (b : ℕ) → passes (λ l. not (is_I l)) (letter_of b) ≡ true
letter_written b =
    passes-map (λ l. not (is_I l)) (λ (row : List ℕ × Letter). row.1) (find (λ row. str_eq_ignore_ascii_case row.0 (b ∷ [])) letters)
    (passes-find (λ (row : List ℕ × Letter). not (is_I row.1)) (λ row. str_eq_ignore_ascii_case row.0 (b ∷ [])) letters refl)

named : (inverted : Bool) (l : Letter) → not (is_I l) ≡ true → (o : Option ℕ) → passes (λ n. target_is_written (Pauli inverted l n)) o ≡ true
named inverted l h None = refl
named inverted l h (Some n) = h

pauli_written : (inverted : Bool) (text : List ℕ) → passes target_is_written (pauli_of inverted text) ≡ true
pauli_written inverted [] = refl
pauli_written inverted (b ∷ digits) =
    passes-then (λ l. not (is_I l)) target_is_written (λ l. option_map (Pauli inverted l) (number_of digits)) (letter_of b) (letter_written b)
    (λ l h. passes-map target_is_written (Pauli inverted l) (number_of digits) (named inverted l h (number_of digits)))

inverted_written : (text : List ℕ) → passes target_is_written (inverted_of text) ≡ true
inverted_written text =
    passes-or target_is_written (option_map Inverted (number_of text)) (pauli_of true text)
    (passes-map target_is_written Inverted (number_of text) (passes-all (number_of text)))
    (pauli_written true text)

marked_written : (piece : List ℕ) → passes target_is_written (marked_of piece) ≡ true
marked_written [] = refl
marked_written (b ∷ text) =
    passes-if target_is_written (b == 33) (inverted_of text) _ (inverted_written text)
    (passes-if target_is_written (is_star b && is_empty text) (Some Star) (pauli_of false (b ∷ text)) refl (pauli_written false (b ∷ text)))

not_zero : (k : ℕ) → passes (λ n. nat_le 1 n) (if k == 0 then None else Some k) ≡ true
not_zero k =
    elim (cases_Bool (k == 0)) [
      | inl e ↦ rw e refl
      | inr e ↦ let some : nat_le 1 k ≡ true = grind arith in rw e some
    ]

record_written : (piece : List ℕ) → passes (λ n. nat_le 1 n) (record_of piece) ≡ true
record_written piece =
    let digits = slice_range piece 5 (length piece - 1) in
    passes-if (λ n. nat_le 1 n) (bytes_eq piece (codes "rec[-" ++ digits ++ codes "]")) (option_and_then (λ k. if k == 0 then None else Some k) (number_of digits)) None
    (passes-then (λ n. true) (λ n. nat_le 1 n) (λ k. if k == 0 then None else Some k) (number_of digits) (passes-all (number_of digits)) (λ k h. not_zero k))
    refl

target_written : (piece : List ℕ) → passes target_is_written (target_of piece) ≡ true
unfolding target_of
target_written piece =
    passes-or target_is_written (option_map Plain (number_of piece)) _
    (passes-map target_is_written Plain (number_of piece) (passes-all (number_of piece)))
    (passes-or target_is_written (option_map Back (record_of piece)) (marked_of piece)
    (passes-map target_is_written Back (record_of piece) (record_written piece))
    (marked_written piece))

one_more : (target : Target) → target_is_written target ≡ true → (rest : Option (List Target)) → passes (list_all target_is_written) rest ≡ true
    → passes (list_all target_is_written) (option_map (λ ts. target ∷ ts) rest) ≡ true
one_more target h None k = refl
one_more target h (Some ts) k = ap₂ (λ (a b : Bool). a && b) h k

each_written : (pieces : List (List ℕ)) → passes (list_all target_is_written) (each_of target_of pieces) ≡ true
each_written [] = refl
each_written (piece ∷ pieces) =
    passes-then target_is_written (list_all target_is_written) (λ t. option_map (λ ts. t ∷ ts) (each_of target_of pieces)) (target_of piece) (target_written piece)
    (λ t h. one_more t h (each_of target_of pieces) (each_written pieces))

line_written : (form : TargetForm) (text : List ℕ) → passes (list_all target_is_written) (line_targets form text) ≡ true
unfolding line_targets targets_in
line_written form text =
    passes-if (list_all target_is_written) (takes_none form) (Some []) (each_of target_of (pieces_of text)) refl (each_written (pieces_of text))

of_all : (o : Option (List Target)) → passes (list_all target_is_written) o ≡ true → list_all target_is_written (unwrap_or o []) ≡ true
of_all None h = refl
of_all (Some ts) h = h

pub targets_written : (form : TargetForm) (text : List ℕ) → list_all target_is_written (unwrap_or (line_targets form text) []) ≡ true
targets_written form text = of_all (line_targets form text) (line_written form text)
