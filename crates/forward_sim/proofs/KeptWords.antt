-- The letters X and Z of a word, as terms, make the word; and those of the stabilizer that a collapse may replace are
-- what is kept of the collapse.
use Rattle.std.proofs.Common.{◌≡◌, ℕ, zero, suc, ◌+◌, ◌<◌, Bool, true, false, List, [], ◌∷◌, ◌++◌, length, set, Option, Some, None, refl, sym, ap, ap₂, subst, ◌∙◌, arith, append-nil}
use Rattle.std.specs.Prelude.{IfSome, if◌then◌else◌, map}
use Rattle.std.proofs.lemmas.Bool.{false≢true}
use Rattle.std.proofs.lemmas.List.{length-map}
use Rattle.std.proofs.lemmas.List.Elements.{All-append, All-nil, All-cons}
use Rattle.pauli_word.specs.declared.letter.Letter.{Letter}
use Rattle.pauli_word.specs.declared.letter.Letter.TheVariants.{I, X, Y, Z}
use Rattle.pauli_word.specs.Letters.{letter_product, letters_clash}
use Rattle.pauli_word.specs.States.{State}
use Rattle.pauli_word.specs.Words.{letter_at, letters_product, lone_letter, no_letters}
use Rattle.pauli_word.proofs.LetterLaws.{letter_product-I}
use Rattle.pauli_word.proofs.LoneLetters.{letters_product-lone_letter, letters_product_of_no_letters}
use Rattle.pauli_word.proofs.WordLaws.{letters_product_assoc, anticommute_comm, anticommute_of_none}
use Rattle.step_model.specs.declared.step.Term.{Term}
use Rattle.step_model.specs.Listing.{word_of_terms}
use Rattle.step_model.specs.WellFormed.{TermsFit}
use Rattle.step_model.proofs.StepNumbers.{length-word_of_terms}
use Rattle.tableau.specs.Rows.{Rows, row_count, state_of, stabilizer_at, NamesRandom}
use Rattle.forward_sim.specs.private.Kept.{clashing, terms_of_word, entry_for}
use Rattle.forward_sim.specs.References.{entry_of, terms_at, IsEntry, IsReplacing}

-- one letter behind q letters I
one_more : (m q : ℕ) (w : List Letter) → m ≡ q + 1 → no_letters m ++ w ≡ no_letters q ++ I ∷ w
one_more zero q w h = absurd (omega (arith, h))
one_more (suc m) zero w h =
    let none : m ≡ 0 = omega (arith, h) in
    ap (λ k. I ∷ no_letters k ++ w) none
one_more (suc m) (suc q) w h =
    let less : m ≡ q + 1 = omega (arith, h) in
    ap (λ xs. I ∷ xs) (one_more m q w less)

at_q : (q : ℕ) (w : List Letter) → letter_at (no_letters q ++ I ∷ w) q ≡ I
at_q zero w = refl
at_q (suc q) w = at_q q w

put_at_q : (q : ℕ) (a : Letter) (w : List Letter) → set (no_letters q ++ I ∷ w) q a ≡ no_letters q ++ a ∷ w
put_at_q zero a w = refl
put_at_q (suc q) a w = ap (λ xs. I ∷ xs) (put_at_q q a w)

length_behind : (q : ℕ) (a : Letter) (w : List Letter) → length (no_letters q ++ a ∷ w) ≡ q + suc (length w)
length_behind zero a w = omega arith
length_behind (suc q) a w =
    let more : suc (q + suc (length w)) ≡ suc q + suc (length w) = omega arith in
    ap suc (length_behind q a w) ∙ more

times_lone : (n q : ℕ) (a : Letter) (w : List Letter) → n ≡ q + suc (length w) → letters_product (lone_letter n q a) (no_letters q ++ I ∷ w) ≡ no_letters q ++ a ∷ w
times_lone n q a w h =
    let inside : q < n = omega (arith, h) in
    letters_product-lone_letter n (no_letters q ++ I ∷ w) q a (length_behind q I w ∙ sym h) inside
    ∙ ap (λ b. set (no_letters q ++ I ∷ w) q (letter_product a b)) (at_q q w)
    ∙ ap (set (no_letters q ++ I ∷ w) q) (letter_product-I a)
    ∙ put_at_q q a w

next_size : (n q m : ℕ) → n ≡ q + suc m → n ≡ q + 1 + m
next_size n q m h = omega (arith, h)

-- b where a letter clashes with a, otherwise I
abbrev part : Letter → Letter → Letter → Letter
part a b letter = if letters_clash letter a then b else I

-- b at the qubit q, or not, and at those behind it
here_or_not : (clash : Bool) (b : Letter) (q : ℕ) (w : List Letter) (rest : List ℕ) (n : ℕ) → n ≡ q + suc (length w) → word_of_terms n (terms_at b rest) ≡ no_letters (q + 1) ++ w → word_of_terms n (terms_at b (if clash then q ∷ rest else rest)) ≡ no_letters q ++ (if clash then b else I) ∷ w
here_or_not true b q w rest n h behind =
    ap (letters_product (lone_letter n q b)) (behind ∙ one_more (q + 1) q w refl) ∙ times_lone n q b w h
here_or_not false b q w rest n h behind = behind ∙ one_more (q + 1) q w refl

-- b at the qubits at which a word clashes with a, behind q letters I
parts_behind : (a b : Letter) (q : ℕ) (w : List Letter) (n : ℕ) → n ≡ q + length w → word_of_terms n (terms_at b (clashing a q w)) ≡ no_letters q ++ map (part a b) w
parts_behind a b q [] n h =
    let same : n ≡ q = omega (arith, h) in
    ap no_letters same ∙ sym (append-nil (no_letters q))
parts_behind a b q (letter ∷ w) n h =
    let size : length (map (part a b) w) ≡ length w = length-map w (part a b) in
    let long : n ≡ q + suc (length (map (part a b) w)) = omega (arith, h, size) in
    here_or_not (letters_clash letter a) b q (map (part a b) w) (clashing a (q + 1) w) n long
    (parts_behind a b (q + 1) w n (next_size n q (length w) h))

-- a letter is the product of its X and its Z
both_parts : (w : List Letter) → letters_product (map (part Z X) w) (map (part X Z) w) ≡ w
both_parts [] = refl
both_parts (I ∷ w) = ap (λ v. I ∷ v) (both_parts w)
both_parts (X ∷ w) = ap (λ v. X ∷ v) (both_parts w)
both_parts (Y ∷ w) = ap (λ v. Y ∷ v) (both_parts w)
both_parts (Z ∷ w) = ap (λ v. Z ∷ v) (both_parts w)

-- the word of two lists of letters at qubits
pub word_of_both : (n : ℕ) (us vs : List Term) → word_of_terms n (us ++ vs) ≡ letters_product (word_of_terms n us) (word_of_terms n vs)
word_of_both n [] vs = sym (letters_product_of_no_letters n (word_of_terms n vs) (length-word_of_terms n vs))
word_of_both n (u ∷ us) vs =
    ap (letters_product (lone_letter n u.qubit u.letter)) (word_of_both n us vs)
    ∙ sym (letters_product_assoc (lone_letter n u.qubit u.letter) (word_of_terms n us) (word_of_terms n vs))

-- the terms of a word make it
pub word_of_its_terms : (n : ℕ) (w : List Letter) → length w ≡ n → word_of_terms n (terms_of_word w) ≡ w
word_of_its_terms n w h =
    let size : n ≡ 0 + length w = omega (arith, h) in
    word_of_both n (terms_at X (clashing Z 0 w)) (terms_at Z (clashing X 0 w))
    ∙ ap₂ letters_product (parts_behind Z X 0 w n size) (parts_behind X Z 0 w n size)
    ∙ both_parts w

-- and stand at its qubits
fit_or_not : (clash : Bool) (b : Letter) (q : ℕ) (rest : List ℕ) (n : ℕ) → q < n → TermsFit n (terms_at b rest) → TermsFit n (terms_at b (if clash then q ∷ rest else rest))
fit_or_not true b q rest n inside behind =
    All-cons (λ (term : Term). term.qubit < n) (record { qubit = q; letter = b }) (terms_at b rest) inside behind
fit_or_not false b q rest n inside behind = behind

parts_fit : (a b : Letter) (q : ℕ) (w : List Letter) (n : ℕ) → n ≡ q + length w → TermsFit n (terms_at b (clashing a q w))
parts_fit a b q [] n h = All-nil (λ (term : Term). term.qubit < n)
parts_fit a b q (letter ∷ w) n h =
    let inside : q < n = omega (arith, h) in
    fit_or_not (letters_clash letter a) b q (clashing a (q + 1) w) n inside (parts_fit a b (q + 1) w n (next_size n q (length w) h))

pub terms_fit : (n : ℕ) (w : List Letter) → length w ≡ n → TermsFit n (terms_of_word w)
terms_fit n w h =
    let size : n ≡ 0 + length w = omega (arith, h) in
    All-append (λ (term : Term). term.qubit < n) (terms_at X (clashing Z 0 w)) (terms_at Z (clashing X 0 w))
    (parts_fit Z X 0 w n size) (parts_fit X Z 0 w n size)

-- the row whose stabilizer a collapse may replace
pub row_inside : (rows : Rows) (w : List Letter) (row : Option ℕ) → NamesRandom rows w row → IfSome row (λ r. r < row_count rows)
row_inside rows w None named = tt
row_inside rows w (Some row) named = named.inside

-- a list that makes a word which anticommutes with another isn't empty
entry_is : (n : ℕ) (s : State) (w : List Letter) (terms : List Term) → TermsFit n terms → IsReplacing s w (word_of_terms n terms) → IsEntry n s w (entry_of terms)
entry_is n s w [] fit replacing =
    absurd (false≢true (sym (anticommute_of_none n w) ∙ anticommute_comm (no_letters n) w ∙ replacing.anticommutes))
entry_is n s w (term ∷ terms) fit replacing = (fit, replacing)

-- what is kept of a collapse
row_entry : (n : ℕ) (rows : Rows) (w : List Letter) (row : Option ℕ) → IfSome row (λ r. length (stabilizer_at rows r).letters ≡ n) → NamesRandom rows w row → IsEntry n (state_of rows) w (entry_for rows row)
row_entry n rows w None long named = named
row_entry n rows w (Some row) long named =
    let v = stabilizer_at rows row in
    entry_is n (state_of rows) w (terms_of_word v.letters) (terms_fit n v.letters long)
    (subst (IsReplacing (state_of rows) w) (sym (word_of_its_terms n v.letters long))
    (record { random = named.random; in_state = (v.negative, named.was_in_state); anticommutes = named.anticommuted }))

-- and is read from the rows before it
pub kept_entry : (n : ℕ) (rows : Rows) (w : List Letter) (row : Option ℕ) (entry : Option (List Term)) → IfSome row (λ r. length (stabilizer_at rows r).letters ≡ n) → entry ≡ entry_for rows row → NamesRandom rows w row
    → IsEntry n (state_of rows) w entry
kept_entry n rows w row entry long read named = subst (IsEntry n (state_of rows) w) (sym read) (row_entry n rows w row long named)
