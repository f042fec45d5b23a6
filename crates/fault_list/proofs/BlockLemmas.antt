-- The letters of successive qubits, block by block, and the text of a block in its buffer.
use Rattle.std.proofs.Common.{◌≡◌, ℕ, ◌+◌, ◌-◌, ◌<◌, ◌≤◌, List, [], ◌∷◌, ◌++◌, length, get_or, take, drop, sym, ap, ◌∙◌, arith, append-nil}
use Rattle.std.specs.Prelude.{codes, if◌then◌else◌}
use Rattle.std.proofs.Math.Seq.{take-add, length-take-le}
use Rattle.std.proofs.lemmas.List.{drop-take, drop_more}
use Rattle.std.proofs.lemmas.List.Concat.{flat_map-append}
use Rattle.pauli_word.specs.declared.letter.Letter.{Letter}
use Rattle.pauli_word.specs.declared.letter.Letter.TheVariants.{I}
use Rattle.step_model.specs.Listing.{is_I}
use Rattle.fault_list.specs.FaultLines.{factor_text}
use Rattle.fault_list.specs.private.FactorTexts.{letter_factors, starred, joined}
use Rattle.fault_list.proofs.FactorTextLemmas.{drop_star, letter_factors-append, starred-first}

abbrev pub letter_of : List Letter → ℕ → Letter
letter_of letters k = get_or letters k I

-- the text of a letter's factor after a star
abbrev pub factor_text_of : ℕ → Letter → List ℕ
factor_text_of q a = if is_I a then [] else codes "*" ++ factor_text q a

pub letter_factors-take : (q : ℕ) (letters : List Letter) (done some : ℕ) → done ≤ length letters → letter_factors q (take done letters) ++ letter_factors (q + done) (take some (drop done letters)) ≡ letter_factors q (take (done + some) letters)
letter_factors-take q letters done some within =
    let first = take done letters in
    ap (λ k. letter_factors q first ++ letter_factors (q + k) (take some (drop done letters))) (sym (length-take-le done letters within))
    ∙ (letter_factors-append q first (take some (drop done letters))
    ∙ ap (letter_factors q) (sym (take-add done some letters)))

-- those of the letters before one, and then its own
pub starred_before : (q n : ℕ) (letters : List Letter) → n < length letters → starred (letter_factors q (take n letters)) ++ factor_text_of (q + n) (letter_of letters n) ≡ starred (letter_factors q (take (n + 1) letters))
starred_before q n letters below =
    let first = take n letters in
    let a = letter_of letters n in
    let one : take 1 (drop n letters) ≡ a ∷ [] = ap (take 1) (drop_more letters n I below) in
    let own : factor_text_of (q + n) a ≡ starred (letter_factors (q + n) (a ∷ [])) =
    sym (append-nil (factor_text_of (q + n) a)) ∙ starred-first (q + n) a [] in
    ap (λ l. starred (letter_factors q first) ++ l) (own ∙ ap (λ ls. starred (letter_factors (q + n) ls)) (sym one))
    ∙ (sym (flat_map-append (λ f. codes "*" ++ f) (letter_factors q first) (letter_factors (q + n) (take 1 (drop n letters))))
    ∙ ap starred (letter_factors-take q letters n 1 (omega (arith, below))))

-- a text without its first star
pub after_star : (buffer : List ℕ) (end : ℕ) (fs : List (List ℕ)) → 0 < end → take end buffer ≡ starred fs → take (end - 1) (drop 1 buffer) ≡ joined fs
after_star buffer end fs some h =
    let next : 1 + (end - 1) ≡ end = omega (arith, some) in
    sym (drop-take 1 (end - 1) buffer)
    ∙ (ap (λ n. drop 1 (take n buffer)) next
    ∙ (ap (drop 1) h ∙ drop_star fs))
