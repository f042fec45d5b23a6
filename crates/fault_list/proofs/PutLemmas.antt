-- Bytes that are put into a buffer at some place.
use Rattle.std.proofs.Common.{◌≡◌, ℕ, ◌+◌, ◌-◌, ◌≤◌, List, [], ◌∷◌, ◌++◌, length, take, drop, length-append, length-take, sym, ap, ap₂, ◌∙◌, append_assoc, arith, rules}
use Rattle.std.specs.Prelude.{codes}
use Rattle.std.proofs.Math.Seq.{take-append-add, length-take-le}
use Rattle.std.proofs.lemmas.List.{take-append-le, take_at, take-take, drop_at}
use Rattle.std.proofs.lemmas.Slice.{between_is}
use Rattle.fault_list.specs.private.KeptTexts.{probability_text}

-- the first of them, after what stood before that place
pub put_within : (at k len : ℕ) (buffer bytes : List ℕ) → at ≤ length buffer → len ≤ length bytes → take (at + len) (take at buffer ++ (bytes ++ drop k (drop at buffer))) ≡ take at buffer ++ take len bytes
put_within at k len buffer bytes inside within =
    let rest = bytes ++ drop k (drop at buffer) in
    ap (λ n. take (n + len) (take at buffer ++ rest)) (sym (length-take-le at buffer inside))
    ∙ (take-append-add (take at buffer) rest len
    ∙ ap (λ l. take at buffer ++ l) (take-append-le len bytes (drop k (drop at buffer)) within))

-- a text that was put between two spaces
pub between_spaces : {first second third text known : List ℕ} → first ≡ 32 ∷ [] → second ≡ first ++ text → third ≡ second ++ 32 ∷ [] → text ≡ known → third ≡ probability_text known
between_spaces {first} {second} {third} {text} {known} a b c is =
    c
    ∙ (ap (λ l. l ++ 32 ∷ []) (b ∙ ap (λ l. l ++ text) a)
    ∙ ap (λ t. 32 ∷ (t ++ 32 ∷ [])) is)

-- what stood before a place stands there still
pub before_kept : (at end : ℕ) (new old text : List ℕ) → at ≤ end → at ≤ length old → take end new ≡ take at old ++ text → take at new ≡ take at old
before_kept at end new old text after inside written =
    sym (take-take at end new after)
    ∙ (ap (take at) written
    ∙ take_at (take at old) text at (length-take-le at old inside))

-- and it ends after that place
pub ends_after : (at end : ℕ) (new old text : List ℕ) → at ≤ length old → take end new ≡ take at old ++ text → at ≤ end
ends_after at end new old text inside written =
    omega (arith, ap length written, length-append (take at old) text, length-take end new, length-take-le at old inside)

-- what was put is the text
pub text_between : (at end : ℕ) (new old text : List ℕ) → at ≤ length old → take end new ≡ take at old ++ text → take (end - at) (drop at new) ≡ text
text_between at end new old text inside written =
    let cut : take (end - at) (drop at new) ≡ drop at (take end new) = search (rules, between_is) in
    cut ∙ (ap (drop at) written ∙ drop_at (take at old) text at (length-take-le at old inside))

-- so does what stood before an earlier place
pub kept_before : (at end : ℕ) (new old : List ℕ) → at ≤ end → take end new ≡ take end old → take at new ≡ take at old
kept_before at end new old after same = sym (take-take at end new after) ∙ (ap (take at) same ∙ take-take at end old after)

-- the parts of a line, put one after another
pub line_put : (before number effect : List ℕ) {first second third whole text known : List ℕ} → first ≡ before ++ number → second ≡ first ++ probability_text text → third ≡ second ++ effect → whole ≡ third ++ codes "\n" → text ≡ known → whole ≡ before ++ (number ++ codes " " ++ known ++ codes " " ++ effect ++ codes "\n")
line_put before number effect {first} {second} {third} {whole} {text} {known} a b c d is =
    let parts : before ++ number ++ probability_text known ++ effect ++ codes "\n" ≡ before ++ (number ++ codes " " ++ known ++ codes " " ++ effect ++ codes "\n") = simp append_assoc in
    d
    ∙ (ap (λ l. l ++ codes "\n") (c ∙ ap (λ l. l ++ effect) (b ∙ ap₂ (λ l t. l ++ probability_text t) a is))
    ∙ parts)
