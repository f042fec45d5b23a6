-- The lines of a model, by their number, and one line more.
use Rattle.std.proofs.Common.{◌≡◌, ℕ, zero, suc, ◌+◌, ◌<◌, List, [], ◌∷◌, ◌++◌, length, get_or, Result, Ok, Err, OnErr, refl, ap, ap₂, ◌∙◌, arith}
use Rattle.std.specs.Prelude.{All}
use Rattle.std.proofs.Math.Nat.{suc_inj}
use Rattle.error_models.specs.ErrorLines.{lines_of, no_line, text_at, KeepsTexts}
use Rattle.step_model.specs.ErrorModels.{ErrorLine}

abbrev pub line_from : List ℕ → List ℕ → ErrorLine
line_from text targets = record { text = text; targets = targets }

-- ---- texts
pub text_at-get_or : (texts : List (List ℕ)) (n : ℕ) (d : List ℕ) → n < length texts → text_at texts n ≡ get_or texts n d
text_at-get_or [] n d h = absurd (omega (arith, h))
text_at-get_or (text ∷ texts) zero d h = refl
text_at-get_or (text ∷ texts) (suc n) d h = text_at-get_or texts n d (omega (arith, h))

text_at-more : (texts more : List (List ℕ)) (n : ℕ) → n < length texts → text_at (texts ++ more) n ≡ text_at texts n
text_at-more [] more n h = absurd (omega (arith, h))
text_at-more (text ∷ texts) more zero h = refl
text_at-more (text ∷ texts) more (suc n) h = text_at-more texts more n (omega (arith, h))

pub length-one_more : (texts : List (List ℕ)) (text : List ℕ) → length (texts ++ text ∷ []) ≡ length texts + 1
length-one_more [] text = refl
length-one_more (other ∷ texts) text = ap suc (length-one_more texts text) ∙ (let e : suc (length texts + 1) ≡ suc (length texts) + 1 = omega arith in e)

pub last_text : (texts : List (List ℕ)) (text : List ℕ) → text_at (texts ++ text ∷ []) (length texts) ≡ text
last_text [] text = refl
last_text (other ∷ texts) text = last_text texts text

pub keeps_pushed : (old new : List (List ℕ)) (text : List ℕ) → new ≡ old ++ text ∷ [] → KeepsTexts old new
keeps_pushed old new text is =
    λ n h. (omega (arith, h, ap length is, length-one_more old text), ap (λ texts. text_at texts n) is ∙ text_at-more old (text ∷ []) n h)

-- ---- lines
pub length-lines_of : (texts : List (List ℕ)) (numbers : List ℕ) (targets : List (List ℕ)) → length numbers ≡ length targets → length (lines_of texts numbers targets) ≡ length numbers
length-lines_of texts [] targets h = refl
length-lines_of texts (n ∷ numbers) [] h = cc
length-lines_of texts (n ∷ numbers) (ts ∷ targets) h = ap suc (length-lines_of texts numbers targets (suc_inj h))

pub get_or-lines_of : (texts : List (List ℕ)) (numbers : List ℕ) (targets : List (List ℕ)) (i d : ℕ) → length numbers ≡ length targets → i < length numbers → get_or (lines_of texts numbers targets) i no_line ≡ line_from (text_at texts (get_or numbers i d)) (get_or targets i [])
get_or-lines_of texts [] targets i d h k = absurd (omega (arith, k))
get_or-lines_of texts (n ∷ numbers) [] i d h k = cc
get_or-lines_of texts (n ∷ numbers) (ts ∷ targets) zero d h k = refl
get_or-lines_of texts (n ∷ numbers) (ts ∷ targets) (suc i) d h k = get_or-lines_of texts numbers targets i d (suc_inj h) (omega (arith, k))

pub lines_of-kept : (old new : List (List ℕ)) (numbers : List ℕ) (targets : List (List ℕ)) → KeepsTexts old new → All (λ n. n < length old) numbers → lines_of new numbers targets ≡ lines_of old numbers targets
lines_of-kept old new [] targets keeps named = refl
lines_of-kept old new (n ∷ numbers) [] keeps named = refl
lines_of-kept old new (n ∷ numbers) (ts ∷ targets) keeps named =
    ap₂ (λ text lines. line_from text ts ∷ lines) (keeps n (named 0 0 (omega arith))).1
    (lines_of-kept old new numbers targets keeps (λ k d lt. named (suc k) d (omega (arith, lt))))

pub lines_of-push : (texts : List (List ℕ)) (numbers : List ℕ) (targets : List (List ℕ)) (n : ℕ) (ts : List ℕ) → length numbers ≡ length targets → lines_of texts (numbers ++ n ∷ []) (targets ++ ts ∷ []) ≡ lines_of texts numbers targets ++ line_from (text_at texts n) ts ∷ []
lines_of-push texts [] [] n ts h = refl
lines_of-push texts [] (us ∷ targets) n ts h = cc
lines_of-push texts (m ∷ numbers) [] n ts h = cc
lines_of-push texts (m ∷ numbers) (us ∷ targets) n ts h = ap (λ lines. line_from (text_at texts m) us ∷ lines) (lines_of-push texts numbers targets n ts (suc_inj h))

-- the numbers stay those of texts
pub named_kept : (old new : List (List ℕ)) (numbers : List ℕ) → KeepsTexts old new → All (λ n. n < length old) numbers → All (λ n. n < length new) numbers
named_kept old new numbers keeps named = λ k d lt. (keeps (get_or numbers k d) (named k d lt)).0

pub counted_pushed : (numbers : List ℕ) (targets : List (List ℕ)) (n : ℕ) (ts : List ℕ) → length numbers ≡ length targets → length (numbers ++ n ∷ []) ≡ length (targets ++ ts ∷ [])
counted_pushed [] [] n ts h = refl
counted_pushed [] (us ∷ targets) n ts h = cc
counted_pushed (m ∷ numbers) [] n ts h = cc
counted_pushed (m ∷ numbers) (us ∷ targets) n ts h = ap suc (counted_pushed numbers targets n ts (suc_inj h))

-- what holds anyway holds where a call fails
pub on_err_any : {V E P : Type 0} (r : Result V E) → P → OnErr r P
on_err_any (Ok v) p = tt
on_err_any (Err e) p = p
