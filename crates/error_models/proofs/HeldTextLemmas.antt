-- Parts of a text put before those that were there.
use Rattle.std.specs.Prelude.{reverse}
use Rattle.std.proofs.Common.{◌≡◌, ℕ, ◌+◌, ◌-◌, ◌≤◌, ◌<◌, min, List, [], ◌∷◌, ◌++◌, length, get_or, take, drop, refl, ap, ap₂, sym, ◌∙◌, arith, append_assoc, append-nil, length-append}
use Rattle.std.specs.List.{flat_map}
use Rattle.std.proofs.lemmas.Grind.{flat_map-append}
use Rattle.std.proofs.lemmas.List.{take-append-drop, drop-drop, drop_more, reverse-append}
use Rattle.error_models.specs.HeldText.{Filled, texts_of, EndsIn}

-- a part of a list and what stands behind it
pub part_and_rest : {X : Type 0} (xs : List X) (from left : ℕ) → from ≤ left → take (left - from) (drop from xs) ++ drop left xs ≡ drop from xs
part_and_rest xs from left le =
    let counted : from + (left - from) ≡ left = omega (arith, le) in
    ap (λ n. take (left - from) (drop from xs) ++ drop n xs) (sym counted)
    ∙ ap (λ l. take (left - from) (drop from xs) ++ l) (sym (drop-drop (left - from) from xs))
    ∙ take-append-drop (left - from) (drop from xs)

-- the same of their texts
pub texts_and_rest : {X : Type 0} (f : X → List ℕ) (xs : List X) (from left : ℕ) → from ≤ left
    → flat_map f (take (left - from) (drop from xs)) ++ flat_map f (drop left xs) ≡ flat_map f (drop from xs)
texts_and_rest f xs from left le =
    sym (flat_map-append f (take (left - from) (drop from xs)) (drop left xs)) ∙ ap (flat_map f) (part_and_rest xs from left le)

-- a part that is put into a block, before what was there
pub put_before : (part rest was all block full new : List ℕ) → new ≡ part ++ block → block ++ full ≡ rest ++ was → part ++ rest ≡ all → new ++ full ≡ all ++ was
put_before part rest was all block full new put held whole =
    ap (λ l. l ++ full) put
    ∙ append_assoc part block full
    ∙ ap (λ l. part ++ l) held
    ∙ sym (append_assoc part rest was)
    ∙ ap (λ l. l ++ was) whole

-- a block that is full, before those that were
pub one_full_more : (full : List Filled) (b : Filled) → texts_of (full ++ b ∷ []) ≡ b.text ++ texts_of full
one_full_more full b = ap (flat_map (λ (c : Filled). c.text)) (reverse-append full (b ∷ []))

-- a count that stops at a greatest number, and more
pub count_more : (n more most : ℕ) → min (min n most + more) most ≡ min (more + n) most
count_more n more most = omega arith

-- the count of a block's text and of that of the blocks before
pub counted_more : (full new : List Filled) (b : Filled) (n len most : ℕ) → n ≡ min (length (texts_of full)) most → len ≡ length b.text → new ≡ full ++ b ∷ []
    → min (n + len) most ≡ min (length (texts_of new)) most
counted_more full new b n len most n_is len_is new_is =
    ap₂ (λ k m. min (k + m) most) n_is len_is
    ∙ count_more (length (texts_of full)) (length b.text) most
    ∙ ap (λ k. min k most) (sym (ap length (ap texts_of new_is ∙ one_full_more full b) ∙ length-append b.text (texts_of full)))

-- a block without text is no more
pub no_block : (full : List Filled) (text : List ℕ) (len : ℕ) → len ≡ length text → len ≡ 0 → texts_of full ≡ text ++ texts_of full
no_block full [] len len_is none = refl
no_block full (x ∷ text) len len_is none = absurd (omega (arith, len_is, none))

-- a block more, before those that come behind it
pub one_block_more : (full : List Filled) (i left : ℕ) (b : Filled) → i + 1 ≡ left → i < length full → b ≡ get_or full i b
    → texts_of (drop left full) ++ b.text ≡ texts_of (drop i full)
one_block_more full i left b next within is =
    let behind = drop (i + 1) full in
    let f : Filled → List ℕ = λ c. c.text in
    ap (λ n. texts_of (drop n full) ++ b.text) (sym next)
    ∙ ap (λ l. texts_of behind ++ l) (sym (append-nil b.text))
    ∙ sym (flat_map-append f (reverse behind) (b ∷ []))
    ∙ ap (flat_map f) (sym (reverse-append (b ∷ []) behind))
    ∙ ap (λ c. texts_of (c ∷ behind)) is
    ∙ ap texts_of (sym (drop_more full i b within))

-- what is behind what is behind
pub EndsIn-trans : {a b c : List ℕ} → EndsIn a b → EndsIn b c → EndsIn a c
EndsIn-trans {a} (front, p) (more, q) = (more ++ front, q ∙ (ap (λ l. more ++ l) p ∙ sym (append_assoc more front a)))
