-- The texts of probabilities by their numbers, and one text more.
use Rattle.std.proofs.Common.{◌≡◌, ℕ, zero, suc, ◌+◌, ◌<◌, List, [], ◌∷◌, ◌++◌, length, map, get_or, refl, ap, ◌∙◌, arith}
use Rattle.step_model.specs.declared.chances.ChanceText.{ChanceText}
use Rattle.step_model.specs.Chances.{chance_at, chance_of, no_chance, KeepsChances}

pub chance_at-get_or : (parts : List ChanceText) (n : ℕ) (d : ChanceText) → n < length parts → chance_at parts n ≡ chance_of (get_or parts n d)
chance_at-get_or [] n d h = absurd (omega (arith, h))
chance_at-get_or (part ∷ parts) zero d h = refl
chance_at-get_or (part ∷ parts) (suc n) d h = chance_at-get_or parts n d (omega (arith, h))

pub chance_at-more : (parts more : List ChanceText) (n : ℕ) → n < length parts → chance_at (parts ++ more) n ≡ chance_at parts n
chance_at-more [] more n h = absurd (omega (arith, h))
chance_at-more (part ∷ parts) more zero h = refl
chance_at-more (part ∷ parts) more (suc n) h = chance_at-more parts more n (omega (arith, h))

pub length-one_more : (parts : List ChanceText) (part : ChanceText) → length (parts ++ part ∷ []) ≡ length parts + 1
length-one_more [] part = refl
length-one_more (other ∷ parts) part = ap suc (length-one_more parts part) ∙ (let e : suc (length parts + 1) ≡ suc (length parts) + 1 = omega arith in e)

pub last_chance : (parts : List ChanceText) (part : ChanceText) → chance_at (parts ++ part ∷ []) (length parts) ≡ chance_of part
last_chance [] part = refl
last_chance (other ∷ parts) part = last_chance parts part

pub keeps_pushed : (old new : List ChanceText) (part : ChanceText) → new ≡ old ++ part ∷ [] → KeepsChances old new
keeps_pushed old new part is =
    λ n h. (omega (arith, h, ap length is, length-one_more old part), ap (λ (parts : List ChanceText). chance_at parts n) is ∙ chance_at-more old (part ∷ []) n h)

pub chance_at-map : (parts : List ChanceText) (n : ℕ) → chance_at parts n ≡ get_or (map chance_of parts) n no_chance
chance_at-map [] n = refl
chance_at-map (part ∷ parts) zero = refl
chance_at-map (part ∷ parts) (suc n) = chance_at-map parts n
