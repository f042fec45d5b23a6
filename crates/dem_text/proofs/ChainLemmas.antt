-- Instructions in no block and with no shift among them: they are reached as they stand, one after another. The model of a text
-- that writes them.
use Rattle.std.proofs.Common.{◌≡◌, ℕ, ◌+◌, false, nat_lt, List, [], ◌∷◌, map, None, Ok, refl, ap, ap₂, sym, ◌∙◌, arith}
use Rattle.std.specs.Prelude.{⊤}
use Rattle.std.specs.List.{list_any}
use Rattle.std.proofs.lemmas.Bool.{or_from, or_parts}
use Rattle.stim_parser.proofs.WholeNumberLemmas.{magnitude_kept}
use Rattle.stim_parser.specs.Numbers.{is_number_beyond, magnitude_of, whole_value}
use Rattle.dem_text.specs.declared.operation.Operation.{Operation}
use Rattle.dem_text.specs.declared.operation.Operation.TheVariants.{PauliError, DetectorDeclaration, ObservableInclude, Shifts}
use Rattle.dem_text.specs.declared.target.Target.{Target}
use Rattle.dem_text.specs.declared.target.Target.TheVariants.{Plain, Detector, Observable, Separator}
use Rattle.dem_text.specs.Fitting.{Fits, AllFit}
use Rattle.dem_text.specs.Limits.{has_target_beyond}
use Rattle.dem_text.specs.Reached.{block_lines, most_lines}
use Rattle.dem_text.specs.Texts.{items_in}
use Rattle.stim_lexer.specs.Trees.{InstructionLine, Nothing, Then, items_of}
use Rattle.dem_text.specs.Trees.{Tree}
use Rattle.dem_text.specs.Judged.{Writes}
use Rattle.dem_text.specs.Verdicts.{Instruction}
use Rattle.dem_text.proofs.TreeLemmas.{each_tree_is_accepted}
use Rattle.dem_text.specs.Meanings.{meaning_of}
use Rattle.dem_text.specs.Models.{first_beyond, is_beyond, is_coordinate_beyond, model_in, placed_lines}
use Rattle.dem_text.specs.Shifts.{Placed, coordinates_given, no_shift, placed_at, placed_from, shift_after, shifted_target}
use Rattle.dem_text.proofs.ReadLemmas.{read-model, whole-model}
use Rattle.dem_text.proofs.ShiftLemmas.{moved-none}

abbrev pub AllStay : List Instruction → Type 0
AllStay [] = ⊤
AllStay (i ∷ is) = (shift_after i no_shift ≡ no_shift) × AllStay is

-- an instruction where nothing is shifted
abbrev pub placed : Instruction → Placed
placed i = record (placed_at no_shift i) { targets = i.targets }

-- ---- their tree

abbrev chain : List Instruction → Tree
chain [] = Nothing
chain (i ∷ is) = Then i (chain is)

chain-items : (is : List Instruction) → items_of (chain is) ≡ map InstructionLine is
chain-items [] = refl
chain-items (i ∷ is) = ap (λ items. InstructionLine i ∷ items) (chain-items is)

no_blocks : (is : List Instruction) → block_lines (chain is) ≡ 0
unfolding block_lines
no_blocks [] = refl
no_blocks (i ∷ is) = no_blocks is

-- targets where nothing is shifted
unmoved : (ts : List Target) → map (shifted_target 0) ts ≡ ts
unmoved [] = refl
unmoved (Plain n ∷ ts) = ap (λ us. Plain n ∷ us) (unmoved ts)
unmoved (Detector d ∷ ts) = let same : d + 0 ≡ d = omega arith in ap₂ (λ e us. Detector e ∷ us) same (unmoved ts)
unmoved (Observable k ∷ ts) = ap (λ us. Observable k ∷ us) (unmoved ts)
unmoved (Separator ∷ ts) = ap (λ us. Separator ∷ us) (unmoved ts)

chain-placed : (is : List Instruction) → AllStay is → placed_lines (chain is) ≡ map placed is
unfolding placed_from
chain-placed [] h = refl
chain-placed (i ∷ is) h =
    rw (h.0)
    (ap₂ (λ (p : Placed) (ps : List Placed). p ∷ ps) (ap (λ (ts : List Target). record (placed_at no_shift i) { targets = ts }) (unmoved i.targets)) (chain-placed is h.1))

-- ---- no number is beyond its limit

values_near : (arguments : List (List ℕ)) → list_any (λ text. is_number_beyond (magnitude_of text)) arguments ≡ false → list_any is_coordinate_beyond (map whole_value arguments) ≡ false
values_near [] h = refl
values_near (a ∷ arguments) h =
    let parts = or_parts (is_number_beyond (magnitude_of a)) (list_any (λ text. is_number_beyond (magnitude_of text)) arguments) h in
    or_from (is_coordinate_beyond (whole_value a)) (list_any is_coordinate_beyond (map whole_value arguments)) (ap is_number_beyond (magnitude_kept a) ∙ parts.0) (values_near arguments parts.1)

coordinates_near : (line : ℕ) (o : Operation) (arguments : List (List ℕ)) (targets : List Target) → Fits (record { line = line; operation = o; arguments = arguments; targets = targets })
    → list_any is_coordinate_beyond (coordinates_given o arguments []) ≡ false
coordinates_near line PauliError arguments targets fits = refl
coordinates_near line DetectorDeclaration arguments targets fits =
    ap (list_any is_coordinate_beyond) (moved-none (map whole_value arguments)) ∙ values_near arguments fits.arguments_within
coordinates_near line ObservableInclude arguments targets fits = refl
coordinates_near line Shifts arguments targets fits = refl

near-fitting : (i : Instruction) → Fits i → is_beyond (placed i) ≡ false
near-fitting i fits =
    or_from (has_target_beyond i.targets) (list_any is_coordinate_beyond (coordinates_given i.operation i.arguments [])) fits.targets_within
    (coordinates_near i.line i.operation i.arguments i.targets fits)

chain-near : (is : List Instruction) → AllFit (chain is) → first_beyond (map placed is) ≡ None
chain-near [] h = refl
chain-near (i ∷ is) h = let here = near-fitting i h.0 in rw here (chain-near is h.1)

-- ---- the model

pub chain_means : (text : List ℕ) (is : List Instruction) → AllStay is → items_in text ≡ Ok (map InstructionLine is) → model_in text ≡ Ok (meaning_of (map placed is))
chain_means text is still e =
    let writes : Writes text (chain is) = e ∙ ap Ok (sym (chain-items is)) in
    let all = chain-placed is still in
    read-model text (chain is) (meaning_of (map placed is)) writes
    (whole-model (chain is) (meaning_of (map placed is)) (ap (λ n. nat_lt most_lines n) (no_blocks is))
    (ap first_beyond all ∙ chain-near is (each_tree_is_accepted text (chain is) writes).fit)
    (ap meaning_of (sym all)))
