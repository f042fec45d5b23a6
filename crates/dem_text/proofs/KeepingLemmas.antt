-- Lines that are kept, one more of them, and the one at a place.
use Rattle.std.proofs.Common.{◌≡◌, ℕ, zero, suc, ◌<◌, ℤ, List, [], ◌∷◌, ◌++◌, Some, Bor, length, get_or, refl, ap, subst, sym, ◌∙◌, arith}
use Rattle.std.specs.Prelude.{nat_abs, slice_get}
use Rattle.stim_lexer.specs.Arguments.{arguments_in}
use Rattle.stim_lexer.specs.Fitting.{ReadingFits}
use Rattle.stim_lexer.specs.Said.{reading_in}
use Rattle.stim_lexer.specs.Texts.{Reading, Accepts, Opens, Closes, Refuses}
use Rattle.stim_lexer.specs.Kept.{instruction_in, item_in}
use Rattle.stim_lexer.specs.declared.items.Instruction as handed
use Rattle.stim_lexer.specs.declared.items.Item.TheVariants as item
use Rattle.stim_lexer.specs.Trees.{InstructionLine, BlockStart, BlockEnd}
use Rattle.stim_lexer.specs.Unfinished.{line_items}
use Rattle.stim_lexer.specs.declared.said.Said.{Said}
use Rattle.stim_lexer.specs.declared.said.Said.TheVariants as said
use Rattle.stim_lexer.proofs.TreeLemmas.{line_fits}
use Rattle.step_model.specs.declared.fault.Cause.{Cause}
use Rattle.dem_text.specs.declared.brief.Brief.{Brief}
use Rattle.dem_text.specs.declared.operation.Operation.{Operation}
use Rattle.dem_text.specs.declared.operation.Operation.TheVariants.{PauliError, DetectorDeclaration, ObservableInclude, Shifts}
use Rattle.dem_text.specs.declared.target.Target.{Target}
use Rattle.dem_text.specs.Fitting.{Fits}
use Rattle.dem_text.specs.Meanings.{detectors_to, observables_to}
use Rattle.dem_text.specs.Texts.{Item, models}
use Rattle.dem_text.specs.Verdicts.{Instruction, number_in}
use Rattle.stim_lexer.specs.Reached.{greatest_by}
use Rattle.dem_text.specs.private.Briefs.{IsAmount, IsBrief}
use Rattle.dem_text.specs.private.Keeping.{AreKept, IsItemKept}
use Rattle.dem_text.specs.private.Lines.{IsReading}
use Rattle.dem_text.specs.private.Tables.{numbers_of_line}
use Rattle.dem_text.proofs.FitLemmas.{reading_fits}
use Rattle.dem_text.proofs.TableLemmas.{known-fitting}

-- ---- what is kept

pub kept-push : (items : List Item) (briefs : List Brief) (stated : List (List ℤ)) (item : Item) (brief : Brief) (numbers : List ℤ) → AreKept items briefs stated → IsItemKept item brief numbers
    → AreKept (items ++ item ∷ []) (briefs ++ brief ∷ []) (stated ++ numbers ∷ [])
kept-push [] [] [] item brief numbers h k = (k, tt)
kept-push [] [] (ns ∷ stated) item brief numbers h k = absurd h
kept-push [] (b ∷ briefs) stated item brief numbers h k = absurd h
kept-push (i ∷ items) [] stated item brief numbers h k = absurd h
kept-push (i ∷ items) (b ∷ briefs) [] item brief numbers h k = absurd h
kept-push (i ∷ items) (b ∷ briefs) (ns ∷ stated) item brief numbers h k = (h.0, kept-push items briefs stated item brief numbers h.1 k)

-- what is kept is as long as the items
pub kept-long : (items : List Item) (briefs : List Brief) (stated : List (List ℤ)) → AreKept items briefs stated → (length briefs ≡ length items) × (length stated ≡ length items)
kept-long [] [] [] h = (refl, refl)
kept-long [] [] (ns ∷ stated) h = absurd h
kept-long [] (b ∷ briefs) stated h = absurd h
kept-long (i ∷ items) [] stated h = absurd h
kept-long (i ∷ items) (b ∷ briefs) [] h = absurd h
kept-long (i ∷ items) (b ∷ briefs) (ns ∷ stated) h = let rest = kept-long items briefs stated h.1 in (ap suc rest.0, ap suc rest.1)

kept-at : (items : List Item) (briefs : List Brief) (stated : List (List ℤ)) (k : ℕ) (i : Instruction) (default : Brief) → AreKept items briefs stated → slice_get items k ≡ Some (InstructionLine i)
    → IsBrief i (get_or briefs k default) (get_or stated k [])
kept-at [] briefs stated k i default h got = absurd (let e = got in cc)
kept-at (item ∷ items) [] stated k i default h got = absurd h
kept-at (item ∷ items) (b ∷ briefs) [] k i default h got = absurd h
kept-at (item ∷ items) (b ∷ briefs) (ns ∷ stated) zero i default h got =
    let same : item ≡ InstructionLine i = cc in subst (λ (x : Item). IsItemKept x b ns) same h.0
kept-at (item ∷ items) (b ∷ briefs) (ns ∷ stated) (suc k) i default h got = kept-at items briefs stated k i default h.1 got

-- what is handed out of a place
pub kept-brief : (items : List Item) (briefs : List Brief) (stated : List (List ℤ)) (k : ℕ) (i : Instruction) (b default : Brief) (ns : List ℤ) → AreKept items briefs stated → slice_get items k ≡ Some (InstructionLine i)
    → b ≡ get_or briefs k default → ns ≡ get_or stated k [] → IsBrief i b ns
kept-brief items briefs stated k i b default ns h got e f =
    subst (λ (x : Brief). IsBrief i x ns) (sym e) (subst (IsBrief i (get_or briefs k default)) (sym f) (kept-at items briefs stated k i default h got))

-- where an item stands
pub got-within : (items : List Item) (k : ℕ) (item : Item) → slice_get items k ≡ Some item → k < length items
got-within [] k item got = absurd (let e = got in cc)
got-within (i ∷ items) zero item got = omega arith
got-within (i ∷ items) (suc k) item got = let rest = got-within items k item got in omega (arith, rest)

-- ---- what a line says

-- what the line of a number says, wherever so many blocks are open, fits
pub reading-fits : (opened : List ℕ) (number : ℕ) (line : List ℕ) (reading : Reading Instruction) → IsReading (length opened) number line reading → ReadingFits Fits (length opened) reading
reading-fits opened number line reading h = subst (ReadingFits Fits (length opened)) (sym (h opened refl)) (line_fits Fits models reading_fits opened number line)

amount-is : (o : Operation) (amount : ℕ) (targets : List Target) → amount ≡ number_in targets → IsAmount o amount targets
amount-is PauliError amount targets e = tt
amount-is DetectorDeclaration amount targets e = tt
amount-is ObservableInclude amount targets e = tt
amount-is Shifts amount targets e = e

-- what is known of an instruction that fits
pub brief-fitting : (i : Instruction) (b : Brief) (stated : List ℤ) → Fits i → b.line ≡ i.line → b.operation ≡ i.operation → b.extent.detectors ≡ greatest_by detectors_to i.targets → b.extent.observables ≡ greatest_by observables_to i.targets
    → b.amount ≡ number_in i.targets → b.reach ≡ greatest_by nat_abs stated → stated ≡ numbers_of_line i → IsBrief i b stated
brief-fitting i b stated fits line operation detectors observables amount reach numbers =
    record {
      line_is = line;
      operation_is = operation;
      known = known-fitting i b.extent stated fits detectors observables numbers;
      amount_is = amount-is i.operation b.amount i.targets amount;
      reach_is = reach;
    }

-- the item of what a line says, of which this is known
pub said-push : (number depth : ℕ) (reading : Reading Instruction) (items : List Item) (briefs : List Brief) (stated : List (List ℤ)) (brief : Brief) (numbers : List ℤ) → AreKept items briefs stated
    → ((i : Instruction) → reading ≡ Accepts i → IsBrief i brief numbers) → ((c : Cause) → reading ≡ Refuses c → ⊥) → AreKept (items ++ line_items number reading) (briefs ++ brief ∷ []) (stated ++ numbers ∷ [])
said-push number depth (Accepts i) items briefs stated brief numbers h known other = kept-push items briefs stated (InstructionLine i) brief numbers h (known i refl)
said-push number depth (Opens turns) items briefs stated brief numbers h known other = kept-push items briefs stated (BlockStart number turns) brief numbers h tt
said-push number depth Closes items briefs stated brief numbers h known other = kept-push items briefs stated BlockEnd brief numbers h tt
said-push number depth (Refuses c) items briefs stated brief numbers h known other = absurd (other c refl)

pub not-refused : (number : ℕ) (s : Said Operation) (targets : List Target) → ((c : Cause) → s ≡ said.Refuses c → ⊥) → (c : Cause) → reading_in number s targets ≡ Refuses c → ⊥
not-refused number (said.Accepts operation arguments) targets h c e = cc
not-refused number (said.Opens turns) targets h c e = cc
not-refused number said.Closes targets h c e = cc
not-refused number (said.Refuses d) targets h c e = h d refl

-- the instruction of a line that says one
pub accepted-fits : (number depth : ℕ) (s : Said Operation) (targets : List Target) (operation : Operation) (arguments : Bor (List ℕ)) → ReadingFits Fits depth (reading_in number s targets) → s ≡ said.Accepts operation arguments
    → Fits (record { line = number; operation = operation; arguments = arguments_in arguments.now; targets = targets })
accepted-fits number depth s targets operation arguments fits is = subst (λ (x : Said Operation). ReadingFits Fits depth (reading_in number x targets)) is fits

pub accepted-is : (number : ℕ) (s : Said Operation) (targets : List Target) (operation : Operation) (arguments : Bor (List ℕ)) (i : Instruction) → s ≡ said.Accepts operation arguments → reading_in number s targets ≡ Accepts i
    → record { line = number; operation = operation; arguments = arguments_in arguments.now; targets = targets } ≡ i
accepted-is number s targets operation arguments i is e =
    same _ i (sym (ap (λ (x : Said Operation). reading_in number x targets) is) ∙ e)
  where
    same : (j i : Instruction) → Accepts j ≡ Accepts i → j ≡ i
    same j i e = cc

-- the instruction that is handed out of a place is that which stands there
pub handed-is : (items : List Item) (k : ℕ) (i : Instruction) (l : handed.Instruction Operation Target) → Some (item_in (item.InstructionLine l)) ≡ slice_get items k → slice_get items k ≡ Some (InstructionLine i)
    → instruction_in l ≡ i
handed-is items k i l e got = same _ i (e ∙ got)
  where
    same : (j i : Instruction) → Some (InstructionLine j) ≡ Some (InstructionLine i) → j ≡ i
    same j i e = cc
