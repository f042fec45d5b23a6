use Rattle.std.proofs.Common.{◌≡◌, ◌≤◌, ◌+◌, false, true, List, ℕ, [], refl, ap, subst, sym, ◌∙◌, arith}
use Rattle.stim_lexer.specs.Cut.{cut_of}
use Rattle.stim_lexer.specs.FirstLines.{IsFirstLine}
use Rattle.dem_text.specs.Targets.{targets_in}
use Rattle.dem_text.specs.declared.brief.Extent.{Extent}
use Rattle.dem_text.specs.declared.operation.Operation.TheVariants.{PauliError}
use Rattle.dem_text.specs.declared.standing.Standing.{Standing}
use Rattle.dem_text.specs.private.Briefs.{IsBrief}
use Rattle.dem_text.specs.private.Folds.{IsSound}
use Rattle.dem_text.specs.private.Lines.{IsErrorLine, Speaks, instruction_cut, read_targets}
use Rattle.dem_text.proofs.FoldLemmas.{taken}
use Rattle.dem_text.proofs.PassedLemmas.{folded-one}
use Rattle.dem_text.proofs.front.Front.fold_error.Goals as goal

-- what is known of an error line
known : (number : ℕ) (line : List ℕ) (extent : Extent) → IsErrorLine line extent
    → IsBrief (instruction_cut number PauliError (cut_of line)) (record { line = number; operation = PauliError; extent = extent; amount = 0; reach = 0 }) []
known number line extent h = record { line_is = refl; operation_is = refl; known = h.known number; amount_is = tt; reach_is = refl }

pub pass-requires-clause-known : goal.pass-requires-clause-known
pass-requires-clause-known g c =
    let begins = c.requires.begins in
    record { instruction = instruction_cut (c.args.self.now.read + 1) PauliError (cut_of begins.line); brief_is = known (c.args.self.now.read + 1) begins.line c.args.extent begins.error }

-- the line that was cut off the text
same : (text line line' after after' : List ℕ) → IsFirstLine text line after → IsFirstLine text line' after' → line' ≡ line
same text line line' after after' first first' = first'.cut ∙ sym first.cut

pub targets_of-requires : goal.targets_of-requires
targets_of-requires g c =
    let begins = c.requires.begins in
    subst (λ (l : List ℕ). Speaks l) (sym (same _ _ _ _ _ begins.first c.first_line.ensures)) begins.error.speaks

pub turn_text-requires : goal.turn_text-requires
turn_text-requires g c =
    let begins = c.requires.begins in
    let is = c.targets_of.ensures ∙ ap (λ (l : List ℕ). (cut_of l).targets) (same _ _ _ _ _ begins.first c.first_line.ensures) in
    (begins.error.listed.0, ap targets_in is ∙ begins.error.listed.1)

pub returns-then-not-pass-clause-folded : goal.returns-then-not-pass-clause-folded
returns-then-not-pass-clause-folded g c line first =
    let begins = c.requires.begins in
    let same : line ≡ begins.line = first.cut ∙ sym begins.first.cut in
    let number = c.args.self.now.read + 1 in
    let i = instruction_cut number PauliError (cut_of line) in
    let brief = subst (λ (l : List ℕ). IsBrief (instruction_cut number PauliError (cut_of l)) (record { line = number; operation = PauliError; extent = c.args.extent; amount = 0; reach = 0 }) []) (sym same) (known number begins.line c.args.extent begins.error) in
    folded-one i c.args.self.now _ c.if-self-gt-MOST_LINES.false
    (λ named f h.
    let passed = c.pass.ensures.follows named f i h brief in
    taken named f c.args.self.now.fold i h c.pass.new.self c.pass.new.self false i.targets (sym c.if-not-pass.true ∙ passed.0) passed.1 refl refl refl refl)
    c.pass.ensures.sound c.pass.ensures.passed

pub returns-clause-folded : goal.returns-clause-folded
returns-clause-folded g c line first =
    let begins = c.requires.begins in
    let same : line ≡ begins.line = first.cut ∙ sym begins.first.cut in
    let number = c.args.self.now.read + 1 in
    let i = instruction_cut number PauliError (cut_of line) in
    let brief = subst (λ (l : List ℕ). IsBrief (instruction_cut number PauliError (cut_of l)) (record { line = number; operation = PauliError; extent = c.args.extent; amount = 0; reach = 0 }) []) (sym same) (known number begins.line c.args.extent begins.error) in
    let here : c.first_line.result.0.now ≡ line = c.first_line.ensures.cut ∙ sym first.cut in
    let turned = c.in_ok-turn_text.ensures.turned in
    folded-one i c.args.self.now c.turn_text.new.self (subst (λ (n : ℕ). n ≤ 4_000_000) (sym c.in_ok-turn_text.ensures.unrolled) c.if-self-gt-MOST_LINES.false)
    (λ named f h.
    let passed = c.pass.ensures.follows named f i h brief in
    taken named f c.args.self.now.fold i h c.pass.new.self c.turn_text.new.self.fold true (read_targets c.targets_of.result.now) (sym c.if-not-pass.false ∙ passed.0) passed.1
    (ap read_targets (c.targets_of.ensures ∙ ap (λ (l : List ℕ). (cut_of l).targets) here)) turned.standing turned.later turned.bits)
    (subst (λ (s : Standing). IsSound s) (sym turned.standing) c.pass.ensures.sound)
    (let passed = c.pass.ensures.passed in omega (arith, passed, ap (λ (s : Standing). s.passed) turned.standing))
