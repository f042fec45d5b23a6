use Rattle.std.proofs.Common.{◌≡◌, ℕ, ◌≤◌, ◌==◌, true, List, [], ◌∷◌, length, get_or, ap, sym, ◌∙◌, arith}
use Rattle.std.specs.List.{before_first, after_first}
use Rattle.std.proofs.lemmas.List.{take_rest}
use Rattle.stim_lexer.specs.Bytes.{begins_with}
use Rattle.stim_lexer.proofs.scan.cut_brackets.Goals as goal

begins : (opening : ℕ) (start : List ℕ) → 1 ≤ length start → get_or start 0 0 ≡ opening → begins_with (λ b. b == opening) start ≡ true
begins opening [] some e = absurd (omega arith)
begins opening (b ∷ start) some e = grind arith

pub returns-in-len1-up-clause-inside : goal.returns-in-len1-up-clause-inside
returns-in-len1-up-clause-inside c =
    rw (sym c.requires, begins c.args.opening c.args.start.now c.in-len1-up.len_at_least c.if-first-opening.true)
    (c.cut_round-closed.ensures.before ∙ ap (before_first (λ b. b == c.args.closing)) (take_rest c.args.start.now 1))

pub returns-in-len1-up-clause-after : goal.returns-in-len1-up-clause-after
returns-in-len1-up-clause-after c =
    rw (sym c.requires, begins c.args.opening c.args.start.now c.in-len1-up.len_at_least c.if-first-opening.true)
    (c.cut_round-closed.ensures.after ∙ ap (after_first (λ b. b == c.args.closing)) (take_rest c.args.start.now 1))
