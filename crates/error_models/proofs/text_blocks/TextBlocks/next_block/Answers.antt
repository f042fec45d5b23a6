use Rattle.std.proofs.Common.{ℕ, List, ◌++◌, length, min, ap, ap₂, sym, ◌∙◌}
use Rattle.error_models.specs.HeldText.{Filled, texts_of}
use Rattle.error_models.proofs.text_blocks.TextBlocks.next_block.Goals as goal

pub keep_full-requires-clause-counted : goal.keep_full-requires-clause-counted
keep_full-requires-clause-counted g c =
    c.self.invariant ∙ ap (λ blocks. min (length (texts_of blocks)) 18446744073709551615) (sym c.reserve.ensures.items)

pub returns-clause-same : goal.returns-clause-same
returns-clause-same g c =
    ap₂ (λ (b : Filled) (t : List ℕ). b.text ++ t) c.replace-before.ensures.after c.keep_full.ensures.texts
    ∙ ap₂ (λ (t : List ℕ) (l : List ℕ). t ++ l) c.in_ok-next.ensures.empty
    (ap₂ (λ (b : Filled) (bs : List Filled). b.text ++ texts_of bs) c.replace-before.ensures.value c.reserve.ensures.items)
    ∙ ap (λ l. c.args.block.now.text ++ l) c.self.view_is
