-- Targets of a text that are read one after another, the numbers among them from what stands in front.
use Rattle.std.proofs.Common.{◌≡◌, ℕ, List, [], ◌∷◌, ◌++◌, Some, refl, ap, sym, ◌∙◌}
use Rattle.stim_lexer.specs.Bytes.{after_blanks}
use Rattle.stim_parser.specs.declared.target.Target.{Target}
use Rattle.stim_parser.specs.declared.target.Target.TheVariants.{Plain}
use Rattle.stim_parser.specs.Pieces.{pieces_of}
use Rattle.stim_parser.specs.Targets.{each_of, target_of, targets_in}
use Rattle.stim_parser.specs.private.FrontNumbers.{BeginsWithNumber, with_front}
use Rattle.stim_parser.proofs.PieceLemmas.{pieces_of-after_blanks}
use Rattle.stim_parser.proofs.PieceValueLemmas.{with_front-done, with_front-more, with_front-none}

pub read-first : (text left : List ℕ) (targets : List Target) → targets ≡ [] → left ≡ after_blanks text
    → with_front targets (each_of target_of (pieces_of left)) ≡ each_of target_of (pieces_of text)
read-first text left targets none l =
    rw (none, l) (with_front-none (each_of target_of (pieces_of (after_blanks text))) ∙ ap (each_of target_of) (sym (pieces_of-after_blanks text)))

plain : (piece : List ℕ) (number : ℕ) (text after : List ℕ) (b : BeginsWithNumber text number after) → Some (Plain number) ≡ target_of b.piece
unfolding target_of
plain piece number text after b = rw (← b.writes) refl

pub read-next : (text after left : List ℕ) (number : ℕ) (before targets : List Target) → targets ≡ before ++ Plain number ∷ [] → BeginsWithNumber text number after → left ≡ after_blanks after
    → with_front targets (each_of target_of (pieces_of left)) ≡ with_front before (each_of target_of (pieces_of text))
read-next text after left number before targets more b l =
    rw (more, l)
    (ap (λ pieces. with_front (before ++ Plain number ∷ []) (each_of target_of pieces)) (sym (pieces_of-after_blanks after))
    ∙ sym (with_front-more target_of before (pieces_of after) (pieces_of text) b.piece (Plain number) b.pieces (plain b.piece number text after b)))

none_left : (text : List ℕ) → text ≡ [] → pieces_of text ≡ []
unfolding pieces_of
none_left text e = rw e refl

pub read-last : (text left : List ℕ) (targets : List Target) → left ≡ [] → with_front targets (each_of target_of (pieces_of left)) ≡ each_of target_of (pieces_of text) → targets_in text ≡ Some targets
unfolding targets_in
read-last text left targets none read = sym read ∙ with_front-done target_of targets (pieces_of left) (none_left left none)
