-- Trees that are the same but for the numbers of their lines have one text, and a text is that of no others.
use Rattle.std.proofs.Common.{◌≡◌, ℕ, ◌+◌, ◌∷◌, ◌++◌, refl, ap, ap₂, sym, subst, ◌∙◌}
use Rattle.stim_lexer.proofs.TreeLemmas.{no_text_writes_two_trees}
use Rattle.stim_parser.specs.Circuits.{IsCircuit}
use Rattle.stim_parser.specs.Texts.{circuits}
use Rattle.stim_parser.specs.Trees.{Tree}
use Rattle.stim_lexer.specs.Trees.{Nothing, Then, Block}
use Rattle.stim_parser.specs.Judged.{Writes}
use Rattle.stim_parser.specs.Written.{AreAlike, at_line, circuit_text, instruction_text, line_count, opening_text, with_lines, with_lines_after}
use Rattle.stim_parser.proofs.CircuitTexts.{circuit_is_written}

-- ---- the numbers of lines that a text has

alike_after : (before : ℕ) (t : Tree) → AreAlike t (with_lines_after before t)
unfolding with_lines_after
alike_after before Nothing = tt
alike_after before (Then i t) = (refl, alike_after (before + 1) t)
alike_after before (Block line turns body t) = (refl, alike_after (before + 1) body, alike_after (before + 2 + line_count body) t)

pub with_lines_is_alike : (t : Tree) → AreAlike t (with_lines t)
with_lines_is_alike t = alike_after 0 t

-- ---- any numbers

alike_back : (t u : Tree) → AreAlike t u → AreAlike u t
alike_back Nothing Nothing h = tt
alike_back Nothing (Then j u) h = absurd h
alike_back Nothing (Block line turns body u) h = absurd h
alike_back (Then i t) Nothing h = absurd h
alike_back (Then i t) (Then j u) h = (ap (at_line i.line) (sym h.0), alike_back t u h.1)
alike_back (Then i t) (Block line turns body u) h = absurd h
alike_back (Block line turns body t) Nothing h = absurd h
alike_back (Block line turns body t) (Then j u) h = absurd h
alike_back (Block line turns body t) (Block line' turns' body' u) h = (sym h.0, alike_back body body' h.1, alike_back t u h.2)

alike_on : (t u v : Tree) → AreAlike t u → AreAlike u v → AreAlike t v
alike_on Nothing Nothing v h k = k
alike_on Nothing (Then j u) v h k = absurd h
alike_on Nothing (Block line turns body u) v h k = absurd h
alike_on (Then i t) Nothing v h k = absurd h
alike_on (Then i t) (Then j u) Nothing h k = absurd k
alike_on (Then i t) (Then j u) (Then l v) h k = (ap (at_line l.line) h.0 ∙ k.0, alike_on t u v h.1 k.1)
alike_on (Then i t) (Then j u) (Block line turns body v) h k = absurd k
alike_on (Then i t) (Block line turns body u) v h k = absurd h
alike_on (Block line turns body t) Nothing v h k = absurd h
alike_on (Block line turns body t) (Then j u) v h k = absurd h
alike_on (Block line turns body t) (Block line' turns' body' u) Nothing h k = absurd k
alike_on (Block line turns body t) (Block line' turns' body' u) (Then l v) h k = absurd k
alike_on (Block line turns body t) (Block line' turns' body' u) (Block line'' turns'' body'' v) h k =
    (h.0 ∙ k.0, alike_on body body' body'' h.1 k.1, alike_on t u v h.2 k.2)

-- ---- their text

pub one_text : (t u : Tree) → AreAlike t u → circuit_text t ≡ circuit_text u
unfolding circuit_text
one_text Nothing Nothing h = refl
one_text Nothing (Then j u) h = absurd h
one_text Nothing (Block line turns body u) h = absurd h
one_text (Then i t) Nothing h = absurd h
one_text (Then i t) (Then j u) h = ap₂ (λ line text. line ++ 10 ∷ text) (ap instruction_text h.0) (one_text t u h.1)
one_text (Then i t) (Block line turns body u) h = absurd h
one_text (Block line turns body t) Nothing h = absurd h
one_text (Block line turns body t) (Then j u) h = absurd h
one_text (Block line turns body t) (Block line' turns' body' u) h =
    ap₂ (λ line text. line ++ 10 ∷ text) (ap opening_text h.0)
    (ap₂ (λ inside behind. inside ++ 125 ∷ 10 ∷ behind) (one_text body body' h.1) (one_text t u h.2))

pub text_tells : (t u : Tree) → IsCircuit t → IsCircuit u → circuit_text t ≡ circuit_text u → AreAlike t u
text_tells t u fits fit same =
    let read : Writes (circuit_text t) (with_lines u) = subst (λ text. Writes text (with_lines u)) (sym same) (circuit_is_written u fit) in
    let one : with_lines t ≡ with_lines u = no_text_writes_two_trees circuits (circuit_text t) (with_lines t) (with_lines u) (circuit_is_written t fits) read in
    alike_on t (with_lines t) u (with_lines_is_alike t) (subst (λ v. AreAlike v u) (sym one) (alike_back u (with_lines u) (with_lines_is_alike u)))
