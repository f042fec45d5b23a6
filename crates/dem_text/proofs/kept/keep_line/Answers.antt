use Rattle.std.proofs.Common.{◌≡◌, ℕ, List, length, refl, ap, sym, ◌∙◌, inl, inr}
use Rattle.stim_lexer.specs.Said.{reading_in}
use Rattle.stim_lexer.specs.Texts.{Reading, line_reading}
use Rattle.stim_lexer.specs.Unfinished.{after_line, cause_in}
use Rattle.dem_text.specs.declared.target.Target.{Target}
use Rattle.dem_text.specs.Texts.{models}
use Rattle.dem_text.specs.Verdicts.{Instruction}
use Rattle.dem_text.specs.private.Lines.{IsReading}
use Rattle.dem_text.proofs.KeepingLemmas.{reading-fits}
use Rattle.dem_text.proofs.kept.keep_line.Goals as goal

-- what was read is what the line says
said : (line : List ℕ) (number depth : ℕ) (opened : List ℕ) (reading reading' : Reading Instruction) → IsReading depth number line reading → depth ≡ length opened → reading' ≡ reading → IsReading (length opened) number line reading'
said line number depth opened reading reading' h d e = λ other same. e ∙ h other (same ∙ sym d)

pub take-requires-clause-fits : goal.take-requires-clause-fits
take-requires-clause-fits g c =
    let opened = c.args.keeping.now.builder.text.opened in
    let first = c.in_ok-said.ensures in
    let found = rw c.in-Some.is at first.says in
    reading-fits opened c.args.number first.line (reading_in c.args.number c.in-Some.said c.as_slice.result.now)
    (said first.line c.args.number c.depth-depth.result opened _ _ found.1 c.depth-depth.ensures (ap (λ (ts : List Target). reading_in c.args.number c.in-Some.said ts) c.as_slice.ensures.value))

pub returns-in_ok-refused-in-Some-clause-line : goal.returns-in_ok-refused-in-Some-clause-line
returns-in_ok-refused-in-Some-clause-line g c =
    let u = c.args.keeping.now.builder.text in
    let first = c.in_ok-said.ensures in
    let found = rw c.in-Some.is at first.says in
    let reading = reading_in c.args.number c.in-Some.said c.as_slice.result.now in
    let is : reading ≡ line_reading models u.opened c.args.number first.line =
    ap (λ (ts : List Target). reading_in c.args.number c.in-Some.said ts) c.as_slice.ensures.value ∙ found.1 u.opened (sym c.depth-depth.ensures) in
    record {
      line = first.line;
      first = first.first;
      keeps =
          inr (record {
            speaks = found.0;
            refused_is = c.in_ok-refused-in-Some.ensures.refused ∙ ap cause_in is;
            after_is = c.in_ok-refused-in-Some.ensures.after ∙ ap (λ (r : Reading Instruction). after_line c.args.number r u) is;
          });
    }

pub returns-in-None : goal.returns-in-None
returns-in-None g c =
    let first = c.in_ok-said.ensures in
    record {
      kept = c.requires.kept;
      line = record { line = first.line; first = first.first; keeps = inl (rw c.in-None.is at first.says, refl, refl) };
    }
