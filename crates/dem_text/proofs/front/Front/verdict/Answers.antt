use Rattle.dem_text.proofs.VerdictLemmas.{line-refused, many-refused, model-read, number-refused}
use Rattle.dem_text.proofs.front.Front.verdict.Goals as goal

pub returns-in-Open : goal.returns-in-Open
returns-in-Open g c named places text tree at = line-refused c.args.self.now named places text tree c.args.ended at c.in-Open.fault c.in-Open.is

pub returns-in-Open-2 : goal.returns-in-Open-2
returns-in-Open-2 g c named places text tree at = line-refused c.args.self.now named places text tree c.args.ended at c.in-Open.fault c.in-Open.is

pub returns-then-self-gt-MOST_LINES : goal.returns-then-self-gt-MOST_LINES
returns-then-self-gt-MOST_LINES g c named places text tree at =
    many-refused c.args.self.now named places text tree c.args.ended at c.in-Text.is c.if-self-gt-MOST_LINES.true

pub returns-in-Some : goal.returns-in-Some
returns-in-Some g c named places text tree at =
    number-refused c.args.self.now named places text tree c.args.ended at c.in-Text.is c.if-self-gt-MOST_LINES.false c.in-Some.line c.in-Some.is

pub returns-in-None : goal.returns-in-None
returns-in-None g c named places text tree at =
    model-read c.args.self.now named places text tree c.args.ended at c.in-Text.is c.if-self-gt-MOST_LINES.false c.in-None.is c.requires.few
