-- What says which words a reference run's collapses replaced. (This project's own.)
use Rattle.forward_sim.specs.declared.words.ReplacedWords.{ReplacedWords}
use Rattle.forward_sim.specs.declared.words.ReplacedWords.TheVariants as words
use Rattle.forward_sim.specs.References.{Words, Kept, Walked}

-- the words, whatever says them
abbrev pub words_of : {A : Type 0} → ReplacedWords A → Words
words_of (words.Kept kept) = Kept kept.replaced
words_of (words.Walked walk) = Walked walk
