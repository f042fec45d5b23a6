-- Lines of a text that are read one after another, or with the block that they open: what there was of those before them, there
-- is of all.
use Rattle.std.proofs.Common.{◌≡◌, ℕ, ◌+◌, ◌<◌, ◌≤◌, ◌^◌, true, false, List, [], ◌∷◌, ◌++◌, length, None, refl, ap, ap₂, subst, sym, ◌∙◌, append_assoc, length-append, inl, inr, arith}
use Rattle.std.proofs.lemmas.Bool.{cases_lt}
use Rattle.step_model.specs.declared.fault.Cause.{Cause}
use Rattle.stim_lexer.specs.FirstLines.{IsFirstLine}
use Rattle.stim_lexer.specs.Lines.{lines_of, says_nothing}
use Rattle.stim_lexer.specs.Reached.{copies, reached}
use Rattle.stim_lexer.specs.Texts.{Reading, Accepts, Opens, Refuses, items_from, line_reading, refused}
use Rattle.stim_lexer.specs.Trees.{InstructionLine, BlockStart, BlockEnd, Nothing, Then, Block, items_of}
use Rattle.stim_lexer.specs.Unfinished.{Unfinished, after_line as after_reading, cause_in}
use Rattle.stim_lexer.proofs.TextLemmas.{after, after-append}
use Rattle.dem_text.specs.declared.fold.Fold.{Fold}
use Rattle.dem_text.specs.declared.front.Front.{Front}
use Rattle.dem_text.specs.declared.front.Passed.{Passed}
use Rattle.dem_text.specs.declared.front.Passed.TheVariants as passed
use Rattle.dem_text.specs.Reached.{block_lines, most_lines}
use Rattle.dem_text.specs.Texts.{Item, models}
use Rattle.dem_text.specs.Trees.{Tree}
use Rattle.dem_text.specs.Verdicts.{Instruction}
use Rattle.dem_text.specs.private.Folds.{Folded, Follows, IsSound, fold_after, fold_over, fold_start}
use Rattle.dem_text.specs.private.Keeping.{KeepsLine}
use Rattle.dem_text.specs.private.Lines.{IsReading}
use Rattle.dem_text.specs.private.Making.{AreRefused, HasFolded, HasKept, HasPassed, HasRead, HasRoomFor, IsBehind, IsMaking, IsReady, PassesFirst}
use Rattle.dem_text.specs.private.Unrolled.{few_of}
use Rattle.dem_text.proofs.FoldLemmas.{fold-both}
use Rattle.dem_text.proofs.MakingLemmas.{behind-both, behind-line, behind-none, making-line, making-none, refused-here}
use Rattle.dem_text.proofs.UnrolledLemmas.{few-reached}

-- ---- a tree behind a tree

abbrev pub joined : Tree → Tree → Tree
joined Nothing u = u
joined (Then i rest) u = Then i (joined rest u)
joined (Block line turns body rest) u = Block line turns body (joined rest u)

items-joined : (t u : Tree) → items_of (joined t u) ≡ items_of t ++ items_of u
items-joined Nothing u = refl
items-joined (Then i rest) u = ap (λ (is : List Item). InstructionLine i ∷ is) (items-joined rest u)
items-joined (Block line turns body rest) u =
    ap (λ (is : List Item). BlockStart line turns ∷ (items_of body ++ BlockEnd ∷ is)) (items-joined rest u)
    ∙ ap (λ (is : List Item). BlockStart line turns ∷ is) (sym (append_assoc (items_of body) (BlockEnd ∷ items_of rest) (items_of u)))

reached-joined : (t u : Tree) → reached (joined t u) ≡ reached t ++ reached u
reached-joined Nothing u = refl
reached-joined (Then i rest) u = ap (λ (is : List Instruction). i ∷ is) (reached-joined rest u)
reached-joined (Block line turns body rest) u =
    ap (λ (is : List Instruction). copies turns (reached body) ++ is) (reached-joined rest u)
    ∙ sym (append_assoc (copies turns (reached body)) (reached rest) (reached u))

lines-joined : (t u : Tree) → block_lines (joined t u) ≡ block_lines t + block_lines u
unfolding block_lines
lines-joined Nothing u = omega arith
lines-joined (Then i rest) u = lines-joined rest u
lines-joined (Block line turns body rest) u = let r = lines-joined rest u in omega (arith, r)

making-both : (before lines : List (List ℕ)) (t u : Tree) (read : ℕ) → read ≡ length before → IsMaking 0 before (record { items = items_of t; opened = [] }) → IsMaking read lines (record { items = items_of u; opened = [] })
    → IsMaking 0 (before ++ lines) (record { items = items_of (joined t u); opened = [] })
making-both before lines t u read e h k =
    let few = h.few in
    let fewer = k.few in
    let here : 0 + length before ≡ read = omega (arith, e) in
    let there : read + length lines ≡ 0 + length (before ++ lines) = omega (arith, e, length-append before lines) in
    subst (λ (is : List Item). IsMaking 0 (before ++ lines) (record { items = is; opened = [] })) (sym (items-joined t u))
    (record {
      makes = λ more.
          ap (items_from models [] 0) (append_assoc before lines more)
          ∙ h.makes (lines ++ more)
          ∙ ap (after (items_of t)) (ap (λ n. items_from models [] n (lines ++ more)) here ∙ k.makes more ∙ ap (λ n. after (items_of u) (items_from models [] n more)) there)
          ∙ sym (after-append (items_of t) (items_of u) (items_from models [] (0 + length (before ++ lines)) more));
      few = omega (arith, few, fewer, length-append before lines, length-append (items_of t) (items_of u));
    })

-- ---- what is read

-- some lines that make a tree
pub passed-unit : {A : Type 0} (old new : Front A) (text rest : List ℕ) (lines : List (List ℕ)) (u : Tree) → IsBehind text rest lines → IsMaking old.read lines (record { items = items_of u; opened = [] })
    → new.read ≡ old.read + length lines → new.unrolled ≡ few_of (old.unrolled + block_lines u) → HasFolded (reached u) old new → IsReady old → HasPassed text rest old new
passed-unit {A} old new text rest lines u behind making read unrolled folded ready =
    record {
      lines = lines;
      behind = behind;
      read_is = read;
      read = λ named places before tree h. (
        joined tree u,
        record {
          making = making-both before lines tree u old.read h.read_is h.making making;
          read_is = let n = h.read_is in omega (arith, n, read, length-append before lines);
          unrolled_is = let n = h.unrolled_is in omega (arith, n, unrolled, lines-joined tree u);
          follows = λ few.
              let n = h.unrolled_is in
              let all = lines-joined tree u in
              subst (λ (f : Folded). Follows named f new.fold)
              (sym (ap (fold_over named (fold_start places)) (reached-joined tree u) ∙ fold-both named (fold_start places) (reached tree) (reached u)))
              (folded.follows (omega (arith, n, unrolled, all, few)) named (fold_over named (fold_start places) (reached tree)) (h.follows (omega (arith, all, few))));
        },
      );
      ready = record {
        sound = folded.sound;
        few =
            let old_few = ready.few in
            let old_capped = ready.capped in
            let items = making.few in
            let lines_reached = few-reached u in
            elim (cases_lt most_lines new.unrolled) as (λ _. new.fold.standing.passed ≤ new.read + new.unrolled) [
              | inl many ↦ let still = folded.still many in omega (arith, still, old_few, old_capped, read, many)
              | inr few ↦
                  let more = folded.few few in omega (arith, more, old_few, read, unrolled, few, items, lines_reached)
            ];
        capped = omega (arith, unrolled);
      };
    }

-- nothing was read
pub passed-none : {A : Type 0} (old new : Front A) (text : List ℕ) → new.read ≡ old.read → new.unrolled ≡ old.unrolled → new.fold ≡ old.fold → IsReady old → HasPassed text text old new
unfolding block_lines
passed-none {A} old new text read unrolled fold ready =
    passed-unit old new text text [] Nothing (behind-none text) (making-none old.read) (omega (arith, read)) (capped unrolled) (still fold) ready
  where
    capped : new.unrolled ≡ old.unrolled → new.unrolled ≡ few_of (old.unrolled + block_lines Nothing)
    capped e = let few = ready.capped in omega (arith, e, few)

    still : new.fold ≡ old.fold → HasFolded [] old new
    still e =
        record {
          follows = λ few named f h. subst (λ (x : Fold A). Follows named f x) (sym e) h;
          sound = subst (λ (x : Fold A). IsSound x.standing) (sym e) ready.sound;
          few = λ few. omega (arith, ap (λ (x : Fold A). x.standing.passed) e);
          still = λ many. omega (arith, ap (λ (x : Fold A). x.standing.passed) e);
        }

-- what was read from a front that differs in its room for targets alone
module _ {A : Type 0} (old mid new : Front A) (read : mid.read ≡ old.read) (unrolled : mid.unrolled ≡ old.unrolled) (fold : mid.fold ≡ old.fold) where
  pub passed-from : (text rest : List ℕ) → HasPassed text rest mid new → HasPassed text rest old new
  passed-from text rest p =
      record {
        lines = p.lines;
        behind = p.behind;
        read_is = p.read_is ∙ ap (λ n. n + length p.lines) read;
        read = λ named places before tree h.
            p.read named places before tree
            (record {
              making = h.making;
              read_is = read ∙ h.read_is;
              unrolled_is = unrolled ∙ h.unrolled_is;
              follows = λ few. subst (λ (x : Fold A). Follows named (fold_over named (fold_start places) (reached tree)) x) (sym fold) (h.follows few);
            });
        ready = p.ready;
      }

  pub passes-from : (text : List ℕ) (passed : Passed) → PassesFirst text passed mid new → PassesFirst text passed old new
  passes-from text (passed.Behind rest) p = (passed-from text rest.now p.0, p.1)
  passes-from text (passed.Ended ended) p = (passed-from text text p.0, p.1)

-- lines that were read one after another
pub passed-both : {A : Type 0} (old mid new : Front A) (text middle rest : List ℕ) → HasPassed text middle old mid → HasPassed middle rest mid new → HasPassed text rest old new
passed-both old mid new text middle rest p q =
    record {
      lines = p.lines ++ q.lines;
      behind = behind-both text middle rest p.lines q.lines p.behind q.behind;
      read_is = let first = p.read_is in let more = q.read_is in omega (arith, first, more, length-append p.lines q.lines);
      read = λ named places before tree h.
          let first = p.read named places before tree h in
          let more = q.read named places (before ++ p.lines) first.0 first.1 in
          (more.0, subst (λ ls. HasRead named places ls more.0 new) (append_assoc before p.lines q.lines) more.1);
      ready = q.ready;
    }

-- there is room for the lines of what is left
pub room-left : {A : Type 0} (old new : Front A) (text rest : List ℕ) → HasPassed text rest old new → HasRoomFor old.read (length text) → HasRoomFor new.read (length rest)
room-left old new text rest p room =
    let few = p.behind.few in
    let read = p.read_is in
    omega (arith, room, few, read, ap length p.behind.text_is, length-append p.behind.front rest)

-- the error lines of what was read can be counted
pub errors-few : {A : Type 0} (old new : Front A) (text rest : List ℕ) → HasPassed text rest old new → HasRoomFor old.read (length text) → new.fold.standing.counts.errors < 2 ^ 64
errors-few old new text rest p room =
    let left = room-left old new text rest p room in
    let few = p.ready.few in
    let capped = p.ready.capped in
    let errors = p.ready.sound.errors in
    omega (arith, left, few, capped, errors)

-- ---- the first line

module _ {A : Type 0} (old new : Front A) (text line after_line : List ℕ) (first : IsFirstLine text line after_line) (read : new.read ≡ old.read + 1) (unrolled : new.unrolled ≡ old.unrolled) (ready : IsReady old) where
  behind : IsBehind text after_line (line ∷ [])
  behind = behind-line text text line after_line [] (behind-none text) first

  alone : (u : Unfinished Instruction) → KeepsLine (old.read + 1) line None (record { items = []; opened = [] }) u → IsMaking old.read (line ∷ []) u
  alone u k = making-line old.read [] (record { items = []; opened = [] }) (making-none old.read) line (old.read + 1) (omega arith) u k

  no_lines : new.unrolled ≡ few_of (old.unrolled + 0)
  no_lines = let few = ready.capped in omega (arith, unrolled, few)

  -- it says nothing
  pub passed-silent : says_nothing line ≡ true → new.fold ≡ old.fold → HasPassed text after_line old new
  unfolding block_lines
  passed-silent silent fold =
      passed-unit old new text after_line (line ∷ []) Nothing behind (alone (record { items = []; opened = [] }) (inl (silent, refl, refl))) (omega (arith, read)) no_lines
      (record {
        follows = λ few named f h. subst (λ (x : Fold A). Follows named f x) (sym fold) h;
        sound = subst (λ (x : Fold A). IsSound x.standing) (sym fold) ready.sound;
        few = λ few. omega (arith, ap (λ (x : Fold A). x.standing.passed) fold);
        still = λ many. omega (arith, ap (λ (x : Fold A). x.standing.passed) fold);
      })
      ready

  -- it is an instruction
  pub passed-instruction : (i : Instruction) → says_nothing line ≡ false → IsReading 0 (old.read + 1) line (Accepts i) → HasFolded (i ∷ []) old new → HasPassed text after_line old new
  unfolding block_lines
  passed-instruction i speaks reading folded =
      let is : Accepts i ≡ line_reading models [] (old.read + 1) line = reading [] refl in
      passed-unit old new text after_line (line ∷ []) (Then i Nothing) behind
      (alone (record { items = InstructionLine i ∷ []; opened = [] }) (inr (record { speaks = speaks; refused_is = ap cause_in is; after_is = ap (λ (r : Reading Instruction). after_reading (old.read + 1) r (record { items = []; opened = [] })) is })))
      (omega (arith, read)) no_lines folded ready

-- a line of a text that is refused
pub refused-first : (read : ℕ) (text line later : List ℕ) (c : Cause) → IsFirstLine text line later → says_nothing line ≡ false → IsReading 0 (read + 1) line (Refuses c) → AreRefused read (lines_of text) (refused c (read + 1))
refused-first read text line later c first speaks reading = λ more.
    let is : Refuses c ≡ line_reading models [] (read + 1) line = reading [] refl in
    ap (λ ls. items_from models [] read (ls ++ more)) first.lines
    ∙ refused-here read [] (record { items = []; opened = [] }) (making-none read) line (read + 1) (omega arith) c _
    (inr (record { speaks = speaks; refused_is = ap cause_in is; after_is = refl })) (lines_of later ++ more)

-- the fold is what counts
pub folded-same : {A : Type 0} (is : List Instruction) (old mid new : Front A) → HasFolded is old mid → new.unrolled ≡ mid.unrolled → new.fold ≡ mid.fold → HasFolded is old new
folded-same {A} is old mid new h unrolled fold =
    record {
      follows = λ few named f k. subst (λ (x : Fold A). Follows named (fold_over named f is) x) (sym fold) (h.follows (omega (arith, unrolled, few)) named f k);
      sound = subst (λ (x : Fold A). IsSound x.standing) (sym fold) h.sound;
      few = λ few. let more = h.few (omega (arith, unrolled, few)) in omega (arith, more, ap (λ (x : Fold A). x.standing.passed) fold);
      still = λ many. let more = h.still (omega (arith, unrolled, many)) in omega (arith, more, ap (λ (x : Fold A). x.standing.passed) fold);
    }

-- a fold that was taken past one instruction
pub folded-one : {A : Type 0} (i : Instruction) (old new : Front A) → new.unrolled ≤ most_lines → ((named : List ℕ) (f : Folded) → Follows named f old.fold → Follows named (fold_after named f i) new.fold) → IsSound new.fold.standing
    → new.fold.standing.passed ≤ old.fold.standing.passed + 1 → HasFolded (i ∷ []) old new
folded-one i old new few follows sound passed =
    record { follows = λ _. follows; sound = sound; few = λ _. omega (arith, passed); still = λ many. absurd (omega (arith, few, many)) }

-- ---- a block

pub opened-making : (read iterations : ℕ) (line : List ℕ) (u u' : Unfinished Instruction) → says_nothing line ≡ false → IsReading 0 (read + 1) line (Opens iterations) → u ≡ record { items = []; opened = [] }
    → u' ≡ after_reading (read + 1) (Opens iterations) u → IsMaking read (line ∷ []) u'
opened-making read iterations line u u' speaks reading none after_is =
    let is : Opens iterations ≡ line_reading models [] (read + 1) line = reading [] refl in
    making-line read [] (record { items = []; opened = [] }) (making-none read) line (read + 1) (omega arith) u'
    (inr (record {
      speaks = speaks;
      refused_is = ap cause_in is;
      after_is = after_is ∙ ap₂ (λ (r : Reading Instruction) (x : Unfinished Instruction). after_reading (read + 1) r x) is none;
    }))

-- what was kept behind its first line
pub kept-first : (text line later rest : List ℕ) (read read' : ℕ) (items : List Item) → IsFirstLine text line later → HasKept read (line ∷ []) later (read + 1) items rest read' → HasKept read [] text read items rest read'
kept-first text line later rest read read' items first h =
    let n = h.read_is in
    record {
      lines = line ∷ h.lines;
      behind = behind-both text later rest (line ∷ []) h.lines (behind-line text text line later [] (behind-none text) first) h.behind;
      read_is = omega (arith, n);
      making = h.making;
    }

pub kept-less : (text line later rest : List ℕ) (read read' : ℕ) (items : List Item) → IsFirstLine text line later → HasKept read (line ∷ []) later (read + 1) items rest read' → length rest < length text
kept-less text line later rest read read' items first h =
    let less = first.less in omega (arith, less, ap length h.behind.text_is, length-append h.behind.front rest)

pub kept-few : (text rest : List ℕ) (read read' : ℕ) (items : List Item) → HasKept read [] text read items rest read' → length items ≤ length text
kept-few text rest read read' items h =
    let few = h.making.few in
    let lines = h.behind.few in
    omega (arith, few, lines, ap length h.behind.text_is, length-append h.behind.front rest)
