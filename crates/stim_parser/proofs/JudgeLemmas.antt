-- The questions of a line in their order: where those before don't apply, the next is asked.
use Rattle.std.proofs.Common.{◌≡◌, ◌≢◌, ℕ, Bool, true, false, not, ◌||◌, ◌<◌, List, [], ◌∷◌, ◌++◌, cond, find, length, Option, None, Some, refl, ap, ap₂, subst, sym, ◌∙◌, arith}
use Rattle.std.specs.Prelude.{option_map}
use Rattle.std.specs.List.{list_all}
use Rattle.std.specs.Option.{option_or}
use Rattle.std.proofs.lemmas.Bool.{false≢true, lt-ltb, ne_eqb, or_right}
use Rattle.step_model.specs.declared.fault.Cause.{Cause}
use Rattle.stim_lexer.specs.declared.line.Braces.{Braces}
use Rattle.stim_lexer.specs.declared.line.Braces.TheVariants.{ClosingAlone}
use Rattle.stim_lexer.specs.Cut.{Cut}
use Rattle.stim_lexer.specs.Texts.{Refuses}
use Rattle.stim_parser.specs.declared.forms.ArgumentForm.{ArgumentForm}
use Rattle.stim_parser.specs.declared.forms.ArgumentForm.TheVariants.{NoArguments, ProbabilityAtWill, OneProbability, WholeNumbers, Decimals, OneNumber}
use Rattle.stim_parser.specs.declared.table.Causes.{Causes}
use Rattle.stim_parser.specs.declared.table.Keyword.{Keyword}
use Rattle.stim_parser.specs.Arguments.{arguments_in}
use Rattle.stim_parser.specs.Judging.{Table, accepted, first_of, judged, misplaces_brace, opens_block, reading_of, refusal_of, refusals_of_name, said_by, unless_refused}
use Rattle.stim_parser.specs.private.Questions.{refusals_of_arguments, refusals_of_block, refusals_of_keyword, refusals_of_read}
use Rattle.stim_parser.specs.Limits.{has_argument_beyond, has_wrong_arguments, has_wrong_probability, is_argument, is_wrong_count, takes_probability}
use Rattle.stim_parser.specs.Probabilities.{AreProbabilities}
use Rattle.stim_parser.specs.private.Right.{AreRight}

-- ---- one question

pub applies : (b : Bool) (c : Cause) (rest : List (Bool × Cause)) → b ≡ true → first_of ((b, c) ∷ rest) ≡ Some c
applies b c rest e = rw e refl

pub passes : (b : Bool) (c : Cause) (rest : List (Bool × Cause)) → b ≡ false → first_of ((b, c) ∷ rest) ≡ first_of rest
passes b c rest e = rw e refl

pub first_of-append : (xs ys : List (Bool × Cause)) → first_of (xs ++ ys) ≡ option_or (first_of xs) (first_of ys)
first_of-append [] ys = refl
first_of-append (x ∷ xs) ys =
    elim (x.0)
    as (λ b. option_map (λ (q : Bool × Cause). q.1) (cond b (Some x) (find (λ q. q.0) (xs ++ ys)))
    ≡ option_or (option_map (λ (q : Bool × Cause). q.1) (cond b (Some x) (find (λ q. q.0) xs))) (first_of ys))
    [ true ↦ refl | false ↦ first_of-append xs ys ]

-- ---- the keyword

pub refusal-brace : {O T F : Type 0} (table : Table O T F) (depth : ℕ) (cut : Cut) → misplaces_brace (table.keyword_named cut.name) cut.braces ≡ true
    → refusal_of table depth cut ≡ Some table.causes.block
unfolding refusal_of
refusal-brace table depth cut e =
    applies _ table.causes.block (refusals_of_name table depth (table.keyword_named cut.name) cut) e

refusal-placed : {O T F : Type 0} (table : Table O T F) (depth : ℕ) (cut : Cut) (named : Option (Keyword O)) → table.keyword_named cut.name ≡ named → misplaces_brace named cut.braces ≡ false
    → refusal_of table depth cut ≡ first_of (refusals_of_name table depth named cut)
unfolding refusal_of
refusal-placed {O} table depth cut named n e =
    ap (λ (k : Option (Keyword O)). first_of ((misplaces_brace k cut.braces, table.causes.block) ∷ refusals_of_name table depth k cut)) n
    ∙ passes _ table.causes.block (refusals_of_name table depth named cut) e

pub refusal-name : {O T F : Type 0} (table : Table O T F) (depth : ℕ) (cut : Cut) → table.keyword_named cut.name ≡ None → misplaces_brace {O = O} None cut.braces ≡ false
    → refusal_of table depth cut ≡ Some (table.refusal_of_name cut.name)
refusal-name table depth cut n e = refusal-placed table depth cut None n e

refusal-keyword : {O T F : Type 0} (table : Table O T F) (depth : ℕ) (cut : Cut) (keyword : Keyword O) → table.keyword_named cut.name ≡ Some keyword → misplaces_brace (Some keyword) cut.braces ≡ false
    → refusal_of table depth cut ≡ first_of (refusals_of_keyword table depth keyword cut)
refusal-keyword table depth cut keyword n e = refusal-placed table depth cut (Some keyword) n e

-- ---- more arguments than any form takes

count-beyond : (form : ArgumentForm) (n : ℕ) → 16 < n → is_wrong_count form n ≡ true
count-beyond NoArguments n h = ap not (ne_eqb n 0 (λ e. absurd (omega arith)))
count-beyond ProbabilityAtWill n h = lt-ltb 1 n (omega arith)
count-beyond OneProbability n h = ap not (ne_eqb n 1 (λ e. absurd (omega arith)))
count-beyond WholeNumbers n h = lt-ltb 16 n h
count-beyond Decimals n h = lt-ltb 16 n h
count-beyond OneNumber n h = ap not (ne_eqb n 1 (λ e. absurd (omega arith)))

pub too_many : (causes : Causes) (form : ArgumentForm) (cut : Cut) → 16 < length (arguments_in cut.arguments) → first_of (refusals_of_arguments causes form cut) ≡ Some causes.arguments
unfolding has_wrong_arguments
too_many causes form cut h =
    let arguments = arguments_in cut.arguments in
    let wrong : has_wrong_arguments form arguments ≡ true = ap (λ b. b || not (list_all (is_argument form) arguments)) (count-beyond form (length arguments) h) in
    applies (cut.stays_open || has_wrong_arguments form arguments) causes.arguments ((has_wrong_probability form arguments, causes.probability) ∷ [])
    (or_right cut.stays_open (has_wrong_arguments form arguments) wrong)

-- ---- arguments that are right

pub right_arguments : (causes : Causes) (form : ArgumentForm) (cut : Cut) → cut.stays_open ≡ false → has_wrong_arguments form (arguments_in cut.arguments) ≡ false
    → has_wrong_probability form (arguments_in cut.arguments) ≡ false → first_of (refusals_of_arguments causes form cut) ≡ None
right_arguments causes form cut closed right probable =
    let arguments = arguments_in cut.arguments in
    passes (cut.stays_open || has_wrong_arguments form arguments) causes.arguments ((has_wrong_probability form arguments, causes.probability) ∷ []) (ap₂ (λ a b. a || b) closed right)
    ∙ passes (has_wrong_probability form arguments) causes.probability [] probable

never_beyond : (greatest : ℕ) (form : ArgumentForm) (arguments : List (List ℕ)) → takes_probability form ≡ true → has_argument_beyond greatest form arguments ≡ false
never_beyond greatest ProbabilityAtWill arguments e = refl
never_beyond greatest OneProbability arguments e = refl
never_beyond greatest NoArguments arguments e = absurd (false≢true e)
never_beyond greatest WholeNumbers arguments e = absurd (false≢true e)
never_beyond greatest Decimals arguments e = absurd (false≢true e)
never_beyond greatest OneNumber arguments e = absurd (false≢true e)

pub right_probabilities : (causes : Causes) (greatest : ℕ) (form : ArgumentForm) (cut : Cut) → cut.stays_open ≡ false → AreProbabilities form (arguments_in cut.arguments)
    → (false ≡ has_argument_beyond greatest form (arguments_in cut.arguments)) × (first_of (refusals_of_arguments causes form cut) ≡ None)
right_probabilities causes greatest form cut closed right = (
  sym (never_beyond greatest form (arguments_in cut.arguments) right.0),
  right_arguments causes form cut closed right.1 right.2,
)

none_wrong : (text : List ℕ) → text ≡ [] → has_wrong_arguments NoArguments (arguments_in text) ≡ false
unfolding has_wrong_arguments arguments_in
none_wrong text e = ap (λ t. has_wrong_arguments NoArguments (arguments_in t)) e

none_improbable : (arguments : List (List ℕ)) → has_wrong_probability NoArguments arguments ≡ false
unfolding has_wrong_probability
none_improbable arguments = refl

pub no_arguments : (causes : Causes) (greatest : ℕ) (form : ArgumentForm) (cut : Cut) → form ≡ NoArguments → cut.stays_open ≡ false → cut.arguments ≡ []
    → (false ≡ has_argument_beyond greatest form (arguments_in cut.arguments)) × (first_of (refusals_of_arguments causes form cut) ≡ None)
no_arguments causes greatest form cut asked closed none =
    let arguments = arguments_in cut.arguments in
    subst (λ f. (false ≡ has_argument_beyond greatest f arguments) × (first_of (refusals_of_arguments causes f cut) ≡ None)) (sym asked) (
      refl,
      right_arguments causes NoArguments cut closed (none_wrong cut.arguments none) (none_improbable arguments),
    )

-- ---- whole numbers

improbable : (arguments : List (List ℕ)) → has_wrong_probability WholeNumbers arguments ≡ false
unfolding has_wrong_probability
improbable arguments = refl

whole_right : (causes : Causes) (cut : Cut) → cut.stays_open ≡ false → has_wrong_arguments WholeNumbers (arguments_in cut.arguments) ≡ false
    → first_of (refusals_of_arguments causes WholeNumbers cut) ≡ None
whole_right causes cut closed right =
    right_arguments causes WholeNumbers cut closed right (improbable (arguments_in cut.arguments))

pub whole_numbers : (causes : Causes) (greatest : ℕ) (form : ArgumentForm) (cut : Cut) (beyond : Bool) → form ≡ WholeNumbers → cut.stays_open ≡ false
    → (beyond ≡ has_argument_beyond greatest WholeNumbers (arguments_in cut.arguments)) × (has_wrong_arguments WholeNumbers (arguments_in cut.arguments) ≡ false)
    → (beyond ≡ has_argument_beyond greatest form (arguments_in cut.arguments)) × (first_of (refusals_of_arguments causes form cut) ≡ None)
whole_numbers causes greatest form cut beyond asked closed h =
    subst (λ f. (beyond ≡ has_argument_beyond greatest f (arguments_in cut.arguments)) × (first_of (refusals_of_arguments causes f cut) ≡ None)) (sym asked) (h.0, whole_right causes cut closed h.1)

-- ---- a line's targets, and its block

-- what the questions of the targets give, or else those of the block
pub read-targets : {O T F : Type 0} (table : Table O T F) (depth : ℕ) (keyword : Keyword O) (beyond : Bool) (form : F) (text : List ℕ) (targets : List T) (found : Option Cause) → table.are_of_form form targets ≡ true
    → (beyond || table.has_target_beyond form targets) ≡ false → first_of (table.refusals_of_targets form text targets) ≡ found
    → first_of (refusals_of_read table depth keyword beyond form text (Some targets))
    ≡ option_or found (first_of (refusals_of_block table.causes depth keyword (table.turns_of targets)))
read-targets table depth keyword beyond form text targets found e b f =
    let block = refusals_of_block table.causes depth keyword (table.turns_of targets) in
    passes (not (table.are_of_form form targets)) table.causes.target ((beyond || table.has_target_beyond form targets, table.causes.number) ∷ (table.refusals_of_targets form text targets ++ block)) (ap not e)
    ∙ passes (beyond || table.has_target_beyond form targets) table.causes.number (table.refusals_of_targets form text targets ++ block) b
    ∙ first_of-append (table.refusals_of_targets form text targets) block
    ∙ ap (λ o. option_or o (first_of block)) f

no_block : {O : Type 0} (causes : Causes) (depth : ℕ) (keyword : Keyword O) (turns : ℕ) → opens_block keyword ≡ false → first_of (refusals_of_block causes depth keyword turns) ≡ None
no_block causes depth keyword turns e = rw e refl

-- where nothing is wrong
pub read-right : {O T F : Type 0} (table : Table O T F) (depth : ℕ) (keyword : Keyword O) (beyond : Bool) (form : F) (text : List ℕ) (targets : List T) → beyond ≡ false → opens_block keyword ≡ false
    → AreRight table form text targets → first_of (refusals_of_read table depth keyword beyond form text (Some targets)) ≡ None
read-right table depth keyword beyond form text targets b opens right =
    read-targets table depth keyword beyond form text targets None right.of_form (ap₂ (λ x y. x || y) b right.within) right.others
    ∙ no_block table.causes depth keyword (table.turns_of targets) opens

-- ---- a keyword's arguments

pub keyword-arguments : {O T F : Type 0} (table : Table O T F) (depth : ℕ) (keyword : Keyword O) (cut : Cut) (c : Cause) → first_of (refusals_of_arguments table.causes (table.argument_form keyword) cut) ≡ Some c
    → first_of (refusals_of_keyword table depth keyword cut) ≡ Some c
keyword-arguments table depth keyword cut c e =
    let form = table.target_form keyword in
    let rest : List (Bool × Cause) =
    refusals_of_read table depth keyword (has_argument_beyond table.greatest_coordinate (table.argument_form keyword) (arguments_in cut.arguments)) form cut.targets (table.line_targets form cut.targets) in
    first_of-append (refusals_of_arguments table.causes (table.argument_form keyword) cut) rest ∙ ap (λ o. option_or o (first_of rest)) e

-- ---- a line

line_judged : {O T F : Type 0} (table : Table O T F) (depth number : ℕ) (cut : Cut) (braces : Braces) → braces ≢ ClosingAlone → said_by table braces depth number cut ≡ judged table depth number cut
line_judged table depth number cut ClosingAlone other = absurd (other refl)
line_judged table depth number cut braces other = refl

pub reading-refused : {O T F : Type 0} (table : Table O T F) (depth number : ℕ) (cut : Cut) (c : Cause) → cut.braces ≢ ClosingAlone → refusal_of table depth cut ≡ Some c
    → reading_of table depth number cut ≡ Refuses c
unfolding reading_of judged
reading-refused table depth number cut c other e =
    line_judged table depth number cut cut.braces other
    ∙ ap (λ (refusal : Option Cause). unless_refused refusal (accepted table number (table.keyword_named cut.name) cut)) e

-- a line whose braces stand as its keyword asks
pub reading-keyword : {O T F : Type 0} (table : Table O T F) (depth number : ℕ) (cut : Cut) (keyword : Keyword O) → cut.braces ≢ ClosingAlone → table.keyword_named cut.name ≡ Some keyword
    → misplaces_brace (Some keyword) cut.braces ≡ false
    → reading_of table depth number cut ≡ unless_refused (first_of (refusals_of_keyword table depth keyword cut)) (accepted table number (Some keyword) cut)
unfolding reading_of judged
reading-keyword {O} table depth number cut keyword other n placed =
    line_judged table depth number cut cut.braces other
    ∙ ap₂ (λ (refusal : Option Cause) (named : Option (Keyword O)). unless_refused refusal (accepted table number named cut)) (refusal-keyword table depth cut keyword n placed) n
