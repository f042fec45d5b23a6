-- Bytes in front of a text that are known to be plain: those of its first line, and those behind it.
use Rattle.std.proofs.Common.{◌≡◌, ℕ, zero, suc, ◌+◌, ◌-◌, ◌≤◌, Bool, true, false, not, ◌&&◌, List, [], ◌∷◌, ◌++◌, length, take, drop, refl, ap, sym, ◌∙◌, subst, arith}
use Rattle.std.specs.List.{list_any, position_or_len}
use Rattle.std.proofs.lemmas.Bool.{or_parts}
use Rattle.std.proofs.Math.Seq.{length-take-le}
use Rattle.stim_lexer.specs.Bytes.{is_line_feed}
use Rattle.stim_lexer.specs.FirstLines.{IsFirstLine}
use Rattle.stim_lexer.specs.private.Special.{is_rare, is_special, IsPlain}
use Rattle.stim_lexer.proofs.ScanLemmas.{position_or_len-le-length}

none_in_less : (p : ℕ → Bool) (n m : ℕ) (text : List ℕ) → n ≤ m → list_any p (take m text) ≡ false → list_any p (take n text) ≡ false
none_in_less p zero m text le h = refl
none_in_less p (suc n) zero text le h = absurd (omega arith)
none_in_less p (suc n) (suc m) [] le h = refl
none_in_less p (suc n) (suc m) (b ∷ text) le h =
    let parts = or_parts (p b) (list_any p (take m text)) h in
    rw (parts.0) (none_in_less p n m text (omega arith) parts.1)

-- those behind a front are none where those of the whole are
none_past : (p : ℕ → Bool) (front rest : List ℕ) (m : ℕ) → list_any p (take m (front ++ rest)) ≡ false → list_any p (take (m - length front) rest) ≡ false
none_past p [] rest m h = let same : m - 0 ≡ m = omega arith in rw same h
none_past p (b ∷ front) rest zero h = let same : 0 - length (b ∷ front) ≡ 0 = omega arith in rw same refl
none_past p (b ∷ front) rest (suc m) h =
    let same : suc m - length (b ∷ front) ≡ m - length front = omega arith in
    rw same (none_past p front rest m (or_parts (p b) (list_any p (take m (front ++ rest))) h).1)

special_none : (special feed : Bool) → (special && not feed) ≡ false → feed ≡ false → special ≡ false
special_none true true h k = cc
special_none true false h k = cc
special_none false feed h k = refl

pub nothing_special : (line : List ℕ) → list_any is_rare line ≡ false → list_any is_line_feed line ≡ false → list_any is_special line ≡ false
nothing_special [] h k = refl
nothing_special (b ∷ line) h k =
    let rare = or_parts (is_rare b) (list_any is_rare line) h in
    let feed = or_parts (is_line_feed b) (list_any is_line_feed line) k in
    let none = special_none (is_special b) (is_line_feed b) rare.0 feed.0 in
    rw none (nothing_special line rare.1 feed.1)

pub line_plain : (front : ℕ) (text line after : List ℕ) → IsPlain front text → IsFirstLine text line after → length line ≤ front → list_any is_special line ≡ false
line_plain front text line after plain first le =
    let n = position_or_len is_line_feed text in
    let long : length line ≡ n = ap length first.cut ∙ length-take-le n text (position_or_len-le-length is_line_feed text) in
    nothing_special line
    (subst (λ (xs : List ℕ). list_any is_rare xs ≡ false) (sym first.cut) (none_in_less is_rare n front text (omega (arith, long, le)) plain.none))
    first.one

some_behind : (front behind : ℕ) (text line after : List ℕ) → IsPlain front text → text ≡ line ++ 10 ∷ after → behind ≤ front - (length line + 1) → list_any is_rare (take behind after) ≡ false
some_behind front behind text line after plain parts le =
    let whole : list_any is_rare (take front (line ++ 10 ∷ after)) ≡ false = subst (λ (xs : List ℕ). list_any is_rare (take front xs) ≡ false) parts plain.none in
    let past = none_past is_rare (10 ∷ []) after (front - length line) (none_past is_rare line (10 ∷ after) front whole) in
    none_in_less is_rare behind ((front - length line) - 1) after (omega (arith, le)) past

pub plain_behind : (front behind : ℕ) (text line after : List ℕ) → IsPlain front text → IsFirstLine text line after → behind ≤ front - (length line + 1) → behind ≤ length after → IsPlain behind after
plain_behind front zero text line after plain first le within = record { within = within; none = refl }
plain_behind front (suc behind) text line after plain first le within =
    record { within = within; none = some_behind front (suc behind) text line after plain (first.parts (omega (arith, within))) le }

none_longer : (p : ℕ → Bool) (n k : ℕ) (text : List ℕ) → list_any p (take n text) ≡ false → list_any p (take k (drop n text)) ≡ false → list_any p (take (n + k) text) ≡ false
none_longer p zero k text h more = let same : 0 + k ≡ k = omega arith in rw same more
none_longer p (suc n) k [] h more = let same : suc n + k ≡ suc (n + k) = omega arith in rw same refl
none_longer p (suc n) k (b ∷ text) h more =
    let parts = or_parts (p b) (list_any p (take n text)) h in
    let same : suc n + k ≡ suc (n + k) = omega arith in
    rw (same, parts.0) (none_longer p n k text parts.1 more)

pub plain_longer : (front k : ℕ) (text : List ℕ) → IsPlain front text → front + k ≤ length text → list_any is_rare (take k (drop front text)) ≡ false → IsPlain (front + k) text
plain_longer front k text plain le more = record { within = le; none = none_longer is_rare front k text plain.none more }
