use Rattle.std.proofs.Common.{ℕ, ◌≤◌, ◌≡◌, ◌∙◌, length, ap, leb-true, le-leb, arith}
use Rattle.bit_rows.specs.private.Words.{words_for}
use Rattle.bit_rows.proofs.Places.{row_long}
use Rattle.bit_rows.proofs.row.BitRow.is_short.Goals as goal

few : (words places long : ℕ) → words ≡ words_for places → long ≡ places → words ≤ 1 → long ≤ 64
few words places long e l h = omega (arith, e, l, h)

few_words : (words places long : ℕ) → words ≡ words_for places → long ≡ places → long ≤ 64 → words ≤ 1
few_words words places long e l h = omega (arith, e, l, h)

pub returns : goal.returns
returns g c =
    let long = row_long c.self.inside.places c.self.inside.words.items c.args.self.now c.self.view_is in
    let count = ap length c.as_slice.ensures.value ∙ c.self.invariant.held.count in (
      λ yes. few _ c.self.inside.places _ count long (leb-true _ _ yes),
      λ low. le-leb _ _ (few_words _ c.self.inside.places _ count long low),
    )
