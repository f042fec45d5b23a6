use Rattle.std.proofs.Common.{◌≡◌, List, ℤ, All, ◌+◌, ◌<◌, ◌++◌, ◌^◌, drop, length, take, subst, sym, ap, ◌∙◌, arith}
use Rattle.std.specs.Prelude.{nat_abs}
use Rattle.std.specs.List.{refill}
use Rattle.std.proofs.Math.Seq.{take-append_seam}
use Rattle.stim_parser.specs.Offsets.{shifted}
use Rattle.dem_text.specs.private.Offsets.{beyond_stated}
use Rattle.dem_text.proofs.ShiftLemmas.{long-padded, room-padded, shifted-padded}
use Rattle.dem_text.proofs.standing.add_stated.Goals as goal

-- all of a list is written over
refill-whole : (xs ws : List ℤ) → length ws ≡ length xs → refill (length xs) xs ws ≡ ws
refill-whole xs ws h =
    ap (λ n. take n (ws ++ drop (length ws) xs)) (sym h) ∙ take-append_seam ws (drop (length ws) xs)

pub add_all-requires : goal.add_all-requires
add_all-requires c =
    let offset = c.args.offset.now.items in
    let axes = length c.args.stated.now in
    let is = c.as_mut_slice.ensures.value ∙ c.lengthen.ensures in
    record {
      few = let long = long-padded axes offset in omega (arith, long, ap length is);
      room = subst (All (λ o. nat_abs o + beyond_stated < 2 ^ 127)) (sym is) (room-padded axes offset c.requires.room);
      small = c.requires.small;
    }

pub returns : goal.returns
returns c =
    let stated = c.args.stated.now in
    refill-whole c.lengthen.new.offset.items c.add_all.new.offset (c.add_all.ensures.long ∙ ap length c.as_mut_slice.ensures.value)
    ∙ c.add_all.ensures.added
    ∙ ap (λ (xs : List ℤ). shifted xs stated) (c.as_mut_slice.ensures.value ∙ c.lengthen.ensures)
    ∙ shifted-padded c.args.offset.now.items stated
