use Rattle.std.proofs.Common.{◌*◌, sym, ap, ◌∙◌, arith}
use Rattle.bit_rows.specs.Lanes.{lane_bit}
use Rattle.bit_rows.proofs.LaneLaws.{lane_bit-zero}
use Rattle.trackers.proofs.RowLists.{begun, one_more, none_in_word, all_listed}
use Rattle.trackers.proofs.row_list.list_word.Goals as goal

pub returns-then-rest-eq0 : goal.returns-then-rest-eq0
returns-then-rest-eq0 g c =
    none_in_word c.args.row.now (64 * c.args.k) c.args.into.now.items c.requires.listed
    (λ j below. sym (c.word-rest.ensures j below) ∙ (ap (lane_bit j) c.if-rest-eq0.true ∙ lane_bit-zero j))

pub loop-lane-init : goal.loop-lane-init
loop-lane-init g c =
    begun c.args.row.now (64 * c.args.k) c.word-rest.result _ _ _ (c.in_ok-reserve.ensures.items ∙ c.requires.listed) c.word-rest.ensures (omega (arith, c.in_ok-reserve.ensures.ok, c.in_ok-reserve.ensures.len))

pub loop-lane-preserved : goal.loop-lane-preserved
loop-lane-preserved g c =
    one_more c.args.row.now (64 * c.args.k) c.loop-lane.rest c.loop-lane.into.items _ _ c.loop-lane.invariant c.in-Some.lane c.in-Some.ensures.within c.in-Some.ensures.is_set
    c.without_bit-rest.result c.push_reserved.new.self.items _ _ c.in-Some.ensures.before c.without_bit-rest.ensures.lanes c.push_reserved.ensures.items c.push_reserved.ensures.len c.push_reserved.ensures.capacity

pub returns : goal.returns
returns g c =
    all_listed c.args.row.now (64 * c.args.k) c.loop-lane.rest c.loop-lane.into.items _ _ c.loop-lane.invariant c.in_default.ensures.none
