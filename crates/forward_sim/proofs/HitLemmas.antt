-- What words decide of faults and of coins: of bounds in front of others and behind them, of equal ones, of a part; and in front of a span, in it and behind it.
use Rattle.std.proofs.Common.{◌≡◌, ℕ, ◌+◌, ◌<◌, ◌≤◌, ◌%◌, false, List, ◌++◌, length, drop, get_or, replicate, take, sym, ap, ap₂, ◌∙◌, arith}
use Rattle.std.specs.Prelude.{◌==◌, ◌&&◌, ◌||◌, nat_lt}
use Rattle.std.proofs.lemmas.Bool.{le-ltb, lt-leb}
use Rattle.std.proofs.lemmas.List.{get_or-append-add, get_or-drop, get_or-map, get_or-replicate, get_or-take, get_or_append_left, length-drop, length-take-le}
use Rattle.forward_sim.specs.declared.span.Span.{Span}
use Rattle.forward_sim.specs.private.AllLanes.{coin_hits, fault_hits}
use Rattle.forward_sim.specs.private.BoundRuns.{bounds_above}
use Rattle.forward_sim.proofs.LaneLemmas.{is_tossed-before, is_tossed-behind}
use Rattle.forward_sim.proofs.RunLemmas.{none_below}

pub fault_front : (xs ys : List ℕ) (k word : ℕ) → k < length xs → fault_hits xs k word ≡ fault_hits (xs ++ ys) k word
fault_front xs ys k word h = ap (nat_lt word) (sym (get_or_append_left xs ys 0 k h))

pub fault_behind : (xs ys : List ℕ) (at k word : ℕ) → length xs ≡ at → fault_hits ys k word ≡ fault_hits (xs ++ ys) (at + k) word
fault_behind xs ys at k word long =
    ap (nat_lt word) (sym (ap (λ n. get_or (xs ++ ys) (n + k) 0) (sym long) ∙ get_or-append-add xs ys k 0))

pub fault_equal : (count bound k word : ℕ) → k < count → nat_lt word bound ≡ fault_hits (replicate count bound) k word
fault_equal count bound k word h = ap (nat_lt word) (sym (get_or-replicate count k bound 0 h))

pub fault_never : (count bound k word : ℕ) → k < count → bound ≡ 0 → false ≡ fault_hits (replicate count bound) k word
fault_never count bound k word h none = sym (none_below word bound none) ∙ fault_equal count bound k word h

-- of a part of the greatest words
pub fault_within : (greatest : List ℕ) (at n k word : ℕ) → at + n ≤ length greatest → k < n
    → fault_hits (bounds_above (take n (drop at greatest))) k word ≡ fault_hits (bounds_above greatest) (at + k) word
fault_within greatest at n k word within h =
    let part = take n (drop at greatest) in
    let long : length part ≡ n = length-take-le n (drop at greatest) (omega (arith, length-drop at greatest, within)) in
    ap (nat_lt word)
    (get_or-map (λ w. w + 1) part k 0 0 (omega (arith, h, long))
    ∙ (ap (λ w. w + 1) (get_or-take n (drop at greatest) k 0 h ∙ get_or-drop at greatest k 0)
    ∙ sym (get_or-map (λ w. w + 1) greatest (at + k) 0 0 (omega (arith, h, within)))))

pub coin_front : (passed : Span) (k word : ℕ) → k < passed.start → (word % 2 == 1) ≡ coin_hits passed k word
coin_front passed k word h = sym (ap (λ b. b && word % 2 == 1) (is_tossed-before passed k h))

pub coin_passed : (passed : Span) (k word : ℕ) → passed.start ≤ k → k < passed.end → false ≡ coin_hits passed k word
coin_passed passed k word low high =
    sym (ap₂ (λ a b. (a || b) && word % 2 == 1) (le-ltb k passed.start low) (lt-leb passed.end k high))

pub coin_behind : (passed : Span) (k word : ℕ) → passed.end ≤ k → (word % 2 == 1) ≡ coin_hits passed k word
coin_behind passed k word h = sym (ap (λ b. b && word % 2 == 1) (is_tossed-behind passed k h))
