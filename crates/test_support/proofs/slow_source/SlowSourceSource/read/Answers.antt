use Rattle.std.proofs.Common.{◌≡◌, ℕ, ◌-◌, ◌<◌, List, [], ◌∷◌, ◌++◌, length, take, drop, set, get_or, Some, ap, sym, rules, arith}
use Rattle.std.proofs.lemmas.List.{take_all}
use Rattle.test_support.proofs.slow_source.SlowSourceSource.read.Goals as goal

-- the first byte, and then the others
one_byte : (bytes buffer : List ℕ) → 0 < length bytes → 0 < length buffer
    → bytes ≡ take 1 (set buffer 0 (get_or bytes 0 0)) ++ take (length bytes - 1) (drop 1 bytes)
one_byte [] buffer some room = absurd (omega arith)
one_byte (b ∷ bytes) [] some room = absurd (omega arith)
one_byte (b ∷ bytes) (c ∷ buffer) some room = ap (λ rest. b ∷ rest) (sym (take_all _ bytes (omega arith)))

pub returns-clause-handed_out : goal.returns-clause-handed_out
returns-clause-handed_out c =
    ap Some (one_byte c.args.self.now.left.now c.args.buffer.now (search rules) c.requires)
