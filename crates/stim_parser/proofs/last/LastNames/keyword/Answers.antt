use Rattle.std.proofs.Common.{◌≡◌, [], None, length-set, ap, ◌∙◌, rules, arith}
use Rattle.std.specs.Prelude.{slice_index_or}
use Rattle.std.proofs.lemmas.List.Elements.{All-set}
use Rattle.stim_parser.specs.declared.last.Named.{Named}
use Rattle.stim_parser.specs.Instructions.{keyword_named}
use Rattle.stim_parser.proofs.last.LastNames.keyword.Goals as goal

pub returns-then-eq : goal.returns-then-eq
returns-then-eq c =
    let none : Named = record { name = record { ref_ptr = (0, 0); now = [] }; keyword = None } in
    let same : (slice_index_or c.self.inside.names c.place_of-place.result none).name.now ≡ c.args.name.now = search rules in
    c.self.invariant.1 c.place_of-place.result none (omega (arith, c.self.invariant.0, c.place_of-place.ensures)) ∙ ap keyword_named same

pub invariant_of-self : goal.invariant_of-self
invariant_of-self c =
    let named : Named = record { name = c.args.name; keyword = c.keyword_named-keyword.result } in (
      length-set c.self.inside.names c.place_of-place.result named ∙ c.self.invariant.0,
      All-set (λ (n : Named). n.keyword ≡ keyword_named n.name.now) c.self.inside.names c.place_of-place.result named c.keyword_named-keyword.ensures c.self.invariant.1,
    )
