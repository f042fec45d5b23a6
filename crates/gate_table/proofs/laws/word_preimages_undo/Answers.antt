use Rattle.gate_table.proofs.WordImageLaws.{image_at-preimage_at, preimage_at-image_at}
use Rattle.gate_table.proofs.PairImageLaws.{image_at_two-preimage_at_two, preimage_at_two-image_at_two}
use Rattle.gate_table.proofs.laws.word_preimages_undo.Goals as goal

pub returns : goal.returns
returns c =
    record {
      one = image_at-preimage_at;
      one_back = preimage_at-image_at;
      two = image_at_two-preimage_at_two;
      two_back = preimage_at_two-image_at_two;
    }
