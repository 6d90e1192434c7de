-- `difference::cie94::hue_difference94` meets its contract. Assumes nothing.
use Rattle.difference.proofs.Pairs.{both-coloured, pair_hue_difference-is}
use Rattle.difference.proofs.cie94.hue_difference94.Goals as goal

pub hue_difference-requires : goal.hue_difference-requires
hue_difference-requires c =
    record {
      first_primed = c.plain.ensures.coloured.bounded;
      second_primed = c.plain-2.ensures.coloured.bounded;
      not_grey = both-coloured c.args.s c.args.t _ _ _ c.side_of-side.ensures c.plain.ensures.coloured c.plain-2.ensures.coloured;
    }

pub returns : goal.returns
returns c =
    record {
      is = pair_hue_difference-is c.args.s c.args.t _ _ _ c.side_of-side.ensures
          c.plain.ensures.is c.plain-2.ensures.is _ c.hue_difference.ensures.is;
      size = c.hue_difference.ensures.size;
    }
