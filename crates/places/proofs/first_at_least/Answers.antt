-- `places::first_at_least` meets its contract: the column is split where the library's binary search ends. Assumes nothing.
use Rattle.std.proofs.Common.{rules}
use lib.Signed.{lt_z}
use Rattle.std.proofs.lemmas.List.Sorted.{IsPartitionPoint-from_clause}
use Rattle.places.proofs.Steps.{rising-parted, split_of}
use Rattle.places.proofs.first_at_least.Goals as goal

pub returns : goal.returns
returns c =
    split_of _ _ _ c.partition_point.ensures.bound
    (IsPartitionPoint-from_clause (λ x. lt_z x c.args.bound) _ _ c.partition_point.ensures.partitioned
    (rising-parted _ _ c.requires) (λ a r f k. search rules))
