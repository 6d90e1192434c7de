-- `records::search` meets its contract. Assumes nothing.
use Rattle.records.proofs.RecordsLaws.{search-many}
use Rattle.std.proofs.Common.{rules}
use Rattle.records.proofs.search.Goals as goal

pub returns-then-n-gt-MOST_SWATCHES-clause-searches : goal.returns-then-n-gt-MOST_SWATCHES-clause-searches
returns-then-n-gt-MOST_SWATCHES-clause-searches c =
    search-many c.args.records.now _ _ _ _ _ _ (search rules) c.if-n-gt-MOST_SWATCHES.true c.search.ensures.searches
