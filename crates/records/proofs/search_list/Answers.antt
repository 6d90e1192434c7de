-- `records::search_list` meets its contract. Assumes nothing.
use Rattle.std.proofs.Common.{◌≡◌, length, rules, ap, ◌∙◌, take}
use Rattle.std.proofs.lemmas.List.{take_min}
use Rattle.deck.specs.Deck.{most_swatches}
use Rattle.records.proofs.search_list.Goals as goal

pub returns : goal.returns
returns c =
    let size : length c.args.list ≡ most_swatches = search rules in
    let first = ap (λ m. take m c.args.list) c.min.ensures ∙ (rw size at (take_min c.args.n c.args.list)) in
    rw first at c.search.ensures.searches
