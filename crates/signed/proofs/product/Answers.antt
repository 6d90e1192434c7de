-- `signed::product` meets its contract. Assumes nothing.
use Rattle.signed.proofs.Results.{product_is}
use Rattle.signed.proofs.product.Goals as goal

pub returns : goal.returns
returns c = product_is _ _
