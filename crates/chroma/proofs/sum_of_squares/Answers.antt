-- Neither square wraps, nor their sum. Assumes nothing.
use Rattle.chroma.proofs.ChromaLaws.{sum_of_squares-is}
use Rattle.chroma.proofs.sum_of_squares.Goals as goal

pub returns : goal.returns
returns c = sum_of_squares-is _ _
