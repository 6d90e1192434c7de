-- a² + b² is at most 3.3 * 10^12, so 10^6 of it fits. Assumes nothing.
use native.Mathlib.Omega.{arith}
use Rattle.chroma.specs.Chroma.{chroma_of}
use Rattle.chroma.proofs.ChromaLaws.{squares-le, sum_of_squares-is}
use Rattle.chroma.proofs.chroma.Goals as goal

pub overflow_mul-sum_of_squares : goal.overflow_mul-sum_of_squares
overflow_mul-sum_of_squares c =
    omega (arith, sum_of_squares-is c.args.a c.args.b, squares-le c.requires.a_bound c.requires.b_bound)

pub returns : goal.returns
unfolding chroma_of
returns c = cc
